use Rattle.path_factors.proofs.Words.{◌≡◌, ◌∙◌, length, ap, sym, arith, links_of, heads_packed}
use Rattle.path_factors.proofs.Packing.{rows_count}
use Rattle.path_factors.proofs.Setting.{blank}
use Rattle.path_factors.proofs.packed.PackedRows.blank.Goals as goal

pub invariant_of-result : goal.invariant_of-result
invariant_of-result g c =
    record {
      fields = record {
        leaving_count = omega (arith, c.in_ok-leaving.ensures.count, c.len-count.ensures);
        entering_count = omega (arith, c.in_ok-entering.ensures.count, c.len-count.ensures);
      };
      packed = c.heads.invariant;
    }

pub returns-clause-count : goal.returns-clause-count
returns-clause-count g c =
    let starts = c.heads.inside.starts.items in
    let places = c.heads.inside.places.items in
    rows_count starts (links_of places c.in_ok-leaving.leaving.items) ∙ sym (rows_count starts places) ∙ ap length c.heads.view_is

pub returns-clause-leaving : goal.returns-clause-leaving
returns-clause-leaving g c =
    let places = c.heads.inside.places.items in
    let n : length c.in_ok-leaving.leaving.items ≡ length places = omega (arith, c.in_ok-leaving.ensures.count, c.len-count.ensures) in
    heads_packed c.heads.inside.starts.items places c.in_ok-leaving.leaving.items n ∙ c.heads.view_is

pub returns-clause-entering : goal.returns-clause-entering
returns-clause-entering g c =
    let places = c.heads.inside.places.items in
    let n : length c.in_ok-entering.entering.items ≡ length places = omega (arith, c.in_ok-entering.ensures.count, c.len-count.ensures) in
    heads_packed c.heads.inside.starts.items places c.in_ok-entering.entering.items n ∙ c.heads.view_is

pub returns-clause-risers : goal.returns-clause-risers
returns-clause-risers g c =
    blank c.heads.inside.starts.items c.heads.inside.places.items c.in_ok-leaving.leaving.items c.args.none c.in_ok-leaving.ensures.all

pub returns-clause-fallers : goal.returns-clause-fallers
returns-clause-fallers g c =
    blank c.heads.inside.starts.items c.heads.inside.places.items c.in_ok-entering.entering.items c.args.none c.in_ok-entering.ensures.all
