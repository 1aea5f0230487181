use Rattle.path_factors.proofs.Words.{◌∙◌, List, ℕ, length, ap, arith, sym, LinkRows, row_of, heads_in, rows_between, heads_packed}
use Rattle.path_factors.proofs.Packing.{row_inside}
use Rattle.path_factors.proofs.packed.PackedRows.heads.Goals as goal

pub row_between-requires-clause-packed : goal.row_between-requires-clause-packed
row_between-requires-clause-packed g c = rw (c.deref.ensures.value, c.deref-2.ensures.value) c.self.invariant.packed

pub row_between-requires-clause-inside : goal.row_between-requires-clause-inside
row_between-requires-clause-inside g c = omega (arith, row_inside c.self.invariant c.self.view_is c.args.i c.requires, ap length c.deref.ensures.value)

pub returns : goal.returns
returns g c =
    let s = c.self.inside in
    c.row_between.ensures
    ∙ ap (λ (l : List ℕ). row_of (rows_between l c.deref-2.result.now) c.args.i) c.deref.ensures.value
    ∙ ap (λ (l : List ℕ). row_of (rows_between s.starts.items l) c.args.i) c.deref-2.ensures.value
    ∙ ap (λ (h : List (List ℕ)). row_of h c.args.i) (sym (heads_packed s.starts.items s.places.items s.leaving.items c.self.invariant.fields.leaving_count))
    ∙ ap (λ (l : LinkRows g.row.W.Denot). row_of (heads_in l.leaving) c.args.i) c.self.view_is
