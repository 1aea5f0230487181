use Rattle.path_factors.proofs.Words.{◌≡◌, ◌∙◌, length, ap, arith, sym, subst, LinkRows, heads_in, links_of, heads_packed}
use Rattle.path_factors.proofs.Packing.{rows_count}
use Rattle.path_factors.proofs.packed.PackedRows.len.Goals as goal

pub overflow_sub-result : goal.overflow_sub-result
overflow_sub-result g c = let some = c.self.invariant.packed.some in omega (arith, some, c.len.ensures)

pub returns-clause-count : goal.returns-clause-count
returns-clause-count g c =
    let s = c.self.inside in
    let m = ap (λ (l : LinkRows g.row.W.Denot). length l.leaving) c.self.view_is in
    omega (arith, rows_count s.starts.items (links_of s.places.items s.leaving.items), m, c.len.ensures)

pub returns-clause-entering : goal.returns-clause-entering
returns-clause-entering g c =
    let s = c.self.inside in
    let m = ap (λ (l : LinkRows g.row.W.Denot). length l.entering) c.self.view_is in
    omega (arith, rows_count s.starts.items (links_of s.places.items s.entering.items), m, c.len.ensures)

pub returns-clause-heads : goal.returns-clause-heads
returns-clause-heads g c =
    let s = c.self.inside in
    let f = c.self.invariant.fields in
    subst (λ (l : LinkRows g.row.W.Denot). heads_in l.entering ≡ heads_in l.leaving) c.self.view_is
    (heads_packed s.starts.items s.places.items s.entering.items f.entering_count
    ∙ sym (heads_packed s.starts.items s.places.items s.leaving.items f.leaving_count))
