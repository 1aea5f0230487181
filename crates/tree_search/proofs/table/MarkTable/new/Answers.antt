use Rattle.std.proofs.Common.{rules, ◌≡◌, ℕ, replicate, ap, ◌∙◌, Option, None}
use Rattle.tree_search.proofs.Rows.{empty_rows, empty_marks}
use Rattle.tree_search.proofs.table.MarkTable.new.Goals as goal

pub invariant_of-result : goal.invariant_of-result
invariant_of-result g c =
    let n = c.args.n in
    let values : c.in_ok-values.values.items ≡ replicate n None = c.in_ok-values.ensures.items_if_clones_equal (λ y h. search rules) in
    let hops : c.in_ok-hops.hops.items ≡ replicate n None = c.in_ok-hops.ensures.items_if_clones_equal (λ y h. search rules) ∙ ap (λ (o : Option ℕ). replicate n o) c.none.ensures in
    let parents : c.in_ok-parents.parents.items ≡ replicate n None = c.in_ok-parents.ensures.items_if_clones_equal (λ y h. search rules) ∙ ap (λ (o : Option ℕ). replicate n o) c.none-2.ensures in
    rw (values, hops, parents) (empty_rows g.row.A-Value.Denot n)

pub returns : goal.returns
returns g c =
    let n = c.args.n in
    let values : c.in_ok-values.values.items ≡ replicate n None = c.in_ok-values.ensures.items_if_clones_equal (λ y h. search rules) in
    let hops : c.in_ok-hops.hops.items ≡ replicate n None = c.in_ok-hops.ensures.items_if_clones_equal (λ y h. search rules) ∙ ap (λ (o : Option ℕ). replicate n o) c.none.ensures in
    let parents : c.in_ok-parents.parents.items ≡ replicate n None = c.in_ok-parents.ensures.items_if_clones_equal (λ y h. search rules) ∙ ap (λ (o : Option ℕ). replicate n o) c.none-2.ensures in
    rw (values, hops, parents) (empty_marks g.row.A-Value.Denot n)
