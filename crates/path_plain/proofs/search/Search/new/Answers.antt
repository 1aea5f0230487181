use Rattle.std.proofs.Common.{◌≡◌, ◌∙◌, ap, false, None, replicate, rules}
use Rattle.path_plain.proofs.Steps.{search_blank}
use Rattle.path_plain.proofs.search.Search.new.Goals as goal

pub invariant_of-result : goal.invariant_of-result
invariant_of-result g c =
    let labels : c.in_ok-labels.labels.items ≡ replicate c.args.graph.now.vertices None =
    c.in_ok-labels.ensures.items_if_clones_equal (λ y e. search rules) ∙ ap (λ n. replicate n None) c.vertices-n.ensures.count in
    let settled : c.in_ok-settled.settled.items ≡ replicate c.args.graph.now.vertices false =
    c.in_ok-settled.ensures.items_if_clones_equal (λ y e. search rules) ∙ ap (λ n. replicate n false) c.vertices-n.ensures.count in
    rw (c.of.ensures, c.from_vec.ensures, labels, settled, c.new.ensures)
    (search_blank (λ o. o.value) (λ o. o.rank) g.A.PathAlgebra.order c.args.graph.now c.holds.ensures c.args.touched c.requires)
