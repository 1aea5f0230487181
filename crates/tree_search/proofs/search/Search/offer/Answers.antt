use Rattle.tree_search.proofs.Words.{◌≡◌, ◌-◌, ◌<◌, length, ◌∙◌, arith, refl, sym, unsettled}
use Rattle.tree_search.proofs.Steps.{search_offers, search_lessens}
use Rattle.tree_search.proofs.search.Search.offer.Goals as goal

pub invariant_of-self-then-is_better : goal.invariant_of-self-then-is_better
invariant_of-self-then-is_better g c =
    let laws = g.met.A.PathAlgebra g.world.𝓛 g.world.𝓜 g.world.𝓡 ((λ s x. x), (λ x. x), (λ x. x), λ x. x) in
    let k = c.v.inside.0 - 1 in
    let n : c.self.inside.graph.value.vertices ≡ c.args.self.now.roads.vertices = λ i. (c.self.view_is i).roads.vertices in
    let s : unsettled c.self.inside.settled.items ≡ unsettled c.args.self.now.settled = λ i. unsettled (c.self.view_is i).settled in
    let lt : k < length c.self.inside.marks = omega (arith, c.requires.vertex.0, c.requires.vertex.1, n, c.v.view_is, c.self.invariant.marks_count) in
    rw c.set.ensures (search_offers laws.ordered c.self.invariant k (record { value = c.args.value; hops = c.args.hops; parent = c.args.parent }) _ _ lt
    (sym c.is_better.ensures ∙ c.if-is_better.true) (omega (arith, c.requires.hops, n, s)) c.in_ok-push.ensures.items refl refl)

pub invariant_of-self-then-is_lesser : goal.invariant_of-self-then-is_lesser
invariant_of-self-then-is_lesser g c =
    let laws = g.met.A.PathAlgebra g.world.𝓛 g.world.𝓜 g.world.𝓡 ((λ s x. x), (λ x. x), (λ x. x), λ x. x) in
    let k = c.v.inside.0 - 1 in
    let n : c.self.inside.graph.value.vertices ≡ c.args.self.now.roads.vertices = λ i. (c.self.view_is i).roads.vertices in
    let s : unsettled c.self.inside.settled.items ≡ unsettled c.args.self.now.settled = λ i. unsettled (c.self.view_is i).settled in
    let lt : k < length c.self.inside.marks = omega (arith, c.requires.vertex.0, c.requires.vertex.1, n, c.v.view_is, c.self.invariant.marks_count) in
    rw c.set-then-is_lesser.ensures (search_lessens laws.ordered c.self.invariant k (record { value = c.args.value; hops = c.args.hops; parent = c.args.parent }) lt
    (sym c.is_better.ensures ∙ c.if-is_better.false) (sym c.is_lesser.ensures ∙ c.if-is_lesser.true) (omega (arith, c.requires.hops, n, s)))
