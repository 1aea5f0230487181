use Rattle.tree_search.proofs.Words.{◌≡◌, ℕ, ◌+◌, ◌-◌, ◌∙◌, refl, ap, subst, set, length, arith, true, SearchState, Forgoes, Settled}
use Rattle.tree_search.proofs.Steps.{top_place, top_settled, search_drops, search_settles}
use Rattle.tree_search.proofs.search.Search.forgo_next.Goals as goal

pub index-requires : goal.index-requires
index-requires g c = omega (arith, top_place c.self.invariant c.in-Some.ensures.items, c.self.invariant.settled_count, c.self.inside.settled.ok.0)

pub index_mut-requires : goal.index_mut-requires
index_mut-requires g c = omega (arith, top_place c.self.invariant c.in-Some.ensures.items, c.self.invariant.settled_count, c.self.inside.settled.ok.0)

pub overflow_add-result : goal.overflow_add-result
overflow_add-result g c = omega (arith, top_place c.self.invariant c.in-Some.ensures.items, c.self.invariant.roads.few_vertices)

pub invariant_of-self-2 : goal.invariant_of-self-2
invariant_of-self-2 g c =
    let laws = g.met.A.PathAlgebra g.world.𝓛 g.world.𝓜 g.world.𝓡 ((λ s x. x), (λ x. x), (λ x. x), λ x. x) in
    search_settles laws.ordered c.self.invariant c.in-Some.ensures.items

pub invariant_of-self-then-index : goal.invariant_of-self-then-index
invariant_of-self-then-index g c =
    let laws = g.met.A.PathAlgebra g.world.𝓛 g.world.𝓜 g.world.𝓡 ((λ s x. x), (λ x. x), (λ x. x), λ x. x) in
    search_drops laws.ordered c.self.invariant c.in-Some.ensures.items (top_settled c.self.invariant c.in-Some.ensures.items _ c.index.ensures ∙ c.if-index.true)

pub returns : goal.returns
returns g c =
    let i = c.in-Some.top.rank.place in
    let back : i ≡ (i + 1) - 1 = omega arith in
    let old : SearchState g.row.A.Denot g.row.A-Value.Denot =
    record { algebra = c.self.inside.algebra; roads = c.self.inside.graph.value; marks = c.self.inside.marks; settled = c.self.inside.settled.items; waiting = length c.self.inside.queue } in
    let new : SearchState g.row.A.Denot g.row.A-Value.Denot =
    record { algebra = c.self.inside.algebra; roads = c.self.inside.graph.value; marks = c.self.inside.marks; settled = set c.self.inside.settled.items i true; waiting = length c.pop.new.self } in
    let one : Forgoes g.A.PathAlgebra.order (g.A.PathAlgebra.meaning c.args.self.now.algebra) (Settled (i + 1)) old new = record {
      roads = refl;
      rests = ((omega arith, omega (arith, top_place c.self.invariant c.in-Some.ensures.items)), refl, ap (λ (j : ℕ). set c.self.inside.settled.items j true) back, omega (arith, c.in-Some.ensures.len));
    } in
    subst (λ (s : SearchState g.row.A.Denot g.row.A-Value.Denot). Forgoes g.A.PathAlgebra.order (g.A.PathAlgebra.meaning c.args.self.now.algebra) (Settled (i + 1)) s new) c.self.view_is one
