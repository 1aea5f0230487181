use Rattle.path_plain.proofs.Words.{◌∙◌, subst, arith, true, SearchState, Advances}
use Rattle.path_plain.proofs.Steps.{top_place, top_settled, search_drops, search_settles, settles_one}
use Rattle.path_plain.proofs.search.Search.settle_next.Goals as goal

pub index-requires : goal.index-requires
index-requires g c = omega (arith, top_place c.self.invariant c.in-Some.ensures.items, c.self.invariant.settled_count, c.self.inside.settled.ok.0)

pub index_mut-requires : goal.index_mut-requires
index_mut-requires g c = omega (arith, top_place c.self.invariant c.in-Some.ensures.items, c.self.invariant.settled_count, c.self.inside.settled.ok.0)

pub overflow_cast-i : goal.overflow_cast-i
overflow_cast-i g c = omega (arith, top_place c.self.invariant c.in-Some.ensures.items, c.self.invariant.roads.few_vertices)

pub overflow_add-i : goal.overflow_add-i
overflow_add-i g c = omega (arith, top_place c.self.invariant c.in-Some.ensures.items, c.self.invariant.roads.few_vertices)

pub relax-requires-clause-vertex : goal.relax-requires-clause-vertex
relax-requires-clause-vertex g c κs within = (omega arith, omega (arith, top_place c.self.invariant c.in-Some.ensures.items))

pub invariant_of-self-then-not-index : goal.invariant_of-self-then-not-index
invariant_of-self-then-not-index g c =
    let laws = g.met.A.PathAlgebra g.world.𝓛 g.world.𝓜 g.world.𝓡 ((λ s x. x), (λ x. x), (λ x. x), λ x. x) in
    search_settles c.self.invariant c.in-Some.ensures.items laws.ordered

pub invariant_of-self-else-not-index : goal.invariant_of-self-else-not-index
invariant_of-self-else-not-index g c =
    let laws = g.met.A.PathAlgebra g.world.𝓛 g.world.𝓜 g.world.𝓡 ((λ s x. x), (λ x. x), (λ x. x), λ x. x) in
    search_drops c.self.invariant c.in-Some.ensures.items laws.ordered (top_settled c.self.invariant c.in-Some.ensures.items _ c.index.ensures ∙ c.if-not-index.false)

pub returns-in_ok-relax-clause-advances : goal.returns-in_ok-relax-clause-advances
returns-in_ok-relax-clause-advances g c =
    let laws = g.met.A.PathAlgebra g.world.𝓛 g.world.𝓜 g.world.𝓡 ((λ s x. x), (λ x. x), (λ x. x), λ x. x) in
    subst (λ (s : SearchState g.row.A.Denot g.row.A-Value.Denot). Advances g.A.PathAlgebra.order (g.A.PathAlgebra.meaning s.algebra) true s c.relax.new.self) c.self.view_is
    (settles_one c.self.invariant c.in-Some.ensures.items laws.ordered c.self.inside.algebra (g.A.PathAlgebra.meaning c.self.inside.algebra) c.relax.new.self
    (top_settled c.self.invariant c.in-Some.ensures.items _ c.index.ensures ∙ c.if-not-index.true)
    c.in-Some.ensures.best c.in_ok-relax.ensures.same c.in_ok-relax.ensures.relaxes c.in_ok-relax.ensures.few c.in-Some.ensures.len)
