use Rattle.tree_search.proofs.Words.{◌+◌, ◌∙◌, subst, arith, SearchState, Proceeds, Settled}
use Rattle.tree_search.proofs.Steps.{top_place, top_hops, top_settled, search_drops, search_settles, settles_one}
use Rattle.tree_search.proofs.search.Search.settle_next.Goals as goal

pub index-requires : goal.index-requires
index-requires g c = omega (arith, top_place c.self.invariant c.in-Some.ensures.items, c.self.invariant.settled_count, c.self.inside.settled.ok.0)

pub index_mut-requires : goal.index_mut-requires
index_mut-requires g c = omega (arith, top_place c.self.invariant c.in-Some.ensures.items, c.self.invariant.settled_count, c.self.inside.settled.ok.0)

pub overflow_add-v : goal.overflow_add-v
overflow_add-v g c = omega (arith, top_place c.self.invariant c.in-Some.ensures.items, c.self.invariant.roads.few_vertices)

pub relax-requires-clause-vertex : goal.relax-requires-clause-vertex
relax-requires-clause-vertex g c κs within = (omega arith, omega (arith, top_place c.self.invariant c.in-Some.ensures.items))

pub relax-requires-clause-hops : goal.relax-requires-clause-hops
relax-requires-clause-hops g c κs within =
    let laws = g.met.A.PathAlgebra g.world.𝓛 g.world.𝓜 g.world.𝓡 ((λ s x. x), (λ x. x), (λ x. x), λ x. x) in
    top_hops laws.ordered c.self.invariant c.in-Some.ensures.items (top_settled c.self.invariant c.in-Some.ensures.items _ c.index.ensures ∙ c.if-index.false) c.in-Some.ensures.best

pub invariant_of-self-2 : goal.invariant_of-self-2
invariant_of-self-2 g c =
    let laws = g.met.A.PathAlgebra g.world.𝓛 g.world.𝓜 g.world.𝓡 ((λ s x. x), (λ x. x), (λ x. x), λ x. x) in
    search_settles laws.ordered c.self.invariant c.in-Some.ensures.items

pub invariant_of-self-then-index : goal.invariant_of-self-then-index
invariant_of-self-then-index g c =
    let laws = g.met.A.PathAlgebra g.world.𝓛 g.world.𝓜 g.world.𝓡 ((λ s x. x), (λ x. x), (λ x. x), λ x. x) in
    search_drops laws.ordered c.self.invariant c.in-Some.ensures.items (top_settled c.self.invariant c.in-Some.ensures.items _ c.index.ensures ∙ c.if-index.true)

pub returns : goal.returns
returns g c =
    let laws = g.met.A.PathAlgebra g.world.𝓛 g.world.𝓜 g.world.𝓡 ((λ s x. x), (λ x. x), (λ x. x), λ x. x) in
    subst (λ (s : SearchState g.row.A.Denot g.row.A-Value.Denot). Proceeds g.A.PathAlgebra.order (g.A.PathAlgebra.meaning s.algebra) (Settled (c.in-Some.top.rank.place + 1)) s c.relax.new.self) c.self.view_is
    (settles_one laws.ordered c.self.invariant c.in-Some.ensures.items (top_settled c.self.invariant c.in-Some.ensures.items _ c.index.ensures ∙ c.if-index.false)
    c.in-Some.ensures.best c.self.inside.algebra (g.A.PathAlgebra.meaning c.self.inside.algebra) c.relax.new.self
    c.in_ok-relax.ensures.same c.in_ok-relax.ensures.relaxes c.in_ok-relax.ensures.few c.in-Some.ensures.len)
