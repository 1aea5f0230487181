use Rattle.path_plain.proofs.Words.{◌≡◌, ◌∙◌, sym, subst, Some, label_of, SearchState, IsPast}
use Rattle.path_plain.proofs.UpTo.{queue_past, not_true}
use Rattle.path_plain.proofs.search.Search.is_past.Goals as goal

pub returns-in-Some-first : goal.returns-in-Some-first
returns-in-Some-first g c =
    let order = g.A.PathAlgebra.order in
    let laws = g.met.A.PathAlgebra g.world.𝓛 g.world.𝓜 g.world.𝓡 ((λ s x. x), (λ x. x), (λ x. x), λ x. x) in
    let labels = c.self.inside.labels in
    let settled = c.self.inside.settled.items in
    let at_target : label_of labels c.args.target ≡ Some c.in-Some.t = sym c.of.ensures ∙ c.in-Some.is in
    λ t.
    subst (λ (s : SearchState g.row.A.Denot g.row.A-Value.Denot). IsPast order s.labels s.settled c.args.target) c.self.view_is
    (queue_past (λ o. o.value) (λ o. o.rank) order laws.ordered labels settled c.self.inside.queue c.self.invariant.queue _ c.in-Some-first.ensures.best c.args.target c.in-Some.t at_target
    (sym c.no_worse.ensures ∙ not_true c.no_worse.result t))
