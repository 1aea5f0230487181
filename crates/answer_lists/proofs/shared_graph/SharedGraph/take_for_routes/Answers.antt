use Rattle.answer_lists.proofs.Words.{◌≡◌, ◌∙◌, Option, Some, subst, sym, arc_value, IfSome, GraphData, Kept, IsKeptOver}
use Rattle.answer_lists.proofs.shared_graph.SharedGraph.take_for_routes.Goals as goal

pub returns-then-turn_to-clause-over : goal.returns-then-turn_to-clause-over
returns-then-turn_to-clause-over c =
    let roads : arc_value c.self.inside.graph ≡ c.args.self.now.roads = λ i. (c.self.view_is i).roads in
    let is : c.self.inside.for_routes ≡ Some c.in-Some.kept = sym c.take.ensures.value ∙ c.in-Some.is in
    c.turn_to.ensures.over c.args.self.now.roads
    (subst (λ (g : GraphData). IsKeptOver g c.in-Some.kept) roads
    (subst (λ (o : Option Kept). IfSome o (IsKeptOver (arc_value c.self.inside.graph))) is c.self.invariant.3))

pub returns-clause-over : goal.returns-clause-over
returns-clause-over c = c.new.ensures.over c.args.self.now.roads
