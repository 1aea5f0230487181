use Rattle.answer_lists.proofs.Words.{◌≡◌, ◌+◌, ◌++◌, ◌∷◌, [], ℕ, List, ◌∙◌, take, drop, sym, subst, Under, IsBestCode, IsRouteBetween, AreRouteArcs}
use Rattle.std.proofs.lemmas.List.{length-take-le, take_at}
use Rattle.answer_lists.proofs.route_arcs.write_first_arcs.Goals as goal

pub returns-clause-arcs : goal.returns-clause-arcs
returns-clause-arcs c =
    let a = c.args in let route = take (a.hops + 1) a.room.now in
    let long = c.write_arcs.auto.arcs in
    let there : take a.hops (c.write_arcs.new.arcs ++ drop a.hops a.arcs.now) ≡ c.write_arcs.new.arcs = take_at c.write_arcs.new.arcs (drop a.hops a.arcs.now) a.hops (long ∙ length-take-le a.hops a.arcs.now c.requires.places) in
    subst (λ (xs : List ℕ). Under a.chosen (λ V A. (s t code : ℕ) → IsRouteBetween A a.graph.now s t route → IsBestCode A a.graph.now (s ∷ []) t code → AreRouteArcs A a.numbers.now.numbered route xs code))
    (sym there) c.write_arcs.ensures
