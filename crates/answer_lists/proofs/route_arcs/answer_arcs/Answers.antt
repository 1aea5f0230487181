use Rattle.answer_lists.proofs.Words.{◌≡◌, ℕ, ◌+◌, ◌∙◌, List, [], ◌∷◌, length, take, ap, sym, subst, GraphData, Under, IsBestCode, IsRouteBetween, found_of, AreRouteArcs, Shared}
use Rattle.answer_lists.proofs.RouteArcs.{arcs_there, route_there, told_else}
use Rattle.answer_lists.proofs.route_arcs.answer_arcs.Goals as goal

pub returns-in-Err-clause-tells : goal.returns-in-Err-clause-tells
returns-in-Err-clause-tells c =
    let a = c.args in told_else a.chosen a.shared.now.roads a.pair.source a.pair.target c.in-Err.status _ _ _ c.in-Err.ensures.status c.in-Err.ensures.none

pub write_first_arcs-requires-clause-route : goal.write_first_arcs-requires-clause-route
write_first_arcs-requires-clause-route c =
    let a = c.args in let s = a.pair.source in let t = a.pair.target in let found = c.in-Ok.found in let room = c.copy.new.room in
    let same = c.graph.ensures ∙ ap (λ (s : Shared). s.roads) c.find.ensures.graph in
    let listed = subst (λ (xs : List ℕ). take (length xs) room ≡ xs) c.deref.ensures.value c.copy.ensures.list in
    let written : take (found.hops + 1) room ≡ found.route.items = subst (λ (n : ℕ). take n room ≡ found.route.items) c.in-Ok.ensures.count listed in (
      s,
      t,
      subst (λ (g : GraphData). Under a.chosen (λ V A. IsRouteBetween A g s t (take (found.hops + 1) room))) (sym same)
          (route_there a.chosen a.shared.now.roads s t (found_of found) c.in-Ok.ensures.found room written),
    )

pub returns-clause-arcs : goal.returns-clause-arcs
returns-clause-arcs c = λ _.
    let a = c.args in let s = a.pair.source in let t = a.pair.target in let found = c.in-Ok.found in let room = c.copy.new.room in
    let same = c.graph.ensures ∙ ap (λ (s : Shared). s.roads) c.find.ensures.graph in let numbered = a.room.now.numbers.now.numbered in let arcs = take found.hops c.write_first_arcs.new.arcs in
    let listed = subst (λ (xs : List ℕ). take (length xs) room ≡ xs) c.deref.ensures.value c.copy.ensures.list in
    let written : take (found.hops + 1) room ≡ found.route.items = subst (λ (n : ℕ). take n room ≡ found.route.items) c.in-Ok.ensures.count listed in
    arcs_there a.chosen a.shared.now.roads s t (found_of found) c.in-Ok.ensures.found room written numbered arcs
    (subst (λ (g : GraphData). Under a.chosen (λ V A. (u v best : ℕ) → IsRouteBetween A g u v (take (found.hops + 1) room) → IsBestCode A g (u ∷ []) v best →
    AreRouteArcs A numbered (take (found.hops + 1) room) arcs best)) same c.write_first_arcs.ensures.arcs)
