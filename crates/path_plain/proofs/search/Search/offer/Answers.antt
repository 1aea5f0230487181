use Rattle.path_plain.proofs.Words.{◌≡◌, ℕ, ◌≤◌, ◌-◌, ◌∙◌, arith, ap, refl, sym, label_of}
use Rattle.path_plain.proofs.Noting.{on_noted}
use Rattle.path_plain.proofs.Steps.{search_notes, search_offers}
use Rattle.path_plain.proofs.Waiting.{worse_than_offered, none_is_worse}
use Rattle.path_plain.proofs.search.Search.offer.Goals as goal
use Rattle.path_plain.proofs.search.Search.offer.Goals.{in-Some, in-None}

pub invariant_of-self-in_err-push : goal.invariant_of-self-in_err-push
invariant_of-self-in_err-push g c =
    let n : c.self.inside.graph.value.vertices ≡ c.args.self.now.roads.vertices = λ i. (c.self.view_is i).roads.vertices in
    rw (c.in_err-push.ensures.kept, c.in_ok-note_if.ensures.noted)
    (search_notes c.self.invariant c.is_none-is_new.result c.args.v c.requires.0 (omega (arith, c.requires.1, n)))

pub invariant_of-self-then-is_better : goal.invariant_of-self-then-is_better
invariant_of-self-then-is_better g c =
    let laws = g.met.A.PathAlgebra g.world.𝓛 g.world.𝓜 g.world.𝓡 ((λ s x. x), (λ x. x), (λ x. x), λ x. x) in
    let order = g.A.PathAlgebra.order in
    let G = c.self.inside.graph.value in
    let labels = c.self.inside.labels in
    let settled = c.self.inside.settled.items in
    let touched = c.self.inside.touched in
    let is_new = c.is_none-is_new.result in
    let v = c.args.v in
    let n : G.vertices ≡ c.args.self.now.roads.vertices = λ i. (c.self.view_is i).roads.vertices in
    let high : v ≤ G.vertices = omega (arith, c.requires.1, n) in
    rw (c.set.ensures, c.in_ok-note_if.ensures.noted)
    (search_offers (search_notes c.self.invariant is_new v c.requires.0 high) laws.ordered v c.args.z _ _ c.requires.0 high
    (on_noted G.vertices labels settled touched c.self.invariant.noted v c.of-then-is_better.result is_new c.requires.0 high (sym c.of-then-is_better.ensures) c.is_none-is_new.ensures)
    (elim c.match-of.branch [
      | in-Some w ↦ worse_than_offered order laws.ordered (label_of labels v) w.in-Some.y c.args.z w.no_worse.result c.match-of.is_better
          (sym c.of.ensures ∙ w.in-Some.is) w.no_worse.ensures w.is_better-is c.if-is_better.true
      | in-None w ↦ none_is_worse order (label_of labels v) c.args.z (sym c.of.ensures ∙ w.in-None.is)
    ])
    c.in_ok-push.ensures.items refl (ap (λ (k : ℕ). k - 1) c.v.view_is))
