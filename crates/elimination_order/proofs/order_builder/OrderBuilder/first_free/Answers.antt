use Rattle.std.proofs.Common.{◌≢◌, ℕ, ◌+◌, ◌<◌, get_or, inl, inr, ap, sym, ◌∙◌, arith}
use Rattle.std.proofs.lemmas.Bool.{cases_eq}
use Rattle.std.proofs.lemmas.Grind.{common_steps}
use Rattle.elimination_order.proofs.Counting.{free_left}
use Rattle.elimination_order.proofs.order_builder.OrderBuilder.first_free.Goals as goal

pub loop-place-init : goal.loop-place-init
loop-place-init c =
    let s = c.args.self.now in
    record { inside = free_left s.vertices.items c.args.from (omega (arith, s.counted, c.requires.next)) c.requires.taken; taken = c.requires.taken }

pub loop-place-preserved : goal.loop-place-preserved
loop-place-preserved c =
    let s = c.args.self.now in
    let here : get_or s.vertices.items c.loop-place.place 0 ≢ 0 = grind (arith, common_steps) in
    let taken : (i : ℕ) → i < c.loop-place.place + 1 → get_or s.vertices.items i 0 ≢ 0 = λ i low. elim (cases_eq i c.loop-place.place) [
      | inl last ↦ λ none. here (ap (λ j. get_or s.vertices.items j 0) (sym last) ∙ none)
      | inr other ↦ c.loop-place.invariant.taken i (omega (arith, low, other))
    ] in
    record { inside = free_left s.vertices.items (c.loop-place.place + 1) (omega (arith, s.counted, c.requires.next)) taken; taken = taken }
