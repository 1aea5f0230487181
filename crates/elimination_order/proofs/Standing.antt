-- One vertex more stands at its place.
use Rattle.std.proofs.Common.{◌≡◌, ◌≢◌, inl, inr, ℕ, ◌+◌, ◌-◌, ◌<◌, List, length, set, get_or, ap, sym, ◌∙◌, arith, get_or-set_same, get_or-set_other, length-set}
use Rattle.std.proofs.lemmas.Bool.{cases_eq}
use Rattle.elimination_order.specs.Orders.{StandAtPlaces}

pub stand_more : (k : ℕ) (vertices places : List ℕ) (p : ℕ) → k < length places → p < length vertices → get_or vertices p 0 ≡ 0 →
    StandAtPlaces k vertices places → StandAtPlaces (k + 1) (set vertices p (k + 1)) (set places k p)
stand_more k vertices places p next low free stand = λ v inside.
    let long : length (set vertices p (k + 1)) ≡ length vertices = length-set vertices p (k + 1) in
    elim (cases_eq v (k + 1)) [
      | inl last ↦
          let back : v - 1 ≡ k = omega (arith, last) in
          let at : get_or (set places k p) (v - 1) 0 ≡ p = ap (λ i. get_or (set places k p) i 0) back ∙ get_or-set_same places k p 0 next in
          (omega (arith, at, low, long), ap (λ i. get_or (set vertices p (k + 1)) i 0) at ∙ get_or-set_same vertices p (k + 1) 0 low ∙ sym last)
      | inr other ↦
          let was = stand v (inside.0, omega (arith, inside.1, other)) in
          let before : v - 1 ≢ k = λ e. omega (arith, e, inside.0, other) in
          let at : get_or (set places k p) (v - 1) 0 ≡ get_or places (v - 1) 0 = get_or-set_other places k (v - 1) p 0 before in
          let apart : get_or places (v - 1) 0 ≢ p = λ same. omega (arith, inside.0, was.1, free, ap (λ i. get_or vertices i 0) same) in
          (omega (arith, at, was.0, long), ap (λ i. get_or (set vertices p (k + 1)) i 0) at ∙ get_or-set_other vertices p (get_or places (v - 1) 0) (k + 1) 0 apart ∙ was.1)
    ]
