-- One vertex more has its place of a list.
use Rattle.std.proofs.Common.{◌≡◌, ◌≢◌, inl, inr, ℕ, ◌+◌, ◌-◌, ◌<◌, List, length, set, get_or, ap, sym, ◌∙◌, subst, arith, get_or-set_same, get_or-set_other}
use Rattle.std.proofs.lemmas.Bool.{cases_eq}
use Rattle.elimination_order.specs.Orders.{HasEachPlace, StandAtPlaces}

-- the places that have a vertex are among the first k of the list
abbrev pub AreAmong : ℕ → (places vertices : List ℕ) → Type 0
AreAmong k places vertices = (p : ℕ) → get_or vertices p 0 ≢ 0 → (i : ℕ) × (i < k) × (get_or places i 0 ≡ p)

-- the first k places of both are the same
abbrev pub AreSameTo : ℕ → (places noted : List ℕ) → Type 0
AreSameTo k places noted = (i : ℕ) → i < k → get_or noted i 0 ≡ get_or places i 0

module _ (places vertices noted : List ℕ) (k p : ℕ) (at : get_or places k 0 ≡ p) where
  pub among_more : AreAmong k places vertices → AreAmong (k + 1) places (set vertices p (k + 1))
  among_more among = λ q some. elim (cases_eq q p) [
    | inl same ↦ (k, omega arith, at ∙ sym same)
    | inr other ↦
        let was = among q (λ none. some (get_or-set_other vertices p q (k + 1) 0 other ∙ none)) in
        (was.0, omega (arith, was.1), was.2)
  ]

  pub same_more : k < length noted → AreSameTo k places noted → AreSameTo (k + 1) places (set noted k p)
  same_more room same = λ i low. elim (cases_eq i k) [
    | inl last ↦ subst (λ j. get_or (set noted k p) j 0 ≡ get_or places j 0) (sym last) (get_or-set_same noted k p 0 room ∙ sym at)
    | inr other ↦ get_or-set_other noted k i p 0 other ∙ same i (omega (arith, low, other))
  ]

  -- a place that is none, or has a vertex, is there once more than it may be
  pub not_each : AreAmong k places vertices → k < length places → ((p < length places) × (get_or vertices p 0 ≡ 0) → ⊥) → HasEachPlace places → ⊥
  not_each among low taken each =
      let inside : p < length places = subst (λ q. q < length places) at (each.inside k low) in
      let was = among p (λ none. taken (inside, none)) in
      each.apart was.0 k was.1 low (was.2 ∙ sym at)

-- if each vertex stands at its place, the list of these has each once
module _ (n : ℕ) (vertices places : List ℕ) (long : length places ≡ n) (full : length vertices ≡ n) (stand : StandAtPlaces n vertices places) where
  stands : (i : ℕ) → i < length places → (get_or places i 0 < length vertices) × (get_or vertices (get_or places i 0) 0 ≡ i + 1)
  stands i low =
      let back : i + 1 - 1 ≡ i = omega arith in
      subst (λ j. (get_or places j 0 < length vertices) × (get_or vertices (get_or places j 0) 0 ≡ i + 1)) back (stand (i + 1) (omega arith, omega (arith, low, long)))

  pub each_place : HasEachPlace places
  each_place = record {
    inside = λ i low. let at = stands i low in omega (arith, at.0, long, full);
    apart = λ i j before low same.
        let first = stands i (omega (arith, before, low)) in let second = stands j low in
        omega (arith, before, first.1, second.1, ap (λ p. get_or vertices p 0) same);
  }
