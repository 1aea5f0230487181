-- The first place of one answer where something holds.
use Rattle.std.specs.Prelude.{ℕ, ◌<◌, Bool, true, false, Option, Some, None}
use Rattle.answer_check.specs.declared.verdict.Reason.{Reason}
use Rattle.answer_check.specs.declared.place.Place.{Place}
use Rattle.answer_check.specs.Verdicts.{IsEarlier}

-- right, or the first place, ordered by vertex and then by reason
abbrev pub IsJudgedAt : Type 0 → (ℕ → Reason → Type 0) → Option Place → Type 0
IsJudgedAt Right Holds None = Right
IsJudgedAt Right Holds (Some p) = Holds p.vertex p.reason × ((v : ℕ) (r : Reason) → IsEarlier v r p.vertex p.reason → Holds v r → ⊥)

-- the first of n numbers at which the test says true, or none
abbrev pub IsFirstNumber : ℕ → (ℕ → Bool → Type 0) → Option ℕ → Type 0
IsFirstNumber n Tells None = (k : ℕ) → k < n → Tells k false
IsFirstNumber n Tells (Some i) = (i < n) × Tells i true × ((k : ℕ) → k < i → Tells k false)
