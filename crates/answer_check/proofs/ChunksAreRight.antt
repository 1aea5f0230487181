-- Answers are right up to a place if they are before the first chunk, and in each chunk up to there.
use Rattle.std.proofs.lemmas.Bool.{cases_lt}
use Rattle.std.proofs.Common.{◌≡◌, ℕ, ◌+◌, ◌<◌, ◌≤◌, inl, inr, Bool, true, false, nat_lt, arith, subst, zero, suc, ltb-false}
use Rattle.answer_check.proofs.Words.{common_steps, GraphData, Asked, Algebra, AnswerList, TellsSuspect, TellsSuspectIn, chunk_start}
use Rattle.answer_check.specs.declared.chunks.Chunks.{Chunks}

module _ (R : ℕ → Type 0) where
  -- what holds before a place and from there on
  pub before_and_from : (a e : ℕ) → ((i : ℕ) → i < a → R i) → ((i : ℕ) → a ≤ i → i < e → R i) → (i : ℕ) → i < e → R i
  before_and_from a e before rest i lt = elim (cases_lt i a) [
    | inl less ↦ before i less
    | inr from ↦ rest i from lt
  ]

  -- what holds before the chunks and in the first n of them
  pub right_up_to : (r : Chunks) (n : ℕ) → ((i : ℕ) → i < r.start → R i) → ((k : ℕ) → k < n → (i : ℕ) → chunk_start r k ≤ i → i < chunk_start r (k + 1) → R i) →
      (i : ℕ) → i < chunk_start r n → R i
  right_up_to r zero before chunks = λ i lt. before i (omega (arith, lt))
  right_up_to r (suc n) before chunks = grind (arith, common_steps, before_and_from, (right_up_to r n before))

module _ {V : Type 0} (A : Algebra V) (g : GraphData) (asked : Asked) (told : AnswerList) (start : ℕ) where
  -- a chunk whose first suspect is not before its end is right
  pub told_before : (first end : ℕ) → TellsSuspectIn A g asked told start first false → (b : Bool) → nat_lt first end ≡ b → TellsSuspectIn A g asked told start end b
  told_before first end right true e = tt
  told_before first end right false e = λ i low lt. right i low (omega (arith, lt, ltb-false first end e))

  -- one right answer more
  pub told_more : (i : ℕ) → TellsSuspectIn A g asked told start i false → TellsSuspect A g asked told i false → TellsSuspectIn A g asked told start (i + 1) false
  told_more i right here k low lt = elim (cases_lt k i) [
    | inl less ↦ right k low less
    | inr from ↦ let same : i ≡ k = omega (arith, from, lt) in subst (λ (j : ℕ). TellsSuspect A g asked told j false) same here
  ]
