-- How what is told of a pair differs from the right answer is the first reason against it.
use Rattle.answer_check.proofs.Words.{◌≡◌, ℕ, ◌<◌, [], ◌∷◌, sym, subst, arith, Option, Some, None, GraphData, Algebra, IsLawful, IsUnreached, AreHops, Reason, NotBest, OtherHops, HasWalk, OtherRoute}
use Rattle.answer_text.specs.AnswerData.{FoundData}
use Rattle.answer_text.proofs.OneAnswer.{code_once, hops_once, route_once}
use Rattle.answer_check.specs.Pairs.{IsOther}
use Rattle.answer_text.specs.IsAnswer.{IsBestCode, IsRouteBetween, IsFoundBetween, IsPairAnswer}
use Rattle.answer_check.specs.Reasons.{IsPairRefused, IsFirstReason, reason_number}

module _ {V : Type 0} (A : Algebra V) (lawful : IsLawful A) (g : GraphData) (s t : ℕ) where
  -- nothing speaks against the right answer
  pub pair_not_refused : (found : Option FoundData) (r : Reason) → IsPairAnswer A g s t found → IsPairRefused A g s t found r → ⊥
  pair_not_refused None HasWalk right h = right h.0 h.1
  pair_not_refused (Some f) NotBest right h = h right.code
  pair_not_refused (Some f) OtherHops right h = h right.hops
  pair_not_refused (Some f) OtherRoute right h = h right.route
  pair_not_refused found r right h = h

  -- something is told where no walk has a value
  pub told_without_walk : (f : FoundData) → IsUnreached A g (s ∷ []) t → IsFirstReason (IsPairAnswer A g s t (Some f)) (IsPairRefused A g s t (Some f)) (Some NotBest)
  told_without_walk f none = (λ code. none code.0 code.1.attained, before)
    where
      before : (r : Reason) → reason_number r < 2 → IsPairRefused A g s t (Some f) r → ⊥
      before NotBest lt h = omega (arith, lt)
      before OtherHops lt h = omega (arith, lt)
      before OtherRoute lt h = omega (arith, lt)
      before r lt h = h

  module _ (right : FoundData) (is : IsFoundBetween A g s t right) where
    refused : (f : FoundData) (r : Reason) → IsOther right f r → IsPairRefused A g s t (Some f) r
    refused f NotBest h = λ k. h (code_once A lawful g (s ∷ []) t f.code right.code k is.code)
    refused f OtherHops h = λ k. h (hops_once A lawful g (s ∷ []) t f.hops right.hops k is.hops)
    refused f OtherRoute h = λ k. h (route_once A lawful g s t f.route right.route k is.route)
    refused f r h = h

    other : (f : FoundData) (r : Reason) → IsPairRefused A g s t (Some f) r → IsOther right f r
    other f NotBest h = λ e. h (subst (IsBestCode A g (s ∷ []) t) (sym e) is.code)
    other f OtherHops h = λ e. h (subst (AreHops A g (s ∷ []) t) (sym e) is.hops)
    other f OtherRoute h = λ e. h (subst (IsRouteBetween A g s t) (sym e) is.route)
    other f r h = h

    -- the first difference is the first reason
    pub pair_judged : (f : FoundData) (o : Option Reason) → IsFirstReason (f ≡ right) (IsOther right f) o →
        IsFirstReason (IsPairAnswer A g s t (Some f)) (IsPairRefused A g s t (Some f)) o
    pair_judged f None e = subst (λ (q : FoundData). IsFoundBetween A g s t q) (sym e) is
    pair_judged f (Some r) h = (refused f r h.0, λ q lt k. h.1 q lt (other f q k))
