-- What is found for one question, for the same one at another place, and for several side by side.
use Rattle.std.proofs.Common.{arith, ◌≡◌, ◌∙◌, ℕ, ◌+◌, ◌-◌, ◌<◌, List, [], ◌∷◌, ◌++◌, length, get_or, map, All, Vec, Global, Option, Some, None, ap, refl, subst, sym}
use Rattle.std.proofs.lemmas.List.{get_or_push, length_push}
use Rattle.std.proofs.lemmas.List.Elements.{All-nil, All-cons, All-head, All-push, All-same, All-tail}
use Rattle.std.proofs.lemmas.Option.{get_or_from_slice_get, slice_get_read, slice_get_within}
use Rattle.std.specs.List.{AllZip}
use Rattle.std.specs.Option.{IsSomeAnd}
use Rattle.std.specs.Prelude.{Result, Ok, Err, IfOk, IfSome, OnOk, OnErr, MatchResult, Contains}
use Rattle.question_solvers.proofs.Words.{GraphData, Question, Asked, Algebra, Searched}
use Rattle.question_solvers.specs.Solved.{IsNext, IsSearched, IsSearchedAt, IsSolution, IsSolvedFor, next_of}
use Rattle.question_solvers.specs.declared.solved.Solved.{Solved}

-- what was pushed is next
next_pushed : {V : Type 0} (old : List (Searched V)) (s : Searched V) → next_of (old ++ s ∷ []) ≡ Some s
next_pushed old s =
    let all = old ++ s ∷ [] in
    let long : length all ≡ length old + 1 = length_push old s in
    slice_get_read all (length all) (length all - 1) s refl (omega (arith, long)) (sym (get_or_push old s s (length all - 1) (omega (arith, long))))

-- what holds of all that was found ahead holds of the next one
pub of_next : {V : Type 0} (P : Searched V → Type 0) (ahead : List (Searched V)) (s : Searched V) → next_of ahead ≡ Some s → All P ahead → P s
of_next P ahead s is all = subst P (get_or_from_slice_get ahead (length ahead - 1) s s is) (all (length ahead - 1) s (slice_get_within ahead (length ahead - 1) s is))

module _ {V : Type 0} (A : Algebra V) (g : GraphData) (asked : Asked) where
  -- what is solved for one question is so for the same one at another place
  pub for_other : (i j : ℕ) (s : Solved V) → IsSolvedFor A g asked j s → ((d : Question) → get_or asked.questions j d ≡ get_or asked.questions i d) → IsSolvedFor A g asked i s
  for_other i j s h same d = subst (λ (q : Question). IsSolution A g asked.kind q s) (same d) (h d)

  -- what is found for the question at a place is so for the one at its own place
  pub at_own : (i : ℕ) (s : Searched V) → i < length asked.questions → IsSearchedAt A g asked i s → IsSearched A g asked s
  at_own i s low h = record {
    place = subst (λ k. k < length asked.questions) (sym h.place) low;
    solved = subst (λ k. IsSolvedFor A g asked k s.solved) (sym h.place) h.solved;
  }

  -- so it is if anything is found
  pub some_own : (i : ℕ) (o : Option (Searched V)) → i < length asked.questions → IfSome o (IsSearchedAt A g asked i) → IfSome o (IsSearched A g asked)
  some_own i None low h = tt
  some_own i (Some s) low h = at_own i s low h

  -- those of a group are each found for a question
  pub all_own : (places : List ℕ) (ss : List (Searched V)) → All (λ k. k < length asked.questions) places → AllZip (IsSearchedAt A g asked) places ss → All (IsSearched A g asked) ss
  all_own [] [] inside h = All-nil (IsSearched A g asked)
  all_own [] (s ∷ ss) inside h = absurd h
  all_own (k ∷ ks) [] inside h = absurd h
  all_own (k ∷ ks) (s ∷ ss) inside h =
      All-cons (IsSearched A g asked) s ss (at_own k s (All-head (λ j. j < length asked.questions) k ks inside) h.0) (all_own ks ss (All-tail (λ j. j < length asked.questions) k ks inside) h.1)

  -- what is next solves the question at a place, if it was found for the same one
  pub is_next : (i : ℕ) (ahead : List (Searched V)) (s : Searched V) → next_of ahead ≡ Some s → IsSolvedFor A g asked i s.solved → IsNext A g asked i ahead
  is_next i ahead s is solved = subst (λ o. IsSomeAnd o (λ (t : Searched V). IsSolvedFor A g asked i t.solved)) (sym is) solved

  -- and what the next one is solved to is a solution
  pub next_solves : (i : ℕ) (o : Option (Searched V)) (solved : Solved V) → IsSomeAnd o (λ next. IsSolvedFor A g asked i next.solved) → IfSome o (λ next. next.solved ≡ solved) →
      IsSolvedFor A g asked i solved
  next_solves i None solved h is = absurd h
  next_solves i (Some next) solved h is = subst (IsSolvedFor A g asked i) is h

-- what is found for the question at a place is added to the rest
module _ {V : Type 0} (A : Algebra V) (g : GraphData) (asked : Asked) (i : ℕ) (s : Searched V) (old new : List (Searched V)) (found : IsSearchedAt A g asked i s) where
  -- it is next
  pub added_is_next : {E : Type 0} (r : Result (Unit {0}) E) → OnOk r (new ≡ old ++ s ∷ []) → OnOk r (IsNext A g asked i new)
  added_is_next (Ok _) added = is_next A g asked i new s (ap next_of added ∙ next_pushed old s) found.solved
  added_is_next (Err _) added = tt

  -- and each is found for its own question
  pub added_all : {E : Type 0} (r : Result (Unit {0}) E) → i < length asked.questions → OnOk r (new ≡ old ++ s ∷ []) → OnErr r (new ≡ old) → All (IsSearched A g asked) old →
      All (IsSearched A g asked) new
  added_all (Ok _) low added kept all =
      let P = IsSearched A g asked in
      All-same P new (old ++ s ∷ []) added (All-push P old s all (at_own A g asked i s low found))
  added_all (Err _) low added kept all = All-same (IsSearched A g asked) new old kept all

-- what each of a list came to, where none failed
all_ok : {X S : Type 0} (E : Type 0) (Holds : X → S → Type 0) (places : List X) (ss : List S) → AllZip (λ k (r : Result S E). IfOk r (Holds k)) places (map Ok ss) → AllZip Holds places ss
all_ok E Holds [] [] h = tt
all_ok E Holds [] (s ∷ ss) h = absurd h
all_ok E Holds (k ∷ ks) [] h = absurd h
all_ok E Holds (k ∷ ks) (s ∷ ss) h = (h.0, all_ok E Holds ks ss h.1)

-- and gathered in the order of the list
pub gathered : {X S E : Type 0} (Holds : X → S → Type 0) (places : List X) (rs : List (Result S E)) (v : Result (Vec S Global) E) → AllZip (λ k r. IfOk r (Holds k)) places rs
    → MatchResult v (λ c. (ss : List S) × (rs ≡ map Ok ss) × (c.items ≡ ss)) (λ e. Contains rs (Err e)) → IfOk v (λ c. AllZip Holds places c.items)
gathered Holds places rs (Ok c) each (ss, were, is) = rw is (all_ok _ Holds places ss (subst (λ l. AllZip (λ k r. IfOk r (Holds k)) places l) were each))
gathered Holds places rs (Err e) each h = tt

-- what holds of each that is found for a list holds of all
each_found : {X S : Type 0} (P : S → Type 0) (places : List X) (ss : List S) → AllZip (λ k s. P s) places ss → All P ss
each_found P [] [] h = All-nil P
each_found P [] (s ∷ ss) h = absurd h
each_found P (k ∷ ks) [] h = absurd h
each_found P (k ∷ ks) (s ∷ ss) h = All-cons P s ss h.0 (each_found P ks ss h.1)

pub gathered_all : {X S E : Type 0} (P : S → Type 0) (places : List X) (rs : List (Result S E)) (v : Result (Vec S Global) E) → AllZip (λ k r. IfOk r P) places rs
    → MatchResult v (λ c. (ss : List S) × (rs ≡ map Ok ss) × (c.items ≡ ss)) (λ e. Contains rs (Err e)) → IfOk v (λ c. All P c.items)
gathered_all P places rs (Ok c) each were = each_found P places c.items (gathered (λ k s. P s) places rs (Ok c) each were)
gathered_all P places rs (Err e) each were = tt
