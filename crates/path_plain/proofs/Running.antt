-- A search that runs: it stays between two rounds, until it is past its target or no vertex waits.
use Rattle.path_plain.proofs.Words.{◌≡◌, ℕ, ◌+◌, ◌*◌, ◌<◌, ◌∙◌, Bool, true, false, List, [], ◌∷◌, length, zero, suc, refl, subst, arith, Option, Some, None, GraphData, IsGraph, HasVertex, Algebra, IsLawful, AreBest, SearchState, IsOfSame, IsSameSearch, Advances}
use Rattle.std.specs.Prelude.{All, IfSome, MatchOption}
use Rattle.path_plain.specs.Rounds.{Between, IsSearchedAsFar, Runs, StaysBetween, Steps, RunsSome}
use Rattle.path_plain.specs.Searcher.{IsSearcher}
use Rattle.path_plain.specs.UpTo.{AreBestAsFar, IsPast}
use Rattle.path_plain.proofs.Rounds.{unsettled}
use Rattle.path_plain.proofs.Steps.{next_round, last_round, last_is_best, comes_nearer}
use Rattle.path_plain.proofs.UpTo.{best_up_to, search_past}

pub of_same : {C V : Type 0} (s t u : SearchState C V) → IsOfSame s t → IsOfSame t u → IsOfSame s u
of_same s t u first then = record { algebra = then.algebra ∙ first.algebra; roads = then.roads ∙ first.roads; notes = then.notes ∙ first.notes }

pub same_search : {C V : Type 0} (s t u : SearchState C V) → IsSameSearch s t → IsSameSearch t u → IsSameSearch s u
same_search s t u first then = record { of_same = of_same s t u first.of_same then.of_same; settled = then.settled ∙ first.settled }

-- best labels are best as far as any target
pub best_as_far : {V : Type 0} (A : Algebra V) → IsLawful A → (g : GraphData) → IsGraph g → (sources : List ℕ) (target : Option ℕ) → IfSome target (HasVertex g) → (labels : List (Option V)) →
    AreBest A g sources labels → AreBestAsFar A g sources target labels
best_as_far A lawful g roads sources None inside labels best = best
best_as_far A lawful g roads sources (Some t) inside labels best = best_up_to A lawful g roads sources t inside labels best

module _ {C V : Type 0} (meaning : C → Algebra V) (order : V → V → Bool) (start : SearchState C V) (a : C) (is : a ≡ start.algebra) (laws : IsLawful (meaning a)) (ranks : (meaning a).no_worse ≡ order)
    (roads : IsGraph start.roads) where
  abbrev A : Algebra V
  A = meaning start.algebra

  lawful : IsLawful A
  lawful = subst (λ (b : C). IsLawful (meaning b)) is laws

  same : A.no_worse ≡ order
  same = subst (λ (b : C). (meaning b).no_worse ≡ order) is ranks

  module _ (old new : SearchState C V) (kept : IsOfSame start old) where
    mine : (more : Bool) → Advances order (meaning old.algebra) more old new → Advances order A more old new
    mine more = subst (λ (a : C). Advances order (meaning a) more old new) kept.algebra

    pub stays : StaysBetween A start old → Advances order (meaning old.algebra) true old new → StaysBetween A start new
    stays between step sources inside was = next_round A lawful order same start.roads roads old new kept.roads sources inside (between sources inside was) (mine true step)

    pub nearer : Advances order (meaning old.algebra) true old new →
        unsettled new.settled * (length start.roads.arcs + 1) + new.waiting < unsettled old.settled * (length start.roads.arcs + 1) + old.waiting
    nearer step = comes_nearer A lawful order same start.roads roads old new kept.roads (mine true step)

    -- a search that stayed one runs on
    pub runs_on : (target : Option ℕ) → StaysBetween A start old → Runs (meaning old.algebra) target old new → Runs A target start new
    runs_on target between runs sources inside was =
        let here : Between (meaning old.algebra) old.roads sources old.labels old.settled = rw (kept.algebra, kept.roads) (between sources inside was) in
        rw (kept.algebra, kept.roads) at (runs sources (rw kept.roads inside) here)

  -- no vertex waits
  pub ends : (new : SearchState C V) (target : Option ℕ) → IfSome target (HasVertex start.roads) → Advances order A false start new → Runs A target start new
  ends new target in_target step sources inside was = record {
    between = last_round A lawful order same start.roads roads start new refl sources inside was step;
    best = best_as_far A lawful start.roads roads sources target in_target new.labels (last_is_best A lawful order same start.roads roads start new refl sources inside was step);
  }

  -- a step of the search ends it, or takes an entry
  pub stepped : (new : SearchState C V) (target : Option ℕ) (more : Bool) → IfSome target (HasVertex start.roads) → Advances order A more start new → Steps order A target more start new
  stepped new target true in_target step = step
  stepped new target false in_target step = ends new target in_target step

  -- the search is past its target
  pub stops : (target : Option ℕ) → IfSome target (HasVertex start.roads) → MatchOption target ⊥ (IsPast order start.labels start.settled) → Runs A target start start
  stops None in_target past sources inside was = absurd past
  stops (Some t) in_target past sources inside was = record {
    between = was;
    best = search_past A lawful start.roads roads sources inside start.labels start.settled was.level was.known t in_target (rw same past);
  }

-- the one source of a pair is a vertex
one_inside : (P : ℕ → Type 0) (v : ℕ) → P v → All P (v ∷ [])
one_inside P v h zero d lt = h
one_inside P v h (suc i) d lt = absurd (omega (arith, lt))

-- a search that came from a vertex and went on
module _ {C V : Type 0} (meaning : C → Algebra V) (was came ran : SearchState C V) (v : ℕ) (in_v : HasVertex was.roads v) (kept : IsOfSame was came)
    (between : Between (meaning was.algebra) was.roads (v ∷ []) came.labels came.settled) where
  inside : All (HasVertex came.roads) (v ∷ [])
  inside = rw kept.roads (one_inside (HasVertex was.roads) v in_v)

  here : Between (meaning came.algebra) came.roads (v ∷ []) came.labels came.settled
  here = rw (kept.algebra, kept.roads) between

  -- to a target
  pub searched : (t : ℕ) → Runs (meaning came.algebra) (Some t) came ran → IsSearchedAsFar (meaning was.algebra) was.roads (v ∷ []) (Some t) ran.labels ran.settled
  searched t runs = rw (kept.algebra, kept.roads) at (runs (v ∷ []) inside here)

  -- whether it decided its target or not
  pub went_on : (t : ℕ) (decided : Bool) → RunsSome (meaning came.algebra) t decided came ran → Between (meaning was.algebra) was.roads (v ∷ []) ran.labels ran.settled
  went_on t true runs = (searched t runs).between
  went_on t false stays = rw (kept.algebra, kept.roads) at (stays (v ∷ []) inside here)

  -- a searcher keeps it
  pub kept_from : was.notes ≡ true → IsOfSame came ran → Between (meaning was.algebra) was.roads (v ∷ []) ran.labels ran.settled → IsSearcher (meaning ran.algebra) ran (Some v)
  kept_from notes same now = record {
    notes = same.notes ∙ kept.notes ∙ notes;
    between = λ u is.
        let one : v ≡ u = cc in
        rw (same.algebra ∙ kept.algebra, same.roads ∙ kept.roads) (subst (λ (s : ℕ). Between (meaning was.algebra) was.roads (s ∷ []) ran.labels ran.settled) one now);
  }
