-- One more road: the best of those so far, or this one if it is better.
use Rattle.std.proofs.Common.{◌≡◌, ℕ, ◌+◌, ◌<◌, Bool, true, false, cond, List, refl, arith, Option, Some, None, below_more, subst, ◌≤◌}
use Rattle.arc_numbers.proofs.Words.{IsTrue, MatchOption, OutRoad, IsBestRoad, IsBestRoadOrNone, LeadsTo, better_road, road_at}
use Rattle.path_algebra.specs.Algebra.{Algebra, IsOrder}
use Rattle.path_algebra.proofs.Least.{other_no_worse, same_no_worse}

module _ {V : Type 0} (A : Algebra V) (ordered : IsOrder A.no_worse) (x : V) (v : ℕ) (roads : List OutRoad) (i : ℕ) where
  -- of two values that a road takes x to, there is one
  one_value : (k : ℕ) (y z : V) → LeadsTo A x v (road_at roads k) y → LeadsTo A x v (road_at roads k) z → y ≡ z
  one_value k y z h l = let a = h.1 in let b = l.1 in cc

  abbrev NoBetterAt : V → ℕ → Type 0
  NoBetterAt y k = (z : V) → LeadsTo A x v (road_at roads k) z → IsTrue (A.no_worse y z)

  skip : (best : Option (ℕ × V)) → ((y : V) → LeadsTo A x v (road_at roads i) y → ⊥) → IsBestRoadOrNone A x v roads i best → IsBestRoadOrNone A x v roads (i + 1) best
  skip None none h = below_more (λ k. (y : V) → LeadsTo A x v (road_at roads k) y → ⊥) i h none
  skip (Some s) none h = record {
    below = let l : s.0 < i = h.below in omega arith;
    leads = h.leads;
    best = below_more (NoBetterAt s.1) i h.best (λ z l. absurd (none z l));
    first = below_more (λ k. LeadsTo A x v (road_at roads k) s.1 → s.0 ≤ k) i h.first (λ l. absurd (none s.1 l));
  }

  -- no road before is as good as a better one
  none_as_good : (s : ℕ × V) (y : V) → A.no_worse s.1 y ≡ false → IsBestRoad A x v roads i s.0 s.1 → (k : ℕ) → k < i → LeadsTo A x v (road_at roads k) y → ⊥
  none_as_good s y worse h k lt l = let as_good : IsTrue (A.no_worse s.1 y) = h.best k lt y l in cc

  choose : (s : ℕ × V) (y : V) (b : Bool) → A.no_worse s.1 y ≡ b → LeadsTo A x v (road_at roads i) y → IsBestRoad A x v roads i s.0 s.1 →
      IsBestRoadOrNone A x v roads (i + 1) (Some (cond b s (i, y)))
  choose s y true e l h = record {
    below = let lt : s.0 < i = h.below in omega arith;
    leads = h.leads;
    best = below_more (NoBetterAt s.1) i h.best (λ z m. subst (λ (w : V). IsTrue (A.no_worse s.1 w)) (one_value i y z l m) e);
    first = below_more (λ k. LeadsTo A x v (road_at roads k) s.1 → s.0 ≤ k) i h.first (λ m. let lt : s.0 < i = h.below in omega arith);
  }
  choose s y false e l h = record {
    below = omega arith;
    leads = l;
    best = below_more (NoBetterAt y) i
        (λ k lt z m. ordered.transitive y s.1 z (other_no_worse A.no_worse ordered s.1 y e) (h.best k lt z m))
        (λ z m. subst (λ (w : V). IsTrue (A.no_worse y w)) (one_value i y z l m) (same_no_worse A.no_worse ordered y));
    first = below_more (λ k. LeadsTo A x v (road_at roads k) y → i ≤ k) i (λ k lt m. absurd (none_as_good s y e h k lt m)) (λ m. omega arith);
  }

  take : (best : Option (ℕ × V)) (y : V) → LeadsTo A x v (road_at roads i) y → IsBestRoadOrNone A x v roads i best →
      IsBestRoadOrNone A x v roads (i + 1) (better_road A.no_worse best i (Some y))
  take None y l h = record {
    below = omega arith;
    leads = l;
    best = below_more (NoBetterAt y) i (λ k lt z m. absurd (h k lt z m))
        (λ z m. subst (λ (w : V). IsTrue (A.no_worse y w)) (one_value i y z l m) (same_no_worse A.no_worse ordered y));
    first = below_more (λ k. LeadsTo A x v (road_at roads k) y → i ≤ k) i (λ k lt m. absurd (h k lt y m)) (λ m. omega arith);
  }
  take (Some s) y l h = choose s y (A.no_worse s.1 y) refl l h

  pub one_more : (best : Option (ℕ × V)) (extended : Option V) → MatchOption extended ((y : V) → LeadsTo A x v (road_at roads i) y → ⊥) (LeadsTo A x v (road_at roads i)) →
      IsBestRoadOrNone A x v roads i best → IsBestRoadOrNone A x v roads (i + 1) (better_road A.no_worse best i extended)
  one_more best None none h = skip best none h
  one_more best (Some y) l h = take best y l h
