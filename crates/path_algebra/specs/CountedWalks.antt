-- How walks compose whose sums carry hops.
use Rattle.std.specs.Prelude.{◌≡◌, ℕ, ◌+◌, ◌-◌, ◌<◌, ◌^◌, min, nat_le, if◌then◌else◌, true, Some, None}
use Rattle.std.proofs.Common.{arith, refl, false, Bool, Option}
use Rattle.std.proofs.lemmas.Bool.{leb-true, le-leb}
use Rattle.std.proofs.lemmas.Bool.Decides.{nat_tests}
use Rattle.path_algebra.specs.Names.{AlgebraName, Own}
use Rattle.path_algebra.specs.Composition.{Composition, IsComposition, applied}
use Rattle.path_algebra.specs.Algebra.{IsLawful}
use Rattle.path_algebra.specs.Counted.{counted, counted_cost}
use Rattle.path_algebra.specs.Laws.{less_is_better, coded_below, limited_sums, limited_laws}

-- the sum of what the arcs cost, by their weights, held at 2^64 - 1, which stands for no walk;
-- refused where it passes the limit
abbrev pub limited_walks : (ℕ → ℕ) → ℕ → Composition ℕ ℕ
limited_walks cost limit = record {
  of_arc = λ w. cost w;
  no_walk = 2 ^ 64 - 1;
  compose = λ a b. min (a + b) (2 ^ 64 - 1);
  apply = λ v a. if nat_le (v + a) limit then Some (v + a) else None;
  no_worse = λ a b. nat_le a b;
}

module _ (name : AlgebraName) (cost : ℕ → ℕ) (limit : ℕ) (fits : limit < 2 ^ 63) where
  abbrev up_to : ℕ → Option ℕ
  up_to s = if nat_le s limit then Some s else None

  -- held at 2^64 - 1, a sum is refused exactly if it was before
  passed_on : (v a b : ℕ) (t : Bool) → nat_le (v + a) limit ≡ t →
      up_to (v + min (a + b) (2 ^ 64 - 1)) ≡ applied (limited_walks cost limit) (if t then Some (v + a) else None) b
  passed_on v a b true e = both (nat_le ((v + a) + b) limit) refl
    where
      both : (t : Bool) → nat_le ((v + a) + b) limit ≡ t →
          up_to (v + min (a + b) (2 ^ 64 - 1)) ≡ (if t then Some ((v + a) + b) else None)
      both true k =
          let below = leb-true ((v + a) + b) limit k in
          let same : v + min (a + b) (2 ^ 64 - 1) ≡ (v + a) + b = omega (arith, below, fits) in
          rw same (rw k refl)
      both false k =
          let more : nat_le (v + min (a + b) (2 ^ 64 - 1)) limit ≡ false = grind (arith, nat_tests) in
          rw more refl
  passed_on v a b false e =
      let more : nat_le (v + min (a + b) (2 ^ 64 - 1)) limit ≡ false = grind (arith, nat_tests) in
      rw more refl

  pub limited_composes : IsComposition (limited_sums name cost limit) (limited_walks cost limit)
  limited_composes = record {
    ordered = less_is_better;
    apply_arc = λ v w h k. refl;
    no_walk_refused = λ v h.
        let more : nat_le (v + (2 ^ 64 - 1)) limit ≡ false = grind (arith, nat_tests) in
        rw more refl;
    apply_composed = λ v a b h. passed_on v a b (nat_le (v + a) limit) refl;
    apply_is_value = λ v a x h e. (coded_below limit (v + a) x e).0;
    never_better = λ v a x h e.
        let sum = (coded_below limit (v + a) x e).1 in
        le-leb v x (omega (arith, sum));
    better_walk = λ v a b y hv h e.
        let kept = coded_below limit (v + b) y e in
        let sum = kept.1 in
        let below = leb-true y limit kept.0 in
        let less = leb-true a b h in
        let t : nat_le (v + a) limit ≡ true = le-leb (v + a) limit (omega (arith, less, sum, below)) in
        (v + a, rw t refl, le-leb (v + a) y (omega (arith, less, sum)));
    monotone = λ u v a y hu hv h e.
        let kept = coded_below limit (v + a) y e in
        let sum = kept.1 in
        let below = leb-true y limit kept.0 in
        let less = leb-true u v h in
        let t : nat_le (u + a) limit ≡ true = le-leb (u + a) limit (omega (arith, less, sum, below)) in
        (u + a, rw t refl, le-leb (u + a) y (omega (arith, less, sum)));
  }

-- the walks of sums that carry hops
abbrev pub counted_walks : (ℕ → ℕ) → ℕ → Composition ℕ ℕ
counted_walks cost k = limited_walks (counted_cost cost k) (2 ^ 63 - 1)

pub counted_laws : (cost : ℕ → ℕ) (k : ℕ) → IsLawful (counted cost k)
counted_laws cost k = limited_laws Own (counted_cost cost k) (2 ^ 63 - 1) (omega arith)

pub counted_composes : (cost : ℕ → ℕ) (k : ℕ) → IsComposition (counted cost k) (counted_walks cost k)
counted_composes cost k = limited_composes Own (counted_cost cost k) (2 ^ 63 - 1) (omega arith)
