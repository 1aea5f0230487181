-- The given algebras are lawful.
use Rattle.std.specs.Prelude.{◌≡◌, ℕ, ◌+◌, ◌*◌, ◌/◌, ◌≤◌, ◌^◌, ◌==◌, min, nat_le, if◌then◌else◌, true, IsTrue, Some, None}
use Rattle.std.proofs.Common.{arith, refl, false, inl, suc, eqb-true}
use Rattle.std.proofs.lemmas.Nat.{le-div}
use Rattle.std.proofs.Math.Nat.{div-le_of_le-mul, mul-le-mul_left, mul-le-mul_right, div-mul-le_self}
use Rattle.std.proofs.lemmas.Bool.{leb-true, le-leb}
use Rattle.std.proofs.lemmas.Bool.Decides.{nat_tests}
use Rattle.path_algebra.specs.Algebra.{Algebra, IsOrder, IsLawful}
use Rattle.path_algebra.specs.Names.{AlgebraName, Shortest, Hops, Within}
use Rattle.path_algebra.specs.Given.{shortest, hops, widest, reach, reliable, within}

pub less_is_better : IsOrder {V = ℕ} (λ a b. nat_le a b)
less_is_better = record {
  total = λ a b. grind (arith, nat_tests);
  transitive = λ a b c h k. le-leb a c (omega (arith, leb-true a b h, leb-true b c k));
  antisymmetric = λ a b h k. omega (arith, leb-true a b h, leb-true b a k);
}

pub more_is_better : IsOrder {V = ℕ} (λ a b. nat_le b a)
more_is_better = record {
  total = λ a b. grind (arith, nat_tests);
  transitive = λ a b c h k. le-leb c a (omega (arith, leb-true b a h, leb-true c b k));
  antisymmetric = λ a b h k. omega (arith, leb-true b a h, leb-true a b k);
}

pub one_value_is_best : IsOrder {V = Unit {0}} (λ _ _. true)
one_value_is_best = record {
  total = λ a b. inl refl;
  transitive = λ a b c h k. refl;
  antisymmetric = λ a b h k. refl;
}

-- if a code is a value only up to a bound, its value is at most the bound, and is the code itself
pub coded_below : (bound c v : ℕ) → (if nat_le c bound then Some c else None) ≡ Some v →
    IsTrue (nat_le v bound) × (c ≡ v)
coded_below bound c v =
    elim (nat_le c bound)
    as (λ b. nat_le c bound ≡ b → (if b then Some c else None) ≡ Some v → IsTrue (nat_le v bound) × (c ≡ v))
    [ true ↦ (λ t h. let e : c ≡ v = cc in (rw (← e) t, e)) | false ↦ (λ t h. absurd (cc)) ] refl

-- the sum of what the arcs cost, by their weights, held at 2^63; less is better
abbrev pub held_sums : AlgebraName → (ℕ → ℕ) → Algebra ℕ
held_sums name cost = record {
  name = name;
  is_value = λ v. nat_le v (2 ^ 63);
  origin = 0;
  extend = λ v w. Some (min (v + cost w) (2 ^ 63));
  no_worse = λ a b. nat_le a b;
  code = λ v. v;
  value_of = λ c. if nat_le c (2 ^ 63) then Some c else None;
}

pub held_laws : (name : AlgebraName) (cost : ℕ → ℕ) → IsLawful (held_sums name cost)
held_laws name cost = record {
  origin_is_value = refl;
  extend_is_value = λ v w x h k e.
      let sum : min (v + cost w) (2 ^ 63) ≡ x = cc in
      le-leb x (2 ^ 63) (omega (arith, sum));
  ordered = less_is_better;
  never_better = λ v w x h k e.
      let sum : min (v + cost w) (2 ^ 63) ≡ x = cc in
      le-leb v x (omega (arith, leb-true v (2 ^ 63) h, sum));
  monotone = λ a b w y ha hb k h e.
      let sum : min (b + cost w) (2 ^ 63) ≡ y = cc in
      (min (a + cost w) (2 ^ 63), refl, le-leb (min (a + cost w) (2 ^ 63)) y (omega (arith, leb-true a b h, sum)));
  code_fits = λ v h. omega (arith, leb-true v (2 ^ 63) h);
  value_of_code = λ v h. rw h;
  code_of_value = λ c v k h. coded_below (2 ^ 63) c v h;
}

pub shortest_laws : IsLawful shortest
shortest_laws = held_laws Shortest (λ w. w)

pub hops_laws : IsLawful hops
hops_laws = held_laws Hops (λ _. 1)

pub widest_laws : IsLawful widest
widest_laws = record {
  origin_is_value = refl;
  extend_is_value = λ v w x h k e.
      let least : min v w ≡ x = cc in
      le-leb x (2 ^ 32) (omega (arith, leb-true v (2 ^ 32) h, least));
  ordered = more_is_better;
  never_better = λ v w x h k e.
      let least : min v w ≡ x = cc in
      le-leb x v (omega (arith, least));
  monotone = λ a b w y ha hb k h e.
      let least : min b w ≡ y = cc in
      (min a w, refl, le-leb y (min a w) (omega (arith, leb-true b a h, least)));
  code_fits = λ v h. omega (arith, leb-true v (2 ^ 32) h);
  value_of_code = λ v h. rw h;
  code_of_value = λ c v k h. coded_below (2 ^ 32) c v h;
}

reach_coded : (c : ℕ) (v : Unit {0}) → (if c == 0 then Some tt else None) ≡ Some v → c ≡ 0
reach_coded c v = elim (c == 0) as (λ b. (c == 0) ≡ b → (if b then Some tt else None) ≡ Some v → c ≡ 0)
    [ true ↦ (λ t h. eqb-true c 0 t) | false ↦ (λ t h. absurd (cc)) ] refl

pub reach_laws : IsLawful reach
reach_laws = record {
  origin_is_value = refl;
  extend_is_value = λ v w x h k e. refl;
  ordered = one_value_is_best;
  never_better = λ v w x h k e. refl;
  monotone = λ a b w y ha hb k h e. (tt, refl, refl);
  code_fits = λ v h. omega arith;
  value_of_code = λ v h. refl;
  code_of_value = λ c v k h. (refl, reach_coded c v h);
}

reliable_falls : (v w : ℕ) → v * min w (10 ^ 6) / (10 ^ 6) ≤ v
reliable_falls v w =
    div-le_of_le-mul (10 ^ 6)
    (let certain : min w (10 ^ 6) ≤ 10 ^ 6 = omega arith in omega (arith, mul-le-mul_left v certain))

div_mono : (k a b : ℕ) → a ≤ b → a / suc k ≤ b / suc k
div_mono k a b h =
    let below = div-mul-le_self a (suc k) in
    le-div (a / suc k) b (suc k) (omega arith) (omega (arith, below))

pub reliable_laws : IsLawful reliable
reliable_laws = record {
  origin_is_value = refl;
  extend_is_value = λ v w x h k e.
      let product : min v (10 ^ 12) * min w (10 ^ 6) / (10 ^ 6) ≡ x = cc in
      le-leb x (10 ^ 12) (omega (arith, product, reliable_falls (min v (10 ^ 12)) w));
  ordered = more_is_better;
  never_better = λ v w x h k e.
      let product : min v (10 ^ 12) * min w (10 ^ 6) / (10 ^ 6) ≡ x = cc in
      le-leb x v (omega (arith, product, reliable_falls (min v (10 ^ 12)) w));
  monotone = λ a b w y ha hb k h e.
      let product : min b (10 ^ 12) * min w (10 ^ 6) / (10 ^ 6) ≡ y = cc in
      let less : min b (10 ^ 12) ≤ min a (10 ^ 12) = omega (arith, leb-true b a h) in
      let divided = div_mono 999999 (min b (10 ^ 12) * min w (10 ^ 6)) (min a (10 ^ 12) * min w (10 ^ 6))
      (mul-le-mul_right (min w (10 ^ 6)) less) in (
        min a (10 ^ 12) * min w (10 ^ 6) / (10 ^ 6),
        refl,
        le-leb y (min a (10 ^ 12) * min w (10 ^ 6) / (10 ^ 6)) (omega (arith, divided, product)),
      );
  code_fits = λ v h. omega (arith, leb-true v (10 ^ 12) h);
  value_of_code = λ v h. rw h;
  code_of_value = λ c v k h. coded_below (10 ^ 12) c v h;
}

-- the sum of what the arcs cost, by their weights, up to a limit; an arc that passes it is refused;
-- less is better
abbrev pub limited_sums : AlgebraName → (ℕ → ℕ) → ℕ → Algebra ℕ
limited_sums name cost limit = record {
  name = name;
  is_value = λ v. nat_le v limit;
  origin = 0;
  extend = λ v w. if nat_le (v + cost w) limit then Some (v + cost w) else None;
  no_worse = λ a b. nat_le a b;
  code = λ v. v;
  value_of = λ c. if nat_le c limit then Some c else None;
}

pub limited_laws : (name : AlgebraName) (cost : ℕ → ℕ) (limit : ℕ) → limit ≤ 2 ^ 63 →
    IsLawful (limited_sums name cost limit)
limited_laws name cost limit fits = record {
  origin_is_value = le-leb 0 limit (omega arith);
  extend_is_value = λ v w x h k e. (coded_below limit (v + cost w) x e).0;
  ordered = less_is_better;
  never_better = λ v w x h k e.
      let sum = (coded_below limit (v + cost w) x e).1 in
      le-leb v x (omega (arith, sum));
  monotone = λ a b w y ha hb k h e.
      let kept = coded_below limit (b + cost w) y e in
      let sum = kept.1 in
      let below = leb-true y limit kept.0 in
      let less = leb-true a b h in
      let t : nat_le (a + cost w) limit ≡ true = le-leb (a + cost w) limit (omega (arith, less, sum, below)) in
      (a + cost w, rw t refl, le-leb (a + cost w) y (omega (arith, less, sum)));
  code_fits = λ v h. omega (arith, leb-true v limit h);
  value_of_code = λ v h. rw h;
  code_of_value = λ c v k h. coded_below limit c v h;
}

pub within_laws : (limit : ℕ) → limit ≤ 2 ^ 63 → IsLawful (within limit)
within_laws limit fits = limited_laws Within (λ w. w) limit fits
