-- Carrying the arcs in the numbers is right: best numbers are best sums with hops, and arcs that
-- add up are those of parents.
use Rattle.path_algebra.proofs.Words.{◌≡◌, ℕ, ◌+◌, ◌-◌, ◌*◌, ◌/◌, ◌%◌, ◌<◌, ◌≤◌, ◌^◌, ◌⊎◌, inl, inr, true, min, List, [], ◌∷◌, refl, ap, sym, ◌∙◌, subst, arith, Option, Some, None, le-leb, leb-true, GraphData, IsGraph, HasVertex, arc_of, Algebra}
use Rattle.std.proofs.Math.Nat.{mul-le-mul_right, mul-le-mul_left, add-mul}
use Rattle.std.proofs.lemmas.Nat.{div-add-mod'}
use Rattle.std.specs.Prelude.{Contains, All, ◌↔◌, nat_le}
use Rattle.path_algebra.specs.Names.{AlgebraName, Own, Shortest, Within}
use Rattle.path_algebra.specs.Given.{shortest, within}
use Rattle.path_algebra.specs.Laws.{held_sums, limited_sums, coded_below}
use Rattle.path_algebra.specs.Walks.{sum_of_weights, IsLeastSum, IsWalkFrom, Extends, IsBest, IsUnreached, IsBestLabel, AreHops, IsNearer, IsParent}
use Rattle.path_algebra.specs.Counted.{counted_cost, counted, CountsFit, sum_to, sum_of_costs, IsLeastCost, IsCountedStep, IsCountedStepOf, IsCountedParent, AreBestInto, CarryHops, CarryHopsWithin}
use Rattle.path_algebra.proofs.Walks.{all_inside}
use Rattle.path_algebra.proofs.ShortWalks.{short_walk, sum_to-constant, least_if_best, best_if_least, no_walk_if_unreached, unreached_if_no_walk}
use Rattle.path_algebra.proofs.Counted as core

-- sums up to a limit
module _ (name : AlgebraName) (cost : ℕ → ℕ) (limit : ℕ) (g : GraphData) (sources : List ℕ) where
  pub limited_at : (y : ℕ) (p : List ℕ) → y + sum_of_costs g cost p ≤ limit → Extends (limited_sums name cost limit) g y p (y + sum_of_costs g cost p)
  limited_at y [] h = omega arith
  limited_at y (a ∷ p) h =
      let w = cost (arc_of g a).weight in
      let t : nat_le (y + w) limit ≡ true = le-leb (y + w) limit (omega (arith, h)) in
      let e : (y + w) + sum_of_costs g cost p ≡ y + (w + sum_of_costs g cost p) = omega arith in
      (y + w, rw t refl, subst (λ (x : ℕ). Extends (limited_sums name cost limit) g (y + w) p x) e (limited_at (y + w) p (omega (arith, h))))

  pub limited_is : (y : ℕ) (p : List ℕ) (x : ℕ) → y ≤ limit → Extends (limited_sums name cost limit) g y p x →
      (x ≡ y + sum_of_costs g cost p) × (x ≤ limit)
  limited_is y [] x h ex = (omega (arith, ex), omega (arith, ex, h))
  limited_is y (a ∷ p) x h ex =
      let c = coded_below limit (y + cost (arc_of g a).weight) ex.0 ex.1 in
      let sum = c.1 in
      let ih = limited_is ex.0 p x (leb-true ex.0 limit c.0) ex.2 in
      let end = ih.0 in
      (omega (arith, sum, end), ih.1)

  pub limited_least : core.HasLeastSums g cost sources (limited_sums name cost limit) limit
  limited_least = record {
    least_if_best = λ v x b.
        let is = limited_is 0 b.attained.0 x (omega arith) b.attained.2 in
        let sum = is.0 in
        let fits = is.1 in (
          record {
            attained = (b.attained.0, b.attained.1, omega (arith, sum));
            least = λ p w. elim (either (sum_of_costs g cost p) limit) [
              | inl below ↦
                  let l = leb-true x (0 + sum_of_costs g cost p) (b.least (0 + sum_of_costs g cost p) (p, w, limited_at 0 p (omega (arith, below)))) in
                  omega (arith, l)
              | inr above ↦ omega (arith, above, fits)
            ];
          },
          fits,
        );
    best_if_least = λ v x l fits.
        let sum = l.attained.2 in
        let e : 0 + sum_of_costs g cost l.attained.0 ≡ x = omega (arith, sum) in
        record {
          attained = (
            l.attained.0,
            l.attained.1,
            subst (λ (z : ℕ). Extends (limited_sums name cost limit) g 0 l.attained.0 z) e (limited_at 0 l.attained.0 (omega (arith, e, fits))),
          );
          least = λ y w.
              let k = l.least w.0 w.1 in
              let is = (limited_is 0 w.0 y (omega arith) w.2).0 in
              le-leb x y (omega (arith, k, is));
        };
    extend_to = λ x w fits. let t : nat_le (x + cost w) limit ≡ true = le-leb (x + cost w) limit fits in rw t refl;
    extend_is = λ x w y e fits. (coded_below limit (x + cost w) y e).1;
  }
    where
      either : (a b : ℕ) → (a ≤ b) ⊎ (b < a)
      either a b = grind arith

module _ (g : GraphData) (roads : IsGraph g) (sources : List ℕ) (inside : All (HasVertex g) sources) (cost : ℕ → ℕ) (k : ℕ) (fit : CountsFit g cost k) where
  in_s : (s : ℕ) → Contains sources s → HasVertex g s
  in_s = all_inside g sources inside

  -- a short walk costs less than 2^63, and so does its number
  light : (v : ℕ) (p : List ℕ) → IsWalkFrom g sources p v →
      (q : List ℕ) × IsWalkFrom g sources q v × (sum_of_costs g cost q < 2 ^ 63)
  light v p w =
      let s = short_walk g cost roads sources in_s p v w in
      let bound = s.4 fit.heaviest fit.costs in
      let some : 1 ≤ 2 ^ k = let few = fit.few in omega (arith, few) in
      let product = mul-le-mul_left (sum_to fit.heaviest g.vertices + 1) some in
      let fits = fit.fits in
      (s.0, s.1, omega (arith, bound, product, fits))

  light_number : (v : ℕ) (p : List ℕ) → IsWalkFrom g sources p v →
      (q : List ℕ) × IsWalkFrom g sources q v × (sum_of_costs g (counted_cost cost k) q < 2 ^ 63)
  light_number v p w =
      let s = short_walk g cost roads sources in_s p v w in
      let n = core.counted_sum g cost (2 ^ k) s.0 in
      let bound = s.4 fit.heaviest fit.costs in
      let product = mul-le-mul_right (2 ^ k) bound in
      let one = add-mul (sum_to fit.heaviest g.vertices) 1 (2 ^ k) in
      let fits = fit.fits in
      let few = fit.few in
      let short = s.2 in
      (s.0, s.1, omega (arith, n, product, one, fits, few, short))

  numbers : core.HasLeastSums g (counted_cost cost k) sources (counted cost k) (2 ^ 63 - 1)
  numbers = limited_least Own (counted_cost cost k) (2 ^ 63 - 1) g sources

  number_at : (v x : ℕ) → IsBest (counted cost k) g sources v x → IsLeastCost g (counted_cost cost k) sources v x
  number_at v x best = (numbers.least_if_best v x best).0

  -- a least number is below 2^63
  number_if_least : (v x : ℕ) → IsLeastCost g (counted_cost cost k) sources v x → IsBest (counted cost k) g sources v x
  number_if_least v x least =
      let q = light_number v least.attained.0 least.attained.1 in
      let low = least.least q.0 q.1 in
      let small = q.2 in
      numbers.best_if_least v x least (omega (arith, low, small))

  -- unreached by numbers: no walk at all
  no_walk : (v : ℕ) → IsUnreached (counted cost k) g sources v → (p : List ℕ) → IsWalkFrom g sources p v → ⊥
  no_walk v none p w =
      let q = light_number v p w in
      let small = q.2 in
      none (0 + sum_of_costs g (counted_cost cost k) q.0) (
        q.0,
        q.1,
        limited_at Own (counted_cost cost k) (2 ^ 63 - 1) g sources 0 q.0 (omega (arith, small)),
      )

  -- the numbers and the sums of an algebra up to a limit
  module _ (A : Algebra ℕ) (limit : ℕ) (holds : core.HasLeastSums g cost sources A limit) where
    -- a best number up to the limit is a best value above its low k bits, and hops in them
    pub number_is_best : (v x : ℕ) → IsBest (counted cost k) g sources v x → x / 2 ^ k ≤ limit →
        IsBest A g sources v (x / 2 ^ k) × AreHops A g sources v (x % 2 ^ k)
    number_is_best v x best fits =
        let at = number_at v x best in (
          holds.best_if_least v (x / 2 ^ k) (core.sum_is_least g cost sources A limit holds roads in_s (2 ^ k) fit.few v x at) fits,
          core.rest_is_hops g cost sources A limit holds roads in_s (2 ^ k) fit.few v x at fits,
        )

    -- a best value and hops are a best number
    pub best_is_number : (v x : ℕ) → IsBest A g sources v (x / 2 ^ k) → AreHops A g sources v (x % 2 ^ k) →
        IsBest (counted cost k) g sources v x
    best_is_number v x best hops =
        let at = holds.least_if_best v (x / 2 ^ k) best in
        subst (λ (n : ℕ). IsBest (counted cost k) g sources v n) (div-add-mod' x (2 ^ k))
        (number_if_least v (x / 2 ^ k * 2 ^ k + x % 2 ^ k)
        (core.least_number g cost sources A limit holds roads in_s (2 ^ k) fit.few v (x / 2 ^ k) (x % 2 ^ k) at.0 at.1 hops))

    module _ (u v x y : ℕ) (best_u : IsBest (counted cost k) g sources u x) (best_v : IsBest (counted cost k) g sources v y) where
      -- an arc from u to v that adds up is a tight one, and u has one hop less
      pub step_is_nearer : y / 2 ^ k ≤ limit → IsCountedStep g cost k u x v y → IsNearer A g sources v u
      step_is_nearer fits step =
          core.nearer_if_step g cost sources A limit holds roads in_s (2 ^ k) fit.few u v x y (number_at u x best_u) (number_at v y best_v) fits step

      pub nearer_is_step : IsNearer A g sources v u → IsCountedStep g cost k u x v y
      nearer_is_step near =
          core.step_if_nearer g cost sources A limit holds roads in_s (2 ^ k) fit.few u v x y (number_at u x best_u) (number_at v y best_v) near

    module _ (number : ℕ → Option ℕ) (v y : ℕ) (best_v : IsBest (counted cost k) g sources v y)
        (known : AreBestInto (counted cost k) g sources number v) (fits : y / 2 ^ k ≤ limit) where
      -- a tail with a walk has a number
      numbered : (u : ℕ) (l : Option ℕ) → IsBestLabel (counted cost k) g sources u l → (p : List ℕ) → IsWalkFrom g sources p u →
          (x : ℕ) × (l ≡ Some x) × IsBest (counted cost k) g sources u x
      numbered u None none p w = absurd (no_walk u none p w)
      numbered u (Some x) best p w = (x, refl, best)

      best_as : (u x : ℕ) (l : Option ℕ) → IsBestLabel (counted cost k) g sources u l → l ≡ Some x → IsBest (counted cost k) g sources u x
      best_as u x l best e = subst (λ (o : Option ℕ). IsBestLabel (counted cost k) g sources u o) e best

      nearer_at : (u : ℕ) → IsNearer A g sources v u → IsCountedStepOf g cost k number v y u
      nearer_at u near =
          let t = near.1 in
          let at_u = subst (λ (z : ℕ). IsBestLabel (counted cost k) g sources z (number z)) near.2 (known near.0 t.arc near.3) in
          let from_u = subst (λ (z : ℕ). IsWalkFrom g sources t.tail_best.attained.0 z) near.2 t.tail_best.attained.1 in
          let x = numbered u (number u) at_u t.tail_best.attained.0 from_u in
          (x.0, x.1, nearer_is_step u v x.0 y x.2 best_v near)

      step_at : (u : ℕ) → IsCountedStepOf g cost k number v y u → IsNearer A g sources v u
      step_at u s =
          let at_u = subst (λ (z : ℕ). IsBestLabel (counted cost k) g sources z (number z)) s.2.2 (known s.2.0 s.2.1 s.2.3) in
          step_is_nearer u v s.0 y (best_as u s.0 (number u) at_u s.1) best_v fits s.2

      -- the least vertex with an arc to v that adds up is its parent
      pub counted_parent : (u : ℕ) → IsCountedParent g cost k number v y u ↔ IsParent A g sources v u
      counted_parent u = (
        λ h. record {
          no_source = λ c.
              let zeroed = core.zero_at_source g cost sources (2 ^ k) v y (number_at v y best_v) c in
              let adds = h.step.2.4 in
              omega (arith, zeroed, adds);
          nearer = step_at u h.step;
          least = λ t near. h.least t (nearer_at t near);
        },
        λ h. record {
          step = nearer_at u h.nearer;
          least = λ t s. h.least t (step_at t s);
        },
      )

  -- the sources are the vertices of number 0
  pub source_is_zero : (v x : ℕ) → IsBest (counted cost k) g sources v x → Contains sources v ↔ (x ≡ 0)
  source_is_zero v x best = (
    core.zero_at_source g cost sources (2 ^ k) v x (number_at v x best),
    core.source_at_zero g cost sources (2 ^ k) v x (number_at v x best),
  )

  -- sums held at 2^63, which never shows: Shortest and Hops
  module _ (name : AlgebraName) where
    held_sums_least : core.HasLeastSums g cost sources (held_sums name cost) (2 ^ 63 - 1)
    held_sums_least = record {
      least_if_best = λ v x b. let l = least_if_best g cost name sources light v x b in let below = l.1 in (l.0, omega (arith, below));
      best_if_least = λ v x l fits. best_if_least g cost name sources light v x l;
      extend_to = λ x w fits. let e : min (x + cost w) (2 ^ 63) ≡ x + cost w = omega (arith, fits) in ap (λ (n : ℕ). Some n) e;
      extend_is = λ x w y e fits. let sum : min (x + cost w) (2 ^ 63) ≡ y = cc in omega (arith, sum, fits);
    }

    pub number_fits : (v x : ℕ) → IsBest (counted cost k) g sources v x → x / 2 ^ k ≤ 2 ^ 63 - 1
    number_fits v x best =
        let least = core.sum_is_least g cost sources (held_sums name cost) (2 ^ 63 - 1) held_sums_least roads in_s (2 ^ k) fit.few v x (number_at v x best) in
        (held_sums_least.least_if_best v (x / 2 ^ k) (best_if_least g cost name sources light v (x / 2 ^ k) least)).1

    pub number_is_best_sum : (v x : ℕ) → IsBest (counted cost k) g sources v x →
        IsBest (held_sums name cost) g sources v (x / 2 ^ k) × AreHops (held_sums name cost) g sources v (x % 2 ^ k)
    number_is_best_sum v x best = number_is_best (held_sums name cost) (2 ^ 63 - 1) held_sums_least v x best (number_fits v x best)

    pub unreached_alike : (v : ℕ) → IsUnreached (counted cost k) g sources v ↔ IsUnreached (held_sums name cost) g sources v
    unreached_alike v = (
      λ none. unreached_if_no_walk g cost name sources v (no_walk v none),
      λ none y w. no_walk_if_unreached g cost name sources v none w.0 w.1,
    )

    pub sum_step_is_nearer : (u v x y : ℕ) → IsBest (counted cost k) g sources u x → IsBest (counted cost k) g sources v y →
        IsCountedStep g cost k u x v y ↔ IsNearer (held_sums name cost) g sources v u
    sum_step_is_nearer u v x y best_u best_v = (
      step_is_nearer (held_sums name cost) (2 ^ 63 - 1) held_sums_least u v x y best_u best_v (number_fits v y best_v),
      nearer_is_step (held_sums name cost) (2 ^ 63 - 1) held_sums_least u v x y best_u best_v,
    )

    pub sums_carry_hops : CarryHops (held_sums name cost) g cost k sources
    sums_carry_hops = record {
      best = λ v x. (
        number_is_best_sum v x,
        λ h. best_is_number (held_sums name cost) (2 ^ 63 - 1) held_sums_least v x h.0 h.1,
      );
      unreached = unreached_alike;
      sources_are_zero = source_is_zero;
      steps = sum_step_is_nearer;
      parents = λ number v y u best_v known.
          counted_parent (held_sums name cost) (2 ^ 63 - 1) held_sums_least number v y best_v known (number_fits v y best_v) u;
    }

-- Within, of the same numbers at every limit
module _ (g : GraphData) (sources : List ℕ) (limit : ℕ) where
  within_least : core.HasLeastSums g (λ w. w) sources (within limit) limit
  within_least = limited_least Within (λ w. w) limit g sources

  within_is : (y : ℕ) (p : List ℕ) (x : ℕ) → y ≤ limit → Extends (within limit) g y p x →
      (x ≡ y + sum_of_costs g (λ w. w) p) × (x ≤ limit)
  within_is = limited_is Within (λ w. w) limit g sources

  module _ (roads : IsGraph g) (inside : All (HasVertex g) sources) (k : ℕ) (fit : CountsFit g (λ w. w) k) where
    pub number_is_beyond_within : (v x : ℕ) → IsBest (counted (λ w. w) k) g sources v x → limit < x / 2 ^ k →
        IsUnreached (within limit) g sources v
    number_is_beyond_within v x best over y w =
        let is = within_is 0 w.0 y (omega arith) w.2 in
        let sum = is.0 in
        let fits = is.1 in
        let least = core.sum_is_least g (λ w. w) sources (within limit) limit within_least roads (all_inside g sources inside) (2 ^ k) fit.few v x
        (number_at g roads sources inside (λ w. w) k fit v x best) in
        let low = least.least w.0 w.1 in
        omega (arith, sum, fits, low, over)

    pub unreached_within : (v : ℕ) → IsUnreached (counted (λ w. w) k) g sources v → IsUnreached (within limit) g sources v
    unreached_within v none y w = no_walk g roads sources inside (λ w. w) k fit v none w.0 w.1

    pub step_is_nearer_within : (u v x y : ℕ) → IsBest (counted (λ w. w) k) g sources u x → IsBest (counted (λ w. w) k) g sources v y →
        y / 2 ^ k ≤ limit → IsCountedStep g (λ w. w) k u x v y ↔ IsNearer (within limit) g sources v u
    step_is_nearer_within u v x y best_u best_v fits = (
      step_is_nearer g roads sources inside (λ w. w) k fit (within limit) limit within_least u v x y best_u best_v fits,
      nearer_is_step g roads sources inside (λ w. w) k fit (within limit) limit within_least u v x y best_u best_v,
    )

    pub within_carries_hops : CarryHopsWithin limit g k sources
    within_carries_hops = record {
      best = λ v x fits. (
        λ h. number_is_best g roads sources inside (λ w. w) k fit (within limit) limit within_least v x h fits,
        λ h. best_is_number g roads sources inside (λ w. w) k fit (within limit) limit within_least v x h.0 h.1,
      );
      beyond = number_is_beyond_within;
      unreached = unreached_within;
      steps = step_is_nearer_within;
      parents = λ number v y u best_v fits known.
          counted_parent g roads sources inside (λ w. w) k fit (within limit) limit within_least number v y best_v known fits u;
    }

-- Shortest: its best values are the least plain sums, since a short walk weighs less than 2^57
module _ (g : GraphData) (roads : IsGraph g) (sources : List ℕ) (inside : All (HasVertex g) sources) where
  same_sum : (p : List ℕ) → sum_of_weights g p ≡ sum_of_costs g (λ w. w) p
  same_sum [] = refl
  same_sum (a ∷ p) = let ih = same_sum p in omega (arith, ih)

  -- 2^63 is not reached by a walk with an arc into each vertex at most
  light_walk : (v : ℕ) (p : List ℕ) → IsWalkFrom g sources p v →
      (q : List ℕ) × IsWalkFrom g sources q v × (sum_of_costs g (λ w. w) q < 2 ^ 63)
  light_walk v p w =
      let s = short_walk g (λ w. w) roads sources (all_inside g sources inside) p v w in
      let bound = s.4 (λ _. 2 ^ 32) (λ a has. let h = roads.weights a has in omega (arith, h)) in
      let count = sum_to-constant (2 ^ 32) g.vertices in
      let few = roads.few_vertices in
      (s.0, s.1, omega (arith, bound, count, few))

  module _ (v x : ℕ) where
    pub least_sum_if_best : IsBest shortest g sources v x → IsLeastSum g sources v x
    least_sum_if_best best =
        let l = (least_if_best g (λ w. w) Shortest sources light_walk v x best).0 in
        record {
          attained = (l.attained.0, l.attained.1, same_sum l.attained.0 ∙ l.attained.2);
          least = λ p w. let k = l.least p w in let e = same_sum p in omega (arith, k, e);
        }

    pub best_if_least_sum : IsLeastSum g sources v x → IsBest shortest g sources v x
    best_if_least_sum l = best_if_least g (λ w. w) Shortest sources light_walk v x (record {
      attained = (l.attained.0, l.attained.1, sym (same_sum l.attained.0) ∙ l.attained.2);
      least = λ p w. let k = l.least p w in let e = same_sum p in omega (arith, k, e);
    })
