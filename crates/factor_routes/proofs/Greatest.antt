-- The greatest cost into each vertex, of a row and of all arcs, and the least number of low bits
-- that leaves room.
use Rattle.std.proofs.Common.{◌≡◌, ℕ, zero, suc, ◌+◌, ◌-◌, ◌*◌, ◌<◌, ◌≤◌, ◌^◌, ◌⊎◌, inl, inr, Bool, true, false, max, List, [], ◌∷◌, length, refl, ap, sym, ◌∙◌, subst, arith, eqb-true}
use Rattle.std.proofs.Math.Nat.{mul-le-mul_right, mul-le-mul_left, le_of_mul-le-mul_right, pow-succ'}
use Rattle.std.proofs.Math.Pow.{pow_mono, pow_pos}
use Rattle.std.proofs.lemmas.Nat.{pow-add}
use Rattle.factor_routes.proofs.Words.{nat_tests, get_or_default, OutRoad, GraphData, HasArc, ListsRoadsInto, arc_of, reversed_arc, road_of, CountsFit, sum_to, greatest_into}
use Rattle.std.proofs.lemmas.List.Elements.{All-nil, All-cons, All-head, All-tail, All-weaker, All-contains}
use Rattle.std.specs.Prelude.{All, Contains, map, ◌==◌, if◌then◌else◌, slice_index_or}
use Rattle.road_graph.specs.declared.RoadArc.{RoadArc}

-- the greatest of m and of what the roads of a row cost
abbrev pub greatest_of : (ℕ → ℕ) → ℕ → List OutRoad → ℕ
greatest_of cost m [] = m
greatest_of cost m (road ∷ roads) = greatest_of cost (max m (cost road.weight)) roads

whole : (k : ℕ) → k ≤ 63 → 2 ^ (63 - k) * 2 ^ k ≡ 2 ^ 63
whole k few =
    let e : (63 - k) + k ≡ 63 = omega (arith, few) in
    sym (pow-add 2 (63 - k) k) ∙ ap (λ (n : ℕ). 2 ^ n) e

-- a number in k digits has no more
pub few_digits : (n m k : ℕ) → 2 ^ m ≤ 2 * n + 1 → n < 2 ^ k → m ≤ k
few_digits n m k high below = elim (split m k) [
  | inl le ↦ le
  | inr more ↦
      absurd (omega (arith, high, below, pow_mono more, pow-succ' 2 k))
]
  where
    split : (m k : ℕ) → (m ≤ k) ⊎ (suc k ≤ m)
    split m k = grind arith

module _ (cost : ℕ → ℕ) where
  -- no arc into v costs more
  into_bound : (v : ℕ) (arcs : List RoadArc) → All (λ a. a.head ≡ v → cost a.weight ≤ greatest_into cost v arcs) arcs
  into_bound v [] = All-nil (λ a. a.head ≡ v → cost a.weight ≤ 0)
  into_bound v (a ∷ arcs) =
      All-cons (λ b. b.head ≡ v → cost b.weight ≤ greatest_into cost v (a ∷ arcs)) a arcs
      (λ e. let t : (a.head == v) ≡ true = grind (arith, nat_tests) in rw t (omega arith))
      (All-weaker (λ b. b.head ≡ v → cost b.weight ≤ greatest_into cost v arcs) (λ b. b.head ≡ v → cost b.weight ≤ greatest_into cost v (a ∷ arcs))
      (λ b h e. let low = h e in omega (arith, low)) arcs (into_bound v arcs))

  -- and it is the least bound
  into_least : (v bound : ℕ) (arcs : List RoadArc) → All (λ a. a.head ≡ v → cost a.weight ≤ bound) arcs → greatest_into cost v arcs ≤ bound
  into_least v bound [] all = omega arith
  into_least v bound (a ∷ arcs) all =
      both (into_least v bound arcs (All-tail (λ b. b.head ≡ v → cost b.weight ≤ bound) a arcs all)) (a.head == v) refl
    where
      both : greatest_into cost v arcs ≤ bound → (t : Bool) → (a.head == v) ≡ t →
          max (if t then cost a.weight else 0) (greatest_into cost v arcs) ≤ bound
      both rest true t =
          let low = All-head (λ b. b.head ≡ v → cost b.weight ≤ bound) a arcs all (eqb-true a.head v t) in
          omega (arith, low, rest)
      both rest false t = omega (arith, rest)

  module _ (g : GraphData) where
    pub arc_bound : (a : ℕ) → HasArc g a → cost (arc_of g a).weight ≤ greatest_into cost (arc_of g a).head g.arcs
    arc_bound a has =
        into_bound (arc_of g a).head g.arcs (a - 1) (record { tail = 0; head = 0; weight = 0 }) (omega (arith, has.0, has.1)) refl

    pub bound_is_above : (v bound : ℕ) → ((a : ℕ) → HasArc g a → (arc_of g a).head ≡ v → cost (arc_of g a).weight ≤ bound) →
        greatest_into cost v g.arcs ≤ bound
    bound_is_above v bound above = into_least v bound g.arcs (λ k d lt.
        let place : k ≡ k + 1 - 1 = omega arith in
        let e : slice_index_or g.arcs k d ≡ arc_of g (k + 1) =
        get_or_default g.arcs k d (record { tail = 0; head = 0; weight = 0 }) lt
        ∙ ap (λ (i : ℕ). slice_index_or g.arcs i (record { tail = 0; head = 0; weight = 0 })) place in
        subst (λ (b : RoadArc). b.head ≡ v → cost b.weight ≤ bound) (sym e) (above (k + 1) (omega arith, omega (arith, lt))))

    row_start : (m : ℕ) (numbers : List ℕ) → m ≤ greatest_of cost m (map (λ a. road_of (reversed_arc (arc_of g a))) numbers)
    row_start m [] = omega arith
    row_start m (a ∷ numbers) = let more = row_start (max m (cost (arc_of g a).weight)) numbers in omega (arith, more)

    row_bound : (m : ℕ) (numbers : List ℕ) →
        All (λ a. cost (arc_of g a).weight ≤ greatest_of cost m (map (λ b. road_of (reversed_arc (arc_of g b))) numbers)) numbers
    row_bound m [] = All-nil (λ a. cost (arc_of g a).weight ≤ m)
    row_bound m (a ∷ numbers) =
        All-cons (λ b. cost (arc_of g b).weight ≤ greatest_of cost m (map (λ c. road_of (reversed_arc (arc_of g c))) (a ∷ numbers))) a numbers
        (omega (arith, row_start (max m (cost (arc_of g a).weight)) numbers)) (row_bound (max m (cost (arc_of g a).weight)) numbers)

    row_least : (m bound : ℕ) (numbers : List ℕ) → m ≤ bound → All (λ a. cost (arc_of g a).weight ≤ bound) numbers →
        greatest_of cost m (map (λ a. road_of (reversed_arc (arc_of g a))) numbers) ≤ bound
    row_least m bound [] le all = le
    row_least m bound (a ∷ numbers) le all =
        let low = All-head (λ b. cost (arc_of g b).weight ≤ bound) a numbers all in
        row_least (max m (cost (arc_of g a).weight)) bound numbers (omega (arith, le, low)) (All-tail (λ b. cost (arc_of g b).weight ≤ bound) a numbers all)

    -- the greatest cost of a row is that of the arcs into its vertex
    pub row_is_greatest : (v : ℕ) (roads : List OutRoad) → ListsRoadsInto g v roads → greatest_of cost 0 roads ≡ greatest_into cost v g.arcs
    row_is_greatest v roads lists =
        let numbers = lists.0 in
        let low : greatest_of cost 0 (map (λ a. road_of (reversed_arc (arc_of g a))) numbers) ≤ greatest_into cost v g.arcs =
        row_least 0 (greatest_into cost v g.arcs) numbers (omega arith) (λ k d lt. inside k d lt) in
        let high : greatest_into cost v g.arcs ≤ greatest_of cost 0 (map (λ a. road_of (reversed_arc (arc_of g a))) numbers) =
        bound_is_above v (greatest_of cost 0 (map (λ a. road_of (reversed_arc (arc_of g a))) numbers))
        (λ a has at. All-contains (λ b. cost (arc_of g b).weight ≤ greatest_of cost 0 (map (λ c. road_of (reversed_arc (arc_of g c))) numbers))
        numbers a (row_bound 0 numbers) ((lists.1 a).1 (has, at))) in
        rw lists.2 (omega (arith, low, high))
      where
        inside : (k d : ℕ) → k < length lists.0 → cost (arc_of g (slice_index_or lists.0 k d)).weight ≤ greatest_into cost v g.arcs
        inside k d lt =
            let a = slice_index_or lists.0 k d in
            let there : Contains lists.0 a = (k, lt, get_or_default lists.0 k a d lt) in
            let arc = (lists.1 a).0 there in
            subst (λ (u : ℕ). cost (arc_of g a).weight ≤ greatest_into cost u g.arcs) arc.1 (arc_bound a arc.0)

    sum_mono : (f h : ℕ → ℕ) (n : ℕ) → ((v : ℕ) → f v ≤ h v) → sum_to f n ≤ sum_to h n
    sum_mono f h zero le = omega arith
    sum_mono f h (suc n) le =
        omega (arith, le (suc n), sum_mono f h n le)

    -- with room for their sum above the low bits, the numbers fit
    pub fits_above : (k : ℕ) → k ≤ 63 → g.vertices < 2 ^ k → sum_to (λ v. greatest_into cost v g.arcs) g.vertices < 2 ^ (63 - k) → CountsFit g cost k
    fits_above k few enough room = record {
      heaviest = λ v. greatest_into cost v g.arcs;
      costs = arc_bound;
      few = enough;
      fits =
          let more : sum_to (λ v. greatest_into cost v g.arcs) g.vertices + 1 ≤ 2 ^ (63 - k) = omega (arith, room) in
          omega (arith, mul-le-mul_right (2 ^ k) more, whole k few);
    }

    -- if they fit for some number of low bits, they do for the least one
    pub room_if_fits : (k bits : ℕ) → CountsFit g cost k → bits ≤ 63 → ((j : ℕ) → g.vertices < 2 ^ j → bits ≤ j) →
        sum_to (λ v. greatest_into cost v g.arcs) g.vertices < 2 ^ (63 - bits)
    room_if_fits k bits fit few least =
        let s = sum_to (λ v. greatest_into cost v g.arcs) g.vertices in
        let below : s + 1 ≤ sum_to fit.heaviest g.vertices + 1 = let le = sum_mono (λ v. greatest_into cost v g.arcs) fit.heaviest g.vertices least_bounds in omega (arith, le) in
        let more = mul-le-mul_right (2 ^ k) below in
        let all = whole bits few in
        let product : (s + 1) * 2 ^ bits ≤ 2 ^ (63 - bits) * 2 ^ bits = omega (arith, mul-le-mul_left (s + 1) (pow_mono (least k fit.few)), more, fit.fits, all) in
        omega (arith, le_of_mul-le-mul_right product (pow_pos bits))
      where
        least_bounds : (v : ℕ) → greatest_into cost v g.arcs ≤ fit.heaviest v
        least_bounds v = bound_is_above v (fit.heaviest v) (λ a has at. subst (λ (u : ℕ). cost (arc_of g a).weight ≤ fit.heaviest u) at (fit.costs a has))
