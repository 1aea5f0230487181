-- A least number is a least sum and, among those, fewest arcs; its walk is one of tight arcs.
use Rattle.path_algebra.proofs.Words.{◌≡◌, ℕ, ◌+◌, ◌*◌, ◌/◌, ◌%◌, ◌<◌, ◌≤◌, ◌⊎◌, inl, inr, List, [], ◌∷◌, ◌++◌, length, refl, ap, sym, ◌∙◌, subst, arith, Some, mul-le-mul_right, add-mul, Contains, All, GraphData, IsGraph, HasArc, HasVertex, arc_of, Algebra, sum_of_costs, IsLeastCost}
use Rattle.std.proofs.lemmas.Nat.{div-mul-add, mod-mul-add}
use Rattle.std.proofs.lemmas.List.Elements.{All-nil, All-cons, All-head, All-tail}
use Rattle.path_algebra.specs.Walks.{IsWalk, IsWalkFrom, IsBest, IsTight, IsTightWalk, AreHops, IsNearer}
use Rattle.path_algebra.proofs.Walks.{IsWalk-snoc}
use Rattle.path_algebra.proofs.ShortWalks.{short_walk}

-- of two numbers in base K the greater has no lesser first part
first_part : (K c d h j : ℕ) → j < K → c * K + h ≤ d * K + j → c ≤ d
first_part K c d h j small le = elim (split c d) [
  | inl l ↦ l
  | inr more ↦
      let product = mul-le-mul_right K more in
      let one = add-mul d 1 K in
      absurd (omega (arith, le, small, product, one))
]
  where
    split : (c d : ℕ) → (c ≤ d) ⊎ (d + 1 ≤ c)
    split c d = grind arith

module _ (g : GraphData) (cost : ℕ → ℕ) where
  snoc_sum : (p : List ℕ) (a : ℕ) → sum_of_costs g cost (p ++ a ∷ []) ≡ sum_of_costs g cost p + cost (arc_of g a).weight
  snoc_sum [] a = omega arith
  snoc_sum (b ∷ p) a = let ih = snoc_sum p a in omega (arith, ih)

  pub counted_sum : (K : ℕ) (p : List ℕ) →
      sum_of_costs g (λ w. cost w * K + 1) p ≡ sum_of_costs g cost p * K + length p
  counted_sum K [] = omega arith
  counted_sum K (a ∷ p) =
      let ih = counted_sum K p in
      let product = add-mul (cost (arc_of g a).weight) (sum_of_costs g cost p) K in
      omega (arith, ih, product)

  module _ (sources : List ℕ) where
    -- some walk to v costs x
    abbrev IsCost : ℕ → ℕ → Type 0
    IsCost v x = (p : List ℕ) × IsWalkFrom g sources p v × (sum_of_costs g cost p ≡ x)

    pub one_least : (v x y : ℕ) → IsLeastCost g cost sources v x → IsLeastCost g cost sources v y → x ≡ y
    one_least v x y h k =
        let a = h.least k.attained.0 k.attained.1 in
        let b = k.least h.attained.0 h.attained.1 in
        let c = h.attained.2 in
        let d = k.attained.2 in
        omega (arith, a, b, c, d)

    source_least : (s : ℕ) → Contains sources s → IsLeastCost g cost sources s 0
    source_least s c = record {
      attained = ([], (s, c, refl), refl);
      least = λ p w. omega arith;
    }

    go_on : (v x a : ℕ) → IsCost v x → HasArc g a → (arc_of g a).tail ≡ v → IsCost (arc_of g a).head (x + cost (arc_of g a).weight)
    go_on v x a h has e =
        let sum = snoc_sum h.0 a in
        let was = h.2 in
        (h.0 ++ a ∷ [], (h.1.0, h.1.1, IsWalk-snoc g h.1.0 h.0 v a h.1.2 has e), omega (arith, sum, was))

    -- the best values of an algebra are the least sums up to a limit, and each arc adds its cost
    pub record HasLeastSums (A : Algebra ℕ) (limit : ℕ) : Type 0 where
      pub least_if_best : (v x : ℕ) → IsBest A g sources v x → IsLeastCost g cost sources v x × (x ≤ limit)
      pub best_if_least : (v x : ℕ) → IsLeastCost g cost sources v x → x ≤ limit → IsBest A g sources v x
      pub extend_to : (x w : ℕ) → x + cost w ≤ limit → A.extend x w ≡ Some (x + cost w)
      pub extend_is : (x w y : ℕ) → A.extend x w ≡ Some y → y ≤ limit → x + cost w ≡ y

    -- a number is 0 at the sources alone
    pub zero_at_source : (K v x : ℕ) → IsLeastCost g (λ w. cost w * K + 1) sources v x → Contains sources v → x ≡ 0
    zero_at_source K v x h c = let l = h.least [] (v, c, refl) in omega (arith, l)

    pub source_at_zero : (K v x : ℕ) → IsLeastCost g (λ w. cost w * K + 1) sources v x → x ≡ 0 → Contains sources v
    source_at_zero K v x h z = let is = h.attained.2 in empty h.attained.0 h.attained.1 (is ∙ z)
      where
        empty : (p : List ℕ) → IsWalkFrom g sources p v → sum_of_costs g (λ w. cost w * K + 1) p ≡ 0 → Contains sources v
        empty [] w e = subst (λ (s : ℕ). Contains sources s) w.2 w.1
        empty (a ∷ p) w e = absurd (omega (arith, e))

    module _ (A : Algebra ℕ) (limit : ℕ) (holds : HasLeastSums A limit) where
      -- each beginning of a least walk is least, and its arcs are tight
      pub least_along : (u : ℕ) (p : List ℕ) (v x : ℕ) → IsCost u x → IsWalk g u p v →
          IsLeastCost g cost sources v (x + sum_of_costs g cost p) → x + sum_of_costs g cost p ≤ limit →
          IsLeastCost g cost sources u x × All (IsTight A g sources) p
      least_along u [] v x h w least fits =
          let e : x + 0 ≡ x = omega arith in (
            subst (λ (z : ℕ). IsLeastCost g cost sources u z) e (subst (λ (z : ℕ). IsLeastCost g cost sources z (x + 0)) (sym w) least),
            All-nil (IsTight A g sources),
          )
      least_along u (a ∷ p) v x h w least fits =
          let c = cost (arc_of g a).weight in
          let e : x + (c + sum_of_costs g cost p) ≡ (x + c) + sum_of_costs g cost p = omega arith in
          let at_head = go_on u x a h w.0 w.1 in
          let ih = least_along (arc_of g a).head p v (x + c) at_head w.2
          (subst (λ (z : ℕ). IsLeastCost g cost sources v z) e least) (omega (arith, fits)) in
          let least_u : IsLeastCost g cost sources u x = record {
            attained = h;
            least = λ q r.
                let on = go_on u (sum_of_costs g cost q) a (q, r, refl) w.0 w.1 in
                let k = ih.0.least on.0 on.1 in
                let s = on.2 in
                omega (arith, k, s);
          } in
          let least_tail = subst (λ (z : ℕ). IsLeastCost g cost sources z x) (sym w.1) least_u in (
            least_u,
            All-cons (IsTight A g sources) a p
                (record {
                  arc = w.0;
                  tail = x;
                  head = x + c;
                  tail_best = holds.best_if_least (arc_of g a).tail x least_tail (omega (arith, fits));
                  head_best = holds.best_if_least (arc_of g a).head (x + c) ih.0 (omega (arith, fits));
                  extends = holds.extend_to x (arc_of g a).weight (omega (arith, fits));
                })
                ih.1,
          )

      -- what a tight arc says of the least sums at its ends
      pub tight_sum : (a x : ℕ) → IsLeastCost g cost sources (arc_of g a).tail x → IsTight A g sources a →
          IsLeastCost g cost sources (arc_of g a).head (x + cost (arc_of g a).weight) × (x + cost (arc_of g a).weight ≤ limit)
      tight_sum a x least t =
          let at_tail = holds.least_if_best (arc_of g a).tail t.tail t.tail_best in
          let at_head = holds.least_if_best (arc_of g a).head t.head t.head_best in
          let same = one_least (arc_of g a).tail t.tail x at_tail.0 least in
          let sum = holds.extend_is t.tail (arc_of g a).weight t.head t.extends at_head.1 in
          let e : t.head ≡ x + cost (arc_of g a).weight = omega (arith, same, sum) in
          let fits = at_head.1 in
          (subst (λ (z : ℕ). IsLeastCost g cost sources (arc_of g a).head z) e at_head.0, omega (arith, fits, e))

      -- a walk of tight arcs from a vertex with its least sum is least
      tight_along : (u : ℕ) (p : List ℕ) (v x : ℕ) → IsLeastCost g cost sources u x → IsWalk g u p v →
          All (IsTight A g sources) p → IsLeastCost g cost sources v (x + sum_of_costs g cost p)
      tight_along u [] v x least w all =
          let e : x ≡ x + 0 = omega arith in
          subst (λ (z : ℕ). IsLeastCost g cost sources v z) e (subst (λ (z : ℕ). IsLeastCost g cost sources z x) w least)
      tight_along u (a ∷ p) v x least w all =
          let c = cost (arc_of g a).weight in
          let t = tight_sum a x (subst (λ (z : ℕ). IsLeastCost g cost sources z x) (sym w.1) least) (All-head (IsTight A g sources) a p all) in
          let e : (x + c) + sum_of_costs g cost p ≡ x + (c + sum_of_costs g cost p) = omega arith in
          subst (λ (z : ℕ). IsLeastCost g cost sources v z) e
          (tight_along (arc_of g a).head p v (x + c) t.0 w.2 (All-tail (IsTight A g sources) a p all))

      pub least_tight : (v x k : ℕ) → IsLeastCost g cost sources v x → (w : IsTightWalk A g sources v k) → sum_of_costs g cost w.0 ≡ x
      least_tight v x k least w =
          let end = tight_along w.1.0 w.0 v 0 (source_least w.1.0 w.1.1) w.1.2 w.2 in
          let same = one_least v (0 + sum_of_costs g cost w.0) x end least in
          omega (arith, same)

      pub one_hops : (v h j : ℕ) → AreHops A g sources v h → AreHops A g sources v j → h ≡ j
      one_hops v h j a b =
          let l = a.least j b.attained in
          let m = b.least h a.attained in
          omega (arith, l, m)

      module _ (roads : IsGraph g) (in_s : (s : ℕ) → Contains sources s → HasVertex g s) (K : ℕ) (few : g.vertices < K) where
        -- x is the least number at v
        abbrev IsLeastNumber : ℕ → ℕ → Type 0
        IsLeastNumber v x = IsLeastCost g (λ w. cost w * K + 1) sources v x

        -- a least number comes of a short walk, which costs least
        record Parts (v x : ℕ) : Type 0 where
          walk : List ℕ
          from : IsWalkFrom g sources walk v
          short : length walk < g.vertices
          number : sum_of_costs g cost walk * K + length walk ≡ x
          least : IsLeastCost g cost sources v (sum_of_costs g cost walk)

        parts : (v x : ℕ) → IsLeastNumber v x → Parts v x
        parts v x h =
            let s = short_walk g (λ w. cost w * K + 1) roads sources in_s h.attained.0 v h.attained.1 in
            let q = s.0 in
            let n = counted_sum K q in
            let low = h.least q s.1 in
            let no_more = s.3 in
            let was = h.attained.2 in
            let number : sum_of_costs g cost q * K + length q ≡ x = omega (arith, n, low, no_more, was) in
            record {
              walk = q;
              from = s.1;
              short = s.2;
              number = number;
              least = record {
                attained = (q, s.1, refl);
                least = λ p w.
                    let r = short_walk g cost roads sources in_s p v w in
                    let m = counted_sum K r.0 in
                    let above = h.least r.0 r.1 in
                    let length_r = r.2 in
                    let below = r.3 in
                    let first = first_part K (sum_of_costs g cost q) (sum_of_costs g cost r.0) (length q) (length r.0)
                    (omega (arith, length_r, few)) (omega (arith, m, above, number)) in
                    omega (arith, first, below);
              };
            }

        module _ (v x : ℕ) (h : IsLeastNumber v x) where
          sum_part : (t : Parts v x) → x / K ≡ sum_of_costs g cost t.walk
          sum_part t =
              let short = t.short in
              ap (λ (n : ℕ). n / K) (sym t.number) ∙ div-mul-add (sum_of_costs g cost t.walk) K (length t.walk) (omega (arith, short, few))

          arcs_part : (t : Parts v x) → x % K ≡ length t.walk
          arcs_part t =
              let short = t.short in
              ap (λ (n : ℕ). n % K) (sym t.number) ∙ mod-mul-add (sum_of_costs g cost t.walk) K (length t.walk) (omega (arith, short, few))

          -- its first part is the least sum
          pub sum_is_least : IsLeastCost g cost sources v (x / K)
          sum_is_least =
              let t = parts v x h in
              subst (λ (z : ℕ). IsLeastCost g cost sources v z) (sym (sum_part t)) t.least

          -- and the rest is the hops
          pub rest_is_hops : x / K ≤ limit → AreHops A g sources v (x % K)
          rest_is_hops fits =
              let t = parts v x h in
              let is = sum_part t in
              let n = t.number in
              let e : sum_of_costs g cost t.walk ≡ 0 + sum_of_costs g cost t.walk = omega arith in
              let least : IsLeastCost g cost sources v (0 + sum_of_costs g cost t.walk) = subst (λ (z : ℕ). IsLeastCost g cost sources v z) e t.least in
              let along = least_along t.from.0 t.walk v 0 ([], (t.from.0, t.from.1, refl), refl) t.from.2 least (omega (arith, fits, is)) in
              subst (λ (z : ℕ). AreHops A g sources v z) (sym (arcs_part t)) (record {
                attained = (t.walk, t.from, along.1, refl);
                least = λ j w.
                    let same = ap (λ (c : ℕ). c * K) (least_tight v (sum_of_costs g cost t.walk) j t.least w) in
                    let m = counted_sum K w.0 in
                    let low = h.least w.0 w.1 in
                    let count = w.3 in
                    omega (arith, same, m, low, count, n);
              })

        -- the least sum and the hops are the least number
        pub least_number : (v c h : ℕ) → IsLeastCost g cost sources v c → c ≤ limit → AreHops A g sources v h →
            IsLeastNumber v (c * K + h)
        least_number v c h least fits hops =
            let w = hops.attained in
            let sum = least_tight v c h least w in
            let counted_w = counted_sum K w.0 in
            let product = ap (λ (n : ℕ). n * K) sum in
            let arcs = w.3 in
            let few_hops : h < K =
            let s = short_walk g cost roads sources in_s w.0 v w.1 in
            let no_more = s.3 in
            let short = s.2 in
            let low = least.least s.0 s.1 in
            let l = no_more_hops s.0 s.1 (omega (arith, no_more, low, sum)) in omega (arith, l, short, few) in
            record {
              attained = (w.0, w.1, omega (arith, counted_w, product, arcs));
              least = λ p from.
                  let s = short_walk g (λ w. cost w * K + 1) roads sources in_s p v from in
                  let n = counted_sum K s.0 in
                  let no_more = s.3 in
                  let low = least.least s.0 s.1 in
                  elim (same_or_more c (sum_of_costs g cost s.0) low) [
                    | inl same ↦
                        let l = no_more_hops s.0 s.1 (sym same) in
                        let e = ap (λ (n : ℕ). n * K) same in
                        omega (arith, n, no_more, l, e)
                    | inr more ↦
                        let e = mul-le-mul_right K more in
                        let one = add-mul c 1 K in
                        omega (arith, n, no_more, e, one, few_hops)
                  ];
            }
          where
            same_or_more : (c d : ℕ) → c ≤ d → (c ≡ d) ⊎ (c + 1 ≤ d)
            same_or_more c d l = grind arith

            no_more_hops : (q : List ℕ) → IsWalkFrom g sources q v → sum_of_costs g cost q ≡ c → h ≤ length q
            no_more_hops q from e =
                let to : c ≡ 0 + sum_of_costs g cost q = omega (arith, e) in
                let along = least_along from.0 q v 0 ([], (from.0, from.1, refl), refl) from.2
                (subst (λ (z : ℕ). IsLeastCost g cost sources v z) to least) (omega (arith, fits, e)) in
                hops.least (length q) (q, from, along.1, refl)

        module _ (u v x y : ℕ) (at_u : IsLeastNumber u x) (at_v : IsLeastNumber v y) where
          -- an arc from u to v that adds up is tight, and u is one hop nearer
          pub nearer_if_step : y / K ≤ limit →
              (a : ℕ) × HasArc g a × ((arc_of g a).tail ≡ u) × ((arc_of g a).head ≡ v) × (x + (cost (arc_of g a).weight * K + 1) ≡ y) →
              IsNearer A g sources v u
          nearer_if_step fits step =
              let a = step.0 in
              let c = cost (arc_of g a).weight in
              let s = parts u x at_u in
              let t = parts v y at_v in
              let is_x = s.number in
              let is_y = t.number in
              let short_x = s.short in
              let short_y = t.short in
              let adds = step.4 in
              let product = add-mul (sum_of_costs g cost s.walk) c K in
              let up = first_part K (sum_of_costs g cost s.walk + c) (sum_of_costs g cost t.walk) (length s.walk + 1) (length t.walk)
              (omega (arith, short_y, few)) (omega (arith, is_x, is_y, adds, product)) in
              let down = first_part K (sum_of_costs g cost t.walk) (sum_of_costs g cost s.walk + c) (length t.walk) (length s.walk + 1)
              (omega (arith, short_x, few)) (omega (arith, is_x, is_y, adds, product)) in
              let sums : sum_of_costs g cost s.walk + c ≡ sum_of_costs g cost t.walk = omega (arith, up, down) in
              let products = ap (λ (n : ℕ). n * K) sums in
              let arcs : length s.walk + 1 ≡ length t.walk = omega (arith, is_x, is_y, adds, product, products) in
              let sum_y = sum_part v y at_v t in
              let sum_x = sum_part u x at_u s in
              let rest_x = arcs_part u x at_u s in
              let rest_y = arcs_part v y at_v t in
              let one : y % K ≡ x % K + 1 = omega (arith, arcs, rest_x, rest_y) in (
                a,
                record {
                  arc = step.1;
                  tail = sum_of_costs g cost s.walk;
                  head = sum_of_costs g cost t.walk;
                  tail_best = holds.best_if_least (arc_of g a).tail (sum_of_costs g cost s.walk)
                      (subst (λ (z : ℕ). IsLeastCost g cost sources z (sum_of_costs g cost s.walk)) (sym step.2) s.least)
                      (omega (arith, fits, sum_y, sums));
                  head_best = holds.best_if_least (arc_of g a).head (sum_of_costs g cost t.walk)
                      (subst (λ (z : ℕ). IsLeastCost g cost sources z (sum_of_costs g cost t.walk)) (sym step.3) t.least)
                      (omega (arith, fits, sum_y));
                  extends = holds.extend_to (sum_of_costs g cost s.walk) (arc_of g a).weight (omega (arith, fits, sum_y, sums)) ∙ ap (λ (z : ℕ). Some z) sums;
                },
                step.2,
                step.3,
                (x % K, rest_is_hops u x at_u (omega (arith, fits, sum_x, sum_y, sums)), subst (λ (j : ℕ). AreHops A g sources v j) one (rest_is_hops v y at_v fits)),
              )

          pub step_if_nearer : IsNearer A g sources v u →
              (a : ℕ) × HasArc g a × ((arc_of g a).tail ≡ u) × ((arc_of g a).head ≡ v) × (x + (cost (arc_of g a).weight * K + 1) ≡ y)
          step_if_nearer near =
              let a = near.0 in
              let c = cost (arc_of g a).weight in
              let s = parts u x at_u in
              let t = parts v y at_v in
              let is_x = s.number in
              let is_y = t.number in
              let tight = tight_sum a (sum_of_costs g cost s.walk)
              (subst (λ (z : ℕ). IsLeastCost g cost sources z (sum_of_costs g cost s.walk)) (sym near.2) s.least) near.1 in
              let sums = one_least v (sum_of_costs g cost s.walk + c) (sum_of_costs g cost t.walk)
              (subst (λ (z : ℕ). IsLeastCost g cost sources z (sum_of_costs g cost s.walk + c)) near.3 tight.0) t.least in
              let fits = tight.1 in
              let sum_x = sum_part u x at_u s in
              let sum_y = sum_part v y at_v t in
              let rest_x = arcs_part u x at_u s in
              let rest_y = arcs_part v y at_v t in
              let hops_x = one_hops u (x % K) near.4.0 (rest_is_hops u x at_u (omega (arith, fits, sum_x))) near.4.1 in
              let hops_y = one_hops v (y % K) (near.4.0 + 1) (rest_is_hops v y at_v (omega (arith, fits, sum_y, sums))) near.4.2 in
              let product = add-mul (sum_of_costs g cost s.walk) c K in
              let products = ap (λ (n : ℕ). n * K) sums in
              (a, near.1.arc, near.2, near.3, omega (arith, is_x, is_y, rest_x, rest_y, hops_x, hops_y, product, products))
