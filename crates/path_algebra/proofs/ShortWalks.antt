-- For each walk there is one that costs no more and repeats no vertex, whatever arcs cost.
use Rattle.path_algebra.proofs.Words.{◌≡◌, ℕ, zero, suc, ◌+◌, ◌*◌, ◌<◌, ◌≤◌, ◌^◌, ◌⊎◌, inl, inr, cond, eqb, min, List, [], ◌∷◌, length, refl, ap, sym, ◌∙◌, subst, arith, eq-eqb, ne_eqb, le-leb, leb-true, add-mul, cases_eq, Contains, GraphData, IsGraph, HasArc, HasVertex, arc_of, not_in_empty, here, later, head_or_tail, held_sums, AlgebraName, IsWalk, IsWalkFrom, Extends, IsBest, IsUnreached, sum_of_costs, sum_to, IsLeastCost}

-- the list without the first u
remove : ℕ → List ℕ → List ℕ
remove u [] = []
remove u (x ∷ xs) = cond (eqb x u) xs (x ∷ remove u xs)

kept : (u w : ℕ) (xs : List ℕ) → Contains xs w → (w ≡ u → ⊥) → Contains (remove u xs) w
unfolding remove
kept u w [] h ne = absurd (not_in_empty w h)
kept u w (x ∷ xs) h ne = elim (cases_eq x u) [
  | inl same ↦ rw (eq-eqb x u same) (elim (head_or_tail x w xs h) [ inl e ↦ absurd (ne (sym e ∙ same)) | inr r ↦ r ])
  | inr other ↦ rw (ne_eqb x u other) (elim (head_or_tail x w xs h) [
    | inl e ↦ subst (λ (y : ℕ). Contains (x ∷ remove u xs) y) e (here x (remove u xs))
    | inr r ↦ later x w (remove u xs) (kept u w xs r ne)
  ])
]

shorter : (u : ℕ) (xs : List ℕ) → Contains xs u → length (remove u xs) + 1 ≡ length xs
unfolding remove
shorter u [] h = absurd (not_in_empty u h)
shorter u (x ∷ xs) h = elim (cases_eq x u) [
  | inl same ↦ rw (eq-eqb x u same) (omega arith)
  | inr other ↦ elim (head_or_tail x u xs h) [
    | inl e ↦ absurd (other e)
    | inr r ↦ let ih = shorter u xs r in rw (ne_eqb x u other) (omega (arith, ih))
  ]
]

-- the sum of f over a list
total : (ℕ → ℕ) → List ℕ → ℕ
total f [] = 0
total f (x ∷ xs) = f x + total f xs

removed : (f : ℕ → ℕ) (u : ℕ) (xs : List ℕ) → Contains xs u → f u + total f (remove u xs) ≡ total f xs
unfolding remove total
removed f u [] h = absurd (not_in_empty u h)
removed f u (x ∷ xs) h = elim (cases_eq x u) [
  | inl same ↦ let e = ap f same in rw (eq-eqb x u same) (omega (arith, e))
  | inr other ↦ elim (head_or_tail x u xs h) [
    | inl e ↦ absurd (other e)
    | inr r ↦ let ih = removed f u xs r in rw (ne_eqb x u other) (omega (arith, ih))
  ]
]

upto : ℕ → List ℕ
upto zero = []
upto (suc n) = suc n ∷ upto n

length-upto : (n : ℕ) → length (upto n) ≡ n
unfolding upto
length-upto zero = refl
length-upto (suc n) = ap suc (length-upto n)

in_upto : (n w : ℕ) → 1 ≤ w → w ≤ n → Contains (upto n) w
unfolding upto
in_upto zero w l h = absurd (omega arith)
in_upto (suc n) w l h = elim (cases_eq w (suc n)) [
  | inl same ↦ subst (λ (y : ℕ). Contains (suc n ∷ upto n) y) (sym same) (here (suc n) (upto n))
  | inr other ↦ later (suc n) w (upto n) (in_upto n w l (omega arith))
]

total-upto : (f : ℕ → ℕ) (n : ℕ) → total f (upto n) ≡ sum_to f n
unfolding upto total
total-upto f zero = refl
total-upto f (suc n) = ap (λ (m : ℕ). f (suc n) + m) (total-upto f n)

-- the same number for each
pub sum_to-constant : (c n : ℕ) → sum_to (λ _. c) n ≡ n * c
sum_to-constant c zero = omega arith
sum_to-constant c (suc n) =
    let ih = sum_to-constant c n in
    let product = add-mul 1 n c in
    let turned : suc n ≡ 1 + n = omega arith in
    let same : suc n * c ≡ (1 + n) * c = ap (λ (m : ℕ). m * c) turned in
    omega (arith, ih, product, same)

module _ (g : GraphData) (cost : ℕ → ℕ) where
  -- no arc costs more than f of the vertex that it enters
  abbrev Bounds : (ℕ → ℕ) → Type 0
  Bounds f = (a : ℕ) → HasArc g a → cost (arc_of g a).weight ≤ f (arc_of g a).head

  -- no place of the walk from t is u
  abbrev Avoids : ℕ → ℕ → List ℕ → Type 0
  Avoids u t [] = t ≡ u → ⊥
  Avoids u t (a ∷ p) = (t ≡ u → ⊥) × Avoids u (arc_of g a).head p

  -- each place of the walk from t is in the list
  abbrev Within : List ℕ → ℕ → List ℕ → Type 0
  Within places t [] = Contains places t
  Within places t (a ∷ p) = Contains places t × Within places (arc_of g a).head p

  first_within : (places : List ℕ) (t : ℕ) (p : List ℕ) → Within places t p → Contains places t
  first_within places t [] h = h
  first_within places t (a ∷ p) h = h.0

  without : (places : List ℕ) (u t : ℕ) (p : List ℕ) → Within places t p → Avoids u t p →
      Within (remove u places) t p
  without places u t [] h ne = kept u t places h ne
  without places u t (a ∷ p) h ne = (kept u t places h.0 ne.0, without places u (arc_of g a).head p h.1 ne.1)

  -- what is left of a walk after its last visit of u: nothing, or an arc and a walk that avoids u
  record Left (places : List ℕ) (u v : ℕ) (weight : ℕ) : Type 0 where
    arc : ℕ
    rest : List ℕ
    has : HasArc g arc
    from : (arc_of g arc).tail ≡ u
    walk : IsWalk g (arc_of g arc).head rest v
    avoids : Avoids u (arc_of g arc).head rest
    within : Within places (arc_of g arc).head rest
    lighter : cost (arc_of g arc).weight + sum_of_costs g cost rest ≤ weight

  heavier : (places : List ℕ) (u v m n : ℕ) → m ≤ n → Left places u v m → Left places u v n
  heavier places u v m n h l = record {
    arc = l.arc;
    rest = l.rest;
    has = l.has;
    from = l.from;
    walk = l.walk;
    avoids = l.avoids;
    within = l.within;
    lighter = let k = l.lighter in omega (arith, k);
  }

  after_last : (places : List ℕ) (u t : ℕ) (p : List ℕ) (v : ℕ) → IsWalk g t p v → Within places t p →
      Avoids u t p ⊎ ((u ≡ v) ⊎ Left places u v (sum_of_costs g cost p))
  after_last places u t [] v w h =
      elim (cases_eq t u) [ inl same ↦ inr (inl (sym same ∙ w)) | inr other ↦ inl other ]
  after_last places u t (a ∷ p) v w h = elim (after_last places u (arc_of g a).head p v w.2 h.1) [
    | inl free ↦ elim (cases_eq t u) [
      | inl same ↦ inr (inr (record {
        arc = a;
        rest = p;
        has = w.0;
        from = w.1 ∙ same;
        walk = w.2;
        avoids = free;
        within = h.1;
        lighter = omega arith;
      }))
      | inr other ↦ inl (other, free)
    ]
    | inr found ↦ elim found [
      | inl same ↦ inr (inl same)
      | inr l ↦
          inr (inr (heavier places u v (sum_of_costs g cost p) (cost (arc_of g a).weight + sum_of_costs g cost p) (omega arith) l))
    ]
  ]

  -- a walk within some places has one that is no heavier and has fewer arcs than places
  short_within : (n : ℕ) (places : List ℕ) (u : ℕ) (p : List ℕ) (v : ℕ) → length places ≤ n → IsWalk g u p v →
      Within places u p →
      (q : List ℕ) × IsWalk g u q v × (length q < n) × (sum_of_costs g cost q ≤ sum_of_costs g cost p)
      × ((f : ℕ → ℕ) → Bounds f → f u + sum_of_costs g cost q ≤ total f places)
  short_within zero places u p v few w h =
      let c = first_within places u p h in
      let l : c.0 < length places = c.1 in absurd (omega arith)
  short_within (suc n) places u p v few w h =
      let inside = first_within places u p h in
      let fewer = shorter u places inside in
      elim (after_last places u u p v w h) [
        | inl free ↦ absurd (never u p free)
        | inr found ↦ elim found [
          | inl same ↦ ([], same, omega arith, omega arith, λ f bounds. let t = removed f u places inside in omega (arith, t))
          | inr l ↦
              let r = short_within n (remove u places) (arc_of g l.arc).head l.rest v (omega (arith, fewer)) l.walk
              (without places u (arc_of g l.arc).head l.rest l.within l.avoids) in (
                l.arc ∷ r.0,
                (l.has, l.from, r.1),
                (let k = r.2 in omega (arith, k)),
                (let k = r.3 in let m = l.lighter in omega (arith, k, m)),
                (λ f bounds.
                    let t = removed f u places inside in
                    let k = r.4 f bounds in
                    let c = bounds l.arc l.has in
                    omega (arith, t, k, c)),
              )
        ]
      ]
    where
      never : (t : ℕ) (q : List ℕ) → Avoids t t q → ⊥
      never t [] f = f refl
      never t (a ∷ q) f = f.0 refl

  module _ (roads : IsGraph g) where
    all_within : (s : ℕ) (p : List ℕ) (v : ℕ) → HasVertex g s → IsWalk g s p v → Within (upto g.vertices) s p
    all_within s [] v in_s w = in_upto g.vertices s in_s.0 in_s.1
    all_within s (a ∷ p) v in_s w =
        (in_upto g.vertices s in_s.0 in_s.1, all_within (arc_of g a).head p v ((roads.ends a w.0).1) w.2)

    module _ (sources : List ℕ) (in_s : (s : ℕ) → Contains sources s → HasVertex g s) where
      -- from the same sources, with fewer arcs than there are vertices, and no more than one into
      -- each vertex
      pub short_walk : (p : List ℕ) (v : ℕ) → IsWalkFrom g sources p v →
          (q : List ℕ) × IsWalkFrom g sources q v × (length q < g.vertices) × (sum_of_costs g cost q ≤ sum_of_costs g cost p)
          × ((f : ℕ → ℕ) → Bounds f → sum_of_costs g cost q ≤ sum_to f g.vertices)
      short_walk p v w =
          let count = length-upto g.vertices in
          let r = short_within g.vertices (upto g.vertices) w.0 p v (omega (arith, count)) w.2 (all_within w.0 p v (in_s w.0 w.1) w.2) in
          (r.0, (w.0, w.1, r.1), r.2, r.3, λ f bounds. let k = r.4 f bounds in let t = total-upto f g.vertices in omega (arith, k, t))

  module _ (name : AlgebraName) where
    held_at : (y : ℕ) (p : List ℕ) → y ≤ 2 ^ 63 →
        Extends (held_sums name cost) g y p (min (y + sum_of_costs g cost p) (2 ^ 63))
    held_at y [] h = omega arith
    held_at y (a ∷ p) h =
        let e : min (min (y + cost (arc_of g a).weight) (2 ^ 63) + sum_of_costs g cost p) (2 ^ 63)
        ≡ min (y + (cost (arc_of g a).weight + sum_of_costs g cost p)) (2 ^ 63) = omega arith in (
          min (y + cost (arc_of g a).weight) (2 ^ 63),
          refl,
          subst (λ (x : ℕ). Extends (held_sums name cost) g (min (y + cost (arc_of g a).weight) (2 ^ 63)) p x) e
              (held_at (min (y + cost (arc_of g a).weight) (2 ^ 63)) p (omega arith)),
        )

    held_is : (y : ℕ) (p : List ℕ) (x : ℕ) → y ≤ 2 ^ 63 → Extends (held_sums name cost) g y p x →
        x ≡ min (y + sum_of_costs g cost p) (2 ^ 63)
    held_is y [] x h ex = omega (arith, ex)
    held_is y (a ∷ p) x h ex =
        let z : min (y + cost (arc_of g a).weight) (2 ^ 63) ≡ ex.0 = let q = ex.1 in cc in
        let ih = held_is ex.0 p x (omega (arith, z)) ex.2 in
        omega (arith, z, ih)

    module _ (sources : List ℕ) where
      -- unreached by held sums: no walk at all, since no arc is refused
      pub no_walk_if_unreached : (v : ℕ) → IsUnreached (held_sums name cost) g sources v →
          (p : List ℕ) → IsWalkFrom g sources p v → ⊥
      no_walk_if_unreached v none p w = none (min (0 + sum_of_costs g cost p) (2 ^ 63)) (p, w, held_at 0 p (omega arith))

      pub unreached_if_no_walk : (v : ℕ) → ((p : List ℕ) → IsWalkFrom g sources p v → ⊥) →
          IsUnreached (held_sums name cost) g sources v
      unreached_if_no_walk v none y w = none w.0 w.1

      -- the hold never shows where some walk to each vertex that has any costs less than it
      module _ (light : (v : ℕ) (p : List ℕ) → IsWalkFrom g sources p v →
          (q : List ℕ) × IsWalkFrom g sources q v × (sum_of_costs g cost q < 2 ^ 63)) (v x : ℕ) where
        pub least_if_best : IsBest (held_sums name cost) g sources v x → IsLeastCost g cost sources v x × (x < 2 ^ 63)
        least_if_best best =
            let l = light v best.attained.0 best.attained.1 in
            let below = leb-true x (min (0 + sum_of_costs g cost l.0) (2 ^ 63))
            (best.least (min (0 + sum_of_costs g cost l.0) (2 ^ 63)) (l.0, l.1, held_at 0 l.0 (omega arith))) in
            let is = held_is 0 best.attained.0 x (omega arith) best.attained.2 in
            let small = l.2 in (
              record {
                attained = (best.attained.0, best.attained.1, omega (arith, below, is, small));
                least = λ p w.
                    let k = leb-true x (min (0 + sum_of_costs g cost p) (2 ^ 63))
                    (best.least (min (0 + sum_of_costs g cost p) (2 ^ 63)) (p, w, held_at 0 p (omega arith))) in
                    omega (arith, k);
              },
              omega (arith, below, small),
            )

        pub best_if_least : IsLeastCost g cost sources v x → IsBest (held_sums name cost) g sources v x
        best_if_least least =
            let l = light v least.attained.0 least.attained.1 in
            let low = least.least l.0 l.1 in
            let small = l.2 in
            let sum = least.attained.2 in
            let e : min (0 + sum_of_costs g cost least.attained.0) (2 ^ 63) ≡ x = omega (arith, low, small, sum) in
            record {
              attained = (
                least.attained.0,
                least.attained.1,
                subst (λ (y : ℕ). Extends (held_sums name cost) g 0 least.attained.0 y) e (held_at 0 least.attained.0 (omega arith)),
              );
              least = λ y w.
                  let k = least.least w.0 w.1 in
                  let h = held_is 0 w.0 y (omega arith) w.2 in
                  le-leb x y (omega (arith, k, h, low, small));
            }
