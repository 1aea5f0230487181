-- The walks that pass no vertex twice, as a list: exactly these, each once.
use Rattle.std.proofs.Common.{◌≡◌, ◌≢◌, ℕ, zero, suc, ◌+◌, ◌≤◌, ◌<◌, true, false, cond, eqb, List, [], ◌∷◌, ◌++◌, length, map, ◌⊎◌, refl, sym, ap, ◌∙◌, subst, inl, inr, arith, Contains, eqb-true, eq-eqb, ne_eqb}
use Rattle.std.proofs.lemmas.Bool.{cases_eq, cases_Bool, cond-true, cond-false, or_cases, or_parts, eqb-false}
use Rattle.path_algebra.proofs.Words.{Contains-append_left, Contains-append_right, Contains-append_cases, GraphData, IsGraph, HasVertex, arc_of, IsWalk}
use Rattle.road_graph.proofs.Lists.{not_in_empty, here, here_as, later, head_or_tail, only_element}
use Rattle.path_algebra.specs.SimpleWalks.{vertices_of, AreDistinct, IsSimpleWalk, HasSimpleWalks, is_among, onward, walks_beyond, simple_walks, ListsSimpleWalks}

-- lists

among-true : (us : List ℕ) (u : ℕ) → is_among us u ≡ true → Contains us u
among-true [] u h = absurd cc
among-true (w ∷ ws) u h = elim (or_cases (eqb w u) (is_among ws u) h) [
  | inl e ↦ here_as u w ws (sym (eqb-true w u e))
  | inr m ↦ later w u ws (among-true ws u m)
]

among-false : (us : List ℕ) (u : ℕ) → is_among us u ≡ false → Contains us u → ⊥
among-false [] u h l = not_in_empty u l
among-false (w ∷ ws) u h l =
    let p = or_parts (eqb w u) (is_among ws u) h in
    elim (head_or_tail w u ws l) [ inl e ↦ eqb-false w u p.0 e | inr m ↦ among-false ws u p.1 m ]

-- a list without the first k
less : ℕ → List ℕ → List ℕ
less k [] = []
less k (u ∷ us) = cond (eqb u k) us (u ∷ less k us)

less-here : (k u : ℕ) (us : List ℕ) → u ≡ k → less k (u ∷ us) ≡ us
unfolding less
less-here k u us e = cond-true (eqb u k) _ _ (eq-eqb u k e)

less-there : (k u : ℕ) (us : List ℕ) → u ≢ k → less k (u ∷ us) ≡ u ∷ less k us
unfolding less
less-there k u us e = cond-false (eqb u k) _ _ (ne_eqb u k e)

less-nil : (k : ℕ) → less k [] ≡ []
unfolding less
less-nil k = refl

less_listed : (k u : ℕ) (us : List ℕ) → Contains (less k us) u → Contains us u
less_listed k u [] l = subst (λ ys. Contains ys u) (less-nil k) l
less_listed k u (w ∷ us) l = elim (cases_eq w k) [
  | inl e ↦ later w u us (subst (λ ys. Contains ys u) (less-here k w us e) l)
  | inr n ↦ elim (head_or_tail w u (less k us) (subst (λ ys. Contains ys u) (less-there k w us n) l)) [
    | inl j ↦ here_as u w us (sym j)
    | inr j ↦ later w u us (less_listed k u us j)
  ]
]

less_distinct : (k : ℕ) (us : List ℕ) → AreDistinct us → AreDistinct (less k us) × (Contains (less k us) k → ⊥)
less_distinct k [] d = (subst AreDistinct (sym (less-nil k)) tt, λ l. not_in_empty k (subst (λ ys. Contains ys k) (less-nil k) l))
less_distinct k (u ∷ us) d = elim (cases_eq u k) [
  | inl e ↦ (subst AreDistinct (sym (less-here k u us e)) d.1, λ l. d.0 (subst (λ w. Contains us w) (sym e) (subst (λ ys. Contains ys k) (less-here k u us e) l)))
  | inr n ↦ (let r = less_distinct k us d.1 in (
    subst AreDistinct (sym (less-there k u us n)) ((λ l. d.0 (less_listed k u us l)), r.0),
    λ l. elim (head_or_tail u k (less k us) (subst (λ ys. Contains ys k) (less-there k u us n) l)) [ inl e ↦ n e | inr m ↦ r.1 m ],
  ))
]

less-length : (k : ℕ) (us : List ℕ) → length us ≤ 1 + length (less k us)
less-length k [] = omega arith
less-length k (u ∷ us) = elim (cases_eq u k) [
  | inl e ↦ (let h = ap length (less-here k u us e) in omega (arith, h))
  | inr n ↦ (let h = ap length (less-there k u us n) in let r = less-length k us in omega (arith, h, r))
]

-- of the numbers 1 to n a list has at most n, each once
few_numbers : (n : ℕ) (us : List ℕ) → AreDistinct us → ((w : ℕ) → Contains us w → (1 ≤ w) × (w ≤ n)) → length us ≤ n
few_numbers zero [] d h = omega arith
few_numbers zero (u ∷ us) d h = absurd (let r = h u (here u us) in let a = r.0 in let b = r.1 in omega (arith, a, b))
few_numbers (suc n) us d h =
    let l = less-length (suc n) us in
    let r = less_distinct (suc n) us d in
    let f = few_numbers n (less (suc n) us) r.0 (λ w m.
    let b = h w (less_listed (suc n) w us m) in
    let ne : w ≢ suc n = (λ e. r.1 (subst (λ u. Contains (less (suc n) us) u) e m)) in
    (b.0, (let c = b.1 in omega (arith, c, ne)))) in
    omega (arith, l, f)

append_distinct : {X : Type 0} (xs ys : List X) → AreDistinct xs → AreDistinct ys → ((x : X) → Contains xs x → Contains ys x → ⊥) → AreDistinct (xs ++ ys)
append_distinct [] ys d e h = e
append_distinct (x ∷ xs) ys d e h = (
  (λ l. elim (Contains-append_cases xs ys x l) [ inl k ↦ d.0 k | inr k ↦ h x (here x xs) k ]),
  append_distinct xs ys d.1 e (λ y k m. h y (later x y xs k) m),
)

-- walks that all begin with the arc a
map_has : (a : ℕ) (ps : List (List ℕ)) (p : List ℕ) → Contains ps p → Contains (map (λ q. a ∷ q) ps) (a ∷ p)
map_has a [] p l = absurd (not_in_empty p l)
map_has a (q ∷ ps) p l = elim (head_or_tail q p ps l) [
  | inl e ↦ here_as (a ∷ p) (a ∷ q) (map (λ q. a ∷ q) ps) (ap (λ r. a ∷ r) (sym e))
  | inr m ↦ later (a ∷ q) (a ∷ p) (map (λ q. a ∷ q) ps) (map_has a ps p m)
]

map_only : (a : ℕ) (ps : List (List ℕ)) (q : List ℕ) → Contains (map (λ q. a ∷ q) ps) q → (p : List ℕ) × (q ≡ a ∷ p) × Contains ps p
map_only a [] q l = absurd (not_in_empty q l)
map_only a (p ∷ ps) q l = elim (head_or_tail (a ∷ p) q (map (λ q. a ∷ q) ps) l) [
  | inl e ↦ (p, sym e, here p ps)
  | inr m ↦ (let r = map_only a ps q m in (r.0, r.1, later p r.0 ps r.2))
]

map_distinct : (a : ℕ) (ps : List (List ℕ)) → AreDistinct ps → AreDistinct (map (λ q. a ∷ q) ps)
map_distinct a [] d = tt
map_distinct a (p ∷ ps) d = (
  (λ l. let r = map_only a ps (a ∷ p) l in let e : p ≡ r.0 = (let k = r.1 in cc) in d.0 (subst (λ q. Contains ps q) (sym e) r.2)),
  map_distinct a ps d.1,
)

-- what a walk passes

end_passed : (g : GraphData) (u : ℕ) (p : List ℕ) (v : ℕ) → IsWalk g u p v → Contains (vertices_of g u p) v
end_passed g u [] v w = here_as v u [] (sym w)
end_passed g u (a ∷ p) v w = later u v (vertices_of g (arc_of g a).head p) (end_passed g (arc_of g a).head p v w.2)

passed_inside : (g : GraphData) → IsGraph g → (u : ℕ) (p : List ℕ) (v : ℕ) → HasVertex g u → IsWalk g u p v → (w : ℕ) → Contains (vertices_of g u p) w → HasVertex g w
passed_inside g R u [] v h k w l = subst (HasVertex g) (only_element u w l) h
passed_inside g R u (a ∷ p) v h k w l = elim (head_or_tail u w (vertices_of g (arc_of g a).head p) l) [
  | inl e ↦ subst (HasVertex g) e h
  | inr m ↦ passed_inside g R (arc_of g a).head p v (R.ends a k.0).1 k.2 w m
]

vertices_of-length : (g : GraphData) (u : ℕ) (p : List ℕ) → length (vertices_of g u p) ≡ 1 + length p
vertices_of-length g u [] = omega arith
vertices_of-length g u (a ∷ p) = let h = vertices_of-length g (arc_of g a).head p in omega (arith, h)

simple_walk_short : (g : GraphData) → IsGraph g → (s : ℕ) (p : List ℕ) (v : ℕ) → HasVertex g s → IsSimpleWalk g s p v → length p < g.vertices
simple_walk_short g R s p v h w =
    let f = few_numbers g.vertices (vertices_of g s p) w.1 (λ u l. passed_inside g R s p v h w.0 u l) in
    let e = vertices_of-length g s p in
    omega (arith, f, e)

module _ (g : GraphData) where
  -- each arc with each walk that goes on

  onward-suc : (u : ℕ) (rest : ℕ → List (List ℕ)) (m : ℕ) →
      ((arc_of g (suc m)).tail ≡ u) × (onward g u rest (suc m) ≡ map (λ p. suc m ∷ p) (rest (arc_of g (suc m)).head) ++ onward g u rest m)
      ⊎ ((arc_of g (suc m)).tail ≢ u) × (onward g u rest (suc m) ≡ onward g u rest m)
  onward-suc u rest m = elim (cases_eq (arc_of g (suc m)).tail u) [
    | inl e ↦ inl (e, ap (λ ys. ys ++ onward g u rest m) (cond-true (eqb (arc_of g (suc m)).tail u) (map (λ p. suc m ∷ p) (rest (arc_of g (suc m)).head)) [] (eq-eqb (arc_of g (suc m)).tail u e)))
    | inr n ↦ inr (n, ap (λ ys. ys ++ onward g u rest m) (cond-false (eqb (arc_of g (suc m)).tail u) (map (λ p. suc m ∷ p) (rest (arc_of g (suc m)).head)) [] (ne_eqb (arc_of g (suc m)).tail u n)))
  ]

  onward_has : (u : ℕ) (rest : ℕ → List (List ℕ)) (m a : ℕ) (p : List ℕ) → 1 ≤ a → a ≤ m → (arc_of g a).tail ≡ u → Contains (rest (arc_of g a).head) p → Contains (onward g u rest m) (a ∷ p)
  onward_has u rest zero a p l h t c = absurd (omega arith)
  onward_has u rest (suc m) a p l h t c = elim (cases_eq a (suc m)) [
    | inl e ↦ elim (onward-suc u rest m) [
      | inl k ↦ subst (λ ys. Contains ys (a ∷ p)) (sym k.1) (Contains-append_left (map (λ p. suc m ∷ p) (rest (arc_of g (suc m)).head)) (onward g u rest m) (a ∷ p)
          (subst (λ b. Contains (map (λ p. suc m ∷ p) (rest (arc_of g (suc m)).head)) (b ∷ p)) (sym e)
          (map_has (suc m) (rest (arc_of g (suc m)).head) p (subst (λ b. Contains (rest (arc_of g b).head) p) e c))))
      | inr k ↦ absurd (k.0 (ap (λ b. (arc_of g b).tail) (sym e) ∙ t))
    ]
    | inr n ↦ (let r = onward_has u rest m a p l (omega (arith, h, n)) t c in elim (onward-suc u rest m) [
      | inl k ↦ subst (λ ys. Contains ys (a ∷ p)) (sym k.1) (Contains-append_right (map (λ p. suc m ∷ p) (rest (arc_of g (suc m)).head)) (onward g u rest m) (a ∷ p) r)
      | inr k ↦ subst (λ ys. Contains ys (a ∷ p)) (sym k.1) r
    ])
  ]

  -- a walk that begins with an arc out of u among the first m, and goes on as one of the rest
  abbrev Begun : ℕ → (ℕ → List (List ℕ)) → ℕ → List ℕ → Type 0
  Begun u rest m q = (a : ℕ) × (p : List ℕ) × (q ≡ a ∷ p) × (1 ≤ a) × (a ≤ m) × ((arc_of g a).tail ≡ u) × Contains (rest (arc_of g a).head) p

  begun_more : (u : ℕ) (rest : ℕ → List (List ℕ)) (m : ℕ) (q : List ℕ) → Begun u rest m q → Begun u rest (suc m) q
  begun_more u rest m q b = (b.0, b.1, b.2, b.3, (let h = b.4 in omega (arith, h)), b.5, b.6)

  onward_only : (u : ℕ) (rest : ℕ → List (List ℕ)) (m : ℕ) (q : List ℕ) → Contains (onward g u rest m) q → Begun u rest m q
  onward_only u rest zero q l = absurd (not_in_empty q l)
  onward_only u rest (suc m) q l = elim (onward-suc u rest m) [
    | inl k ↦ elim (Contains-append_cases (map (λ p. suc m ∷ p) (rest (arc_of g (suc m)).head)) (onward g u rest m) q (subst (λ ys. Contains ys q) k.1 l)) [
      | inl c ↦ (let r = map_only (suc m) (rest (arc_of g (suc m)).head) q c in (suc m, r.0, r.1, omega arith, omega arith, k.0, r.2))
      | inr c ↦ begun_more u rest m q (onward_only u rest m q c)
    ]
    | inr k ↦ begun_more u rest m q (onward_only u rest m q (subst (λ ys. Contains ys q) k.1 l))
  ]

  onward_distinct : (u : ℕ) (rest : ℕ → List (List ℕ)) → ((w : ℕ) → AreDistinct (rest w)) → (m : ℕ) → AreDistinct (onward g u rest m)
  onward_distinct u rest d zero = tt
  onward_distinct u rest d (suc m) = elim (onward-suc u rest m) [
    | inl k ↦ subst AreDistinct (sym k.1) (append_distinct (map (λ p. suc m ∷ p) (rest (arc_of g (suc m)).head)) (onward g u rest m)
        (map_distinct (suc m) (rest (arc_of g (suc m)).head) (d (arc_of g (suc m)).head)) (onward_distinct u rest d m)
        (λ q c b. let r = map_only (suc m) (rest (arc_of g (suc m)).head) q c in
        let o = onward_only u rest m q b in
        let e : suc m ≡ o.0 = (let x = r.1 in let y = o.2 in cc) in
        let h = o.4 in omega (arith, e, h)))
    | inr k ↦ subst AreDistinct (sym k.1) (onward_distinct u rest d m)
  ]

  -- the four answers of the list

  further : ℕ → List ℕ → ℕ → ℕ → List (List ℕ)
  further n before u v = onward g u (λ w. walks_beyond g n (u ∷ before) w v) (length g.arcs)

  beyond-zero : (before : List ℕ) (u v : ℕ) → walks_beyond g zero before u v ≡ []
  unfolding walks_beyond
  beyond-zero before u v = refl

  beyond-cases : (n : ℕ) (before : List ℕ) (u v : ℕ) →
      ((is_among before u ≡ true) × (walks_beyond g (suc n) before u v ≡ []))
      ⊎ (((is_among before u ≡ false) × (u ≡ v) × (walks_beyond g (suc n) before u v ≡ [] ∷ []))
      ⊎ ((is_among before u ≡ false) × (u ≢ v) × (walks_beyond g (suc n) before u v ≡ further n before u v)))
  unfolding walks_beyond further
  beyond-cases n before u v = elim (cases_Bool (is_among before u)) [
    | inl t ↦ inl (t, cond-true (is_among before u) [] (cond (eqb u v) ([] ∷ []) (further n before u v)) t)
    | inr f ↦ elim (cases_eq u v) [
      | inl e ↦ inr (inl (f, e, cond-false (is_among before u) [] (cond (eqb u v) ([] ∷ []) (further n before u v)) f ∙ cond-true (eqb u v) ([] ∷ []) (further n before u v) (eq-eqb u v e)))
      | inr k ↦ inr (inr (f, k, cond-false (is_among before u) [] (cond (eqb u v) ([] ∷ []) (further n before u v)) f ∙ cond-false (eqb u v) ([] ∷ []) (further n before u v) (ne_eqb u v k)))
    ]
  ]

  -- a walk from u to v that passes no vertex twice, fewer than n arcs, and no vertex of those
  -- before
  abbrev IsBeyond : ℕ → List ℕ → ℕ → ℕ → List ℕ → Type 0
  IsBeyond n before u v p = IsSimpleWalk g u p v × ((w : ℕ) → Contains (vertices_of g u p) w → Contains before w → ⊥) × (length p < n)

  beyond_has : (n : ℕ) (before : List ℕ) (u v : ℕ) (p : List ℕ) → IsBeyond n before u v p → Contains (walks_beyond g n before u v) p
  unfolding further
  beyond_has zero before u v p b = absurd (let h = b.2 in omega (arith, h))
  beyond_has (suc n) before u v [] b = elim (beyond-cases n before u v) [
    | inl k ↦ absurd (b.1 u (here u []) (among-true before u k.0))
    | inr c ↦ elim c [
      | inl k ↦ subst (λ ys. Contains ys []) (sym k.2) (here [] [])
      | inr k ↦ absurd (k.1 b.0.0)
    ]
  ]
  beyond_has (suc n) before u v (a ∷ p) b =
      let w = b.0.0 in
      let d = b.0.1 in
      let r = beyond_has n (u ∷ before) (arc_of g a).head v p (
        (w.2, d.1),
        (λ x l m. elim (head_or_tail u x before m) [
          | inl e ↦ d.0 (subst (λ y. Contains (vertices_of g (arc_of g a).head p) y) (sym e) l)
          | inr k ↦ b.1 x (later u x (vertices_of g (arc_of g a).head p) l) k
        ]),
        (let h = b.2 in omega (arith, h)),
      ) in
      elim (beyond-cases n before u v) [
        | inl k ↦ absurd (b.1 u (here u (vertices_of g (arc_of g a).head p)) (among-true before u k.0))
        | inr c ↦ elim c [
          | inl k ↦ absurd (d.0 (subst (λ y. Contains (vertices_of g (arc_of g a).head p) y) (sym k.1) (end_passed g (arc_of g a).head p v w.2)))
          | inr k ↦ subst (λ ys. Contains ys (a ∷ p)) (sym k.2) (onward_has u (λ x. walks_beyond g n (u ∷ before) x v) (length g.arcs) a p w.0.0 w.0.1 w.1 r)
        ]
      ]

  beyond_only : (n : ℕ) (before : List ℕ) (u v : ℕ) (p : List ℕ) → Contains (walks_beyond g n before u v) p → IsBeyond n before u v p
  unfolding further
  beyond_only zero before u v p l = absurd (not_in_empty p (subst (λ ys. Contains ys p) (beyond-zero before u v) l))
  beyond_only (suc n) before u v p l = elim (beyond-cases n before u v) [
    | inl k ↦ absurd (not_in_empty p (subst (λ ys. Contains ys p) k.1 l))
    | inr c ↦ elim c [
      | inl k ↦ subst (IsBeyond (suc n) before u v) (only_element [] p (subst (λ ys. Contains ys p) k.2 l)) (
        (k.1, (not_in_empty u, tt)),
        (λ w m q. among-false before u k.0 (subst (λ y. Contains before y) (sym (only_element u w m)) q)),
        omega arith,
      )
      | inr k ↦ (let o = onward_only u (λ x. walks_beyond g n (u ∷ before) x v) (length g.arcs) p (subst (λ ys. Contains ys p) k.2 l) in
          let r = beyond_only n (u ∷ before) (arc_of g o.0).head v o.1 o.6 in
          subst (IsBeyond (suc n) before u v) (sym o.2) (
            (((o.3, o.4), o.5, r.0.0), ((λ m. r.1 u m (here u before)), r.0.1)),
            (λ w m q. elim (head_or_tail u w (vertices_of g (arc_of g o.0).head o.1) m) [
              | inl e ↦ among-false before u k.0 (subst (λ y. Contains before y) (sym e) q)
              | inr j ↦ r.1 w j (later u w before q)
            ]),
            (let h = r.2 in omega (arith, h)),
          ))
    ]
  ]

  beyond_distinct : (n : ℕ) (before : List ℕ) (u v : ℕ) → AreDistinct (walks_beyond g n before u v)
  unfolding further
  beyond_distinct zero before u v = subst AreDistinct (sym (beyond-zero before u v)) tt
  beyond_distinct (suc n) before u v = elim (beyond-cases n before u v) [
    | inl k ↦ subst AreDistinct (sym k.1) tt
    | inr c ↦ elim c [
      | inl k ↦ subst AreDistinct (sym k.2) (not_in_empty [], tt)
      | inr k ↦ subst AreDistinct (sym k.2) (onward_distinct u (λ x. walks_beyond g n (u ∷ before) x v) (λ x. beyond_distinct n (u ∷ before) x v) (length g.arcs))
    ]
  ]

  pub lists_simple_walks : IsGraph g → (s v : ℕ) → HasVertex g s → ListsSimpleWalks g s v (simple_walks g s v)
  lists_simple_walks R s v h = record {
    exact = λ p. (
      (λ l. (beyond_only g.vertices [] s v p l).0),
      (λ w. beyond_has g.vertices [] s v p (w, (λ x l m. not_in_empty x m), simple_walk_short g R s p v h w)),
    );
    once = beyond_distinct g.vertices [] s v;
  }

  pub has_simple_walks : IsGraph g → (s v : ℕ) → HasVertex g s → HasSimpleWalks g s v (simple_walks g s v)
  has_simple_walks R s v h p w = ((lists_simple_walks R s v h).exact p).1 w
