-- The vertices of a shard and their arcs, by place.
use Rattle.shard_store.proofs.Words.{◌≡◌, ℕ, zero, suc, ◌<◌, List, [], ◌∷◌, length, set, get_or, sym, ap, ◌∙◌, arith, length-set, get_or-set_same, get_or-set_other, ◌≢◌, ◌+◌, ◌-◌, ◌≤◌, eqb, ◌++◌, length-append, take, refl, subst, inl, inr, eq-eqb, ne_eqb, cases_eq, cases_lt, cond-true, cond-false, Network, IsStrictlyIncreasing, AllPairs-from_increasing, SetupData, place_in, arcs_from, outgoing, local_vertices, arcs_out}
use Rattle.std.proofs.lemmas.List.{length-replicate, set-set, set_comm, get_or_append_left, get_or-append-add}
use Rattle.shard_store.specs.Tables.{scatter, IsApart, placed}

module _ {X : Type 0} where
  pub spread_long : (keys : List ℕ) (values : List X) (d : X) (n : ℕ) → length (scatter keys values d n) ≡ n
  unfolding scatter
  spread_long [] values d n = length-replicate n d
  spread_long (k ∷ keys) [] d n = length-replicate n d
  spread_long (k ∷ keys) (x ∷ values) d n = length-set (scatter keys values d n) k x ∙ spread_long keys values d n

  pub spread_write : (keys : List ℕ) (values : List X) (d : X) (n j : ℕ) (x : X) → IsApart keys → j < length keys → j < length values →
      scatter keys (set values j x) d n ≡ set (scatter keys values d n) (get_or keys j 0) x
  unfolding scatter
  spread_write [] values d n j x a l m = absurd (omega arith)
  spread_write (k ∷ keys) [] d n j x a l m = absurd (omega arith)
  spread_write (k ∷ keys) (y ∷ values) d n zero x a l m = sym (set-set (scatter keys values d n) k y x)
  spread_write (k ∷ keys) (y ∷ values) d n (suc j) x a l m =
      ap (λ ys. set ys k y) (spread_write keys values d n j x (λ i h p q. a (suc i) (suc h) (omega arith) (omega arith)) (omega arith) (omega arith))
      ∙ set_comm (scatter keys values d n) (get_or keys j 0) k x y (λ e. a 0 (suc j) (omega arith) (omega arith) (sym e))

  -- at the number of a place is the value of the place
  pub spread_read : (keys : List ℕ) (values : List X) (d e : X) (n j : ℕ) → IsApart keys → j < length keys → j < length values → get_or keys j 0 < n →
      get_or (scatter keys values d n) (get_or keys j 0) e ≡ get_or values j e
  unfolding scatter
  spread_read [] values d e n j a l m b = absurd (omega arith)
  spread_read (k ∷ keys) [] d e n j a l m b = absurd (omega arith)
  spread_read (k ∷ keys) (y ∷ values) d e n zero a l m b = get_or-set_same (scatter keys values d n) k y e (let q = spread_long keys values d n in omega (arith, q, b))
  spread_read (k ∷ keys) (y ∷ values) d e n (suc j) a l m b =
      get_or-set_other (scatter keys values d n) k (get_or keys j 0) y e (λ z. a 0 (suc j) (omega arith) (omega arith) (sym z))
      ∙ spread_read keys values d e n j (λ i h p q. a (suc i) (suc h) (omega arith) (omega arith)) (omega arith) (omega arith) b

  pub table_read : (keys : List ℕ) (values table : List X) (d : X) (n j k : ℕ) (x : X) → table ≡ scatter keys values d n → IsApart keys
      → j < length keys → length values ≡ length keys → get_or keys j 0 ≡ k → k < n →
      x ≡ get_or values j d → x ≡ get_or table k d
  table_read keys values table d n j k x t a l m e b h =
      h ∙ sym (spread_read keys values d d n j a l (omega (arith, l, m)) (omega (arith, e, b)))
      ∙ ap (λ i. get_or (scatter keys values d n) i d) e ∙ ap (λ xs. get_or xs k d) (sym t)

  pub table_write : (keys : List ℕ) (values table : List X) (d : X) (n j k : ℕ) (x : X) → table ≡ scatter keys values d n → IsApart keys
      → j < length keys → length values ≡ length keys → get_or keys j 0 ≡ k →
      scatter keys (set values j x) d n ≡ set table k x
  table_write keys values table d n j k x t a l m e =
      spread_write keys values d n j x a l (omega (arith, l, m)) ∙ (λ i. set (sym t i) (e i) x)

  pub table_long : (keys : List ℕ) (values table : List X) (d : X) (n : ℕ) → table ≡ scatter keys values d n → length table ≡ n
  table_long keys values table d n t = ap length t ∙ spread_long keys values d n

pub increasing_apart : (xs : List ℕ) → IsStrictlyIncreasing xs → IsApart xs
increasing_apart xs h i j l m e = let r = AllPairs-from_increasing xs h i j 0 l m in omega (arith, r, e)

-- numbers from k on that pass a test
pub record Picked (pass : ℕ → Type 0) (k n : ℕ) (xs : List ℕ) : Type 0 where
  pub each : (i : ℕ) → i < length xs → pass (get_or xs i 0) × (k ≤ get_or xs i 0) × (get_or xs i 0 < k + n)
  pub all : (v : ℕ) → pass v → k ≤ v → v < k + n → (i : ℕ) × (i < length xs) × (get_or xs i 0 ≡ v)
  pub increasing : IsStrictlyIncreasing xs

picked_none : (pass : ℕ → Type 0) (k : ℕ) → Picked pass k 0 []
picked_none pass k = record { each = λ i l. absurd (omega arith); all = λ v p l m. absurd (omega arith); increasing = λ i l. absurd (omega arith) }

picked_here : (pass : ℕ → Type 0) (k n : ℕ) (xs : List ℕ) → pass k → Picked pass (suc k) n xs → Picked pass k (suc n) (k ∷ xs)
picked_here pass k n xs p P = record {
  each = λ i l. here i l;
  all = λ v q l m. elim (cases_eq v k) [
    | inl e ↦ (0, (let z : 0 < suc (length xs) = omega arith in z), sym e)
    | inr ne ↦ (let r = P.all v q (omega arith) (omega arith) in (suc r.0, (let z = r.1 in omega (arith, z)), r.2))
  ];
  increasing = λ i l. below i l;
}
  where
    here : (i : ℕ) → i < length (k ∷ xs) → pass (get_or (k ∷ xs) i 0) × (k ≤ get_or (k ∷ xs) i 0) × (get_or (k ∷ xs) i 0 < k + suc n)
    here zero l = (p, (let z : k ≤ k = omega arith in z), omega arith)
    here (suc i) l = let r = P.each i (omega arith) in (r.0, (let z = r.1 in omega (arith, z)), (let z = r.2 in omega (arith, z)))

    below : (i : ℕ) → i + 1 < length (k ∷ xs) → get_or (k ∷ xs) i 0 < get_or (k ∷ xs) (i + 1) 0
    below zero l = let r = (P.each 0 (omega arith)).1 in omega (arith, r)
    below (suc i) l =
        let r = P.increasing i (omega arith) in
        let here = ap (λ j. get_or xs j 0) (let e : i + 1 ≡ suc i = omega arith in e) in
        let there = ap (λ j. get_or (k ∷ xs) j 0) (let e : suc i + 1 ≡ suc (suc i) = omega arith in e) in omega (arith, r, here, there)

picked_not : (pass : ℕ → Type 0) (k n : ℕ) (xs : List ℕ) → (pass k → ⊥) → Picked pass (suc k) n xs → Picked pass k (suc n) xs
picked_not pass k n xs p P = record {
  each = λ i l. (let r = P.each i l in (r.0, (let z = r.1 in omega (arith, z)), (let z = r.2 in omega (arith, z))));
  all = λ v q l m. elim (cases_eq v k) [
    | inl e ↦ absurd (p (subst pass e q))
    | inr ne ↦ P.all v q (omega arith) (omega arith)
  ];
  increasing = P.increasing;
}

pub placed_picked : (place : ℕ → ℕ) (s k n : ℕ) → Picked (λ v. place v ≡ s) k n (placed place s k n)
unfolding placed
placed_picked place s k zero = picked_none (λ v. place v ≡ s) k
placed_picked place s k (suc n) = elim (cases_eq (place k) s) [
  | inl e ↦ subst (Picked (λ v. place v ≡ s) k (suc n)) (sym (cond-true (eqb (place k) s) (k ∷ placed place s (suc k) n) (placed place s (suc k) n) (eq-eqb (place k) s e)))
      (picked_here (λ v. place v ≡ s) k n (placed place s (suc k) n) e (placed_picked place s (suc k) n))
  | inr ne ↦ subst (Picked (λ v. place v ≡ s) k (suc n)) (sym (cond-false (eqb (place k) s) (k ∷ placed place s (suc k) n) (placed place s (suc k) n) (ne_eqb (place k) s ne)))
      (picked_not (λ v. place v ≡ s) k n (placed place s (suc k) n) ne (placed_picked place s (suc k) n))
]

pub arcs_picked : (N : Network) (v k n : ℕ) → Picked (λ b. N.tail b ≡ v) k n (arcs_from N v k n)
arcs_picked N v k zero = picked_none (λ b. N.tail b ≡ v) k
arcs_picked N v k (suc n) = elim (cases_eq (N.tail k) v) [
  | inl e ↦ subst (Picked (λ b. N.tail b ≡ v) k (suc n)) (sym (cond-true (eqb (N.tail k) v) (k ∷ arcs_from N v (suc k) n) (arcs_from N v (suc k) n) (eq-eqb (N.tail k) v e)))
      (picked_here (λ b. N.tail b ≡ v) k n (arcs_from N v (suc k) n) e (arcs_picked N v (suc k) n))
  | inr ne ↦ subst (Picked (λ b. N.tail b ≡ v) k (suc n)) (sym (cond-false (eqb (N.tail k) v) (k ∷ arcs_from N v (suc k) n) (arcs_from N v (suc k) n) (ne_eqb (N.tail k) v ne)))
      (picked_not (λ b. N.tail b ≡ v) k n (arcs_from N v (suc k) n) ne (arcs_picked N v (suc k) n))
]

pub outgoing_picked : (N : Network) (v : ℕ) → Picked (λ b. N.tail b ≡ v) 0 (suc N.arcs) (outgoing N v)
outgoing_picked N v = arcs_picked N v 0 (suc N.arcs)

-- the vertices of a shard
pub own_increasing : {S : Type 0} (t : SetupData S) (s : ℕ) → IsStrictlyIncreasing (local_vertices t s)
own_increasing t s zero l = let r = ((placed_picked (place_in t) s 1 t.diffusion.roads.vertices).each 0 (omega arith)).1 in omega (arith, r)
own_increasing t s (suc i) l =
    let r = (placed_picked (place_in t) s 1 t.diffusion.roads.vertices).increasing i (omega arith) in
    let here = ap (λ j. get_or (placed (place_in t) s 1 t.diffusion.roads.vertices) j 0) (let e : i + 1 ≡ suc i = omega arith in e) in
    let there = ap (λ j. get_or (local_vertices t s) j 0) (let e : suc i + 1 ≡ suc (suc i) = omega arith in e) in omega (arith, r, here, there)

pub own_apart : {S : Type 0} (t : SetupData S) (s : ℕ) → IsApart (local_vertices t s)
own_apart t s = increasing_apart (local_vertices t s) (own_increasing t s)

pub own_below : {S : Type 0} (t : SetupData S) (s j : ℕ) → j < length (local_vertices t s) → get_or (local_vertices t s) j 0 < suc t.diffusion.roads.vertices
own_below t s zero l = omega arith
own_below t s (suc j) l = let r = ((placed_picked (place_in t) s 1 t.diffusion.roads.vertices).each j (omega arith)).2 in omega (arith, r)

-- but for the environment, which is first
pub own_placed : {S : Type 0} (t : SetupData S) (s j : ℕ) → j < length (local_vertices t s) → get_or (local_vertices t s) j 0 ≢ 0 → place_in t (get_or (local_vertices t s) j 0) ≡ s
own_placed t s zero l n = absurd (n refl)
own_placed t s (suc j) l n = ((placed_picked (place_in t) s 1 t.diffusion.roads.vertices).each j (omega arith)).0

pub own_all : {S : Type 0} (t : SetupData S) (s v : ℕ) → v ≤ t.diffusion.roads.vertices → (v ≢ 0 → place_in t v ≡ s) →
    (j : ℕ) × (j < length (local_vertices t s)) × (get_or (local_vertices t s) j 0 ≡ v)
own_all t s zero l h = (0, (let z : 0 < suc (length (placed (place_in t) s 1 t.diffusion.roads.vertices)) = omega arith in z), refl)
own_all t s (suc v) l h = let r = (placed_picked (place_in t) s 1 t.diffusion.roads.vertices).all (suc v) (h (λ e. omega (arith, e))) (omega arith) (omega arith) in
    (suc r.0, (let z = r.1 in omega (arith, z)), r.2)

-- the arcs out of a list of vertices
module _ (N : Network) where
  pub arc_owner : (vs : List ℕ) (i : ℕ) → i < length (arcs_out N vs) → (j : ℕ) × (j < length vs) × (N.tail (get_or (arcs_out N vs) i 0) ≡ get_or vs j 0) × (get_or (arcs_out N vs) i 0 < suc N.arcs)
  unfolding arcs_out
  arc_owner [] i l = absurd (omega arith)
  arc_owner (v ∷ vs) i l = elim (cases_lt i (length (outgoing N v))) [
    | inl m ↦ (let g = get_or_append_left (outgoing N v) (arcs_out N vs) 0 i m in let P = (outgoing_picked N v).each i m in
        (0, (let z : 0 < suc (length vs) = omega arith in z), ap N.tail g ∙ P.0, (let z = P.2 in omega (arith, z, g))))
    | inr m ↦ (let a = length-append (outgoing N v) (arcs_out N vs) in
        let e : length (outgoing N v) + (i - length (outgoing N v)) ≡ i = omega arith in
        let g : get_or (outgoing N v ++ arcs_out N vs) i 0 ≡ get_or (arcs_out N vs) (i - length (outgoing N v)) 0 =
        ap (λ k. get_or (outgoing N v ++ arcs_out N vs) k 0) (sym e) ∙ get_or-append-add (outgoing N v) (arcs_out N vs) (i - length (outgoing N v)) 0 in
        let r = arc_owner vs (i - length (outgoing N v)) (omega (arith, a, l)) in
        (suc r.0, (let z = r.1 in omega (arith, z)), ap N.tail g ∙ r.2, (let z = r.3 in omega (arith, z, g))))
  ]

  pub arcs_apart : (vs : List ℕ) → IsApart vs → IsApart (arcs_out N vs)
  unfolding arcs_out
  arcs_apart [] A i j l m q = absurd (omega arith)
  arcs_apart (v ∷ vs) A i j l m q =
      let a = length-append (outgoing N v) (arcs_out N vs) in
      elim (cases_lt j (length (outgoing N v))) [
        | inl mj ↦ (let mi : i < length (outgoing N v) = omega arith in
            let gi = get_or_append_left (outgoing N v) (arcs_out N vs) 0 i mi in let gj = get_or_append_left (outgoing N v) (arcs_out N vs) 0 j mj in
            let r = AllPairs-from_increasing (outgoing N v) (outgoing_picked N v).increasing i j 0 l mj in omega (arith, gi, gj, r, q))
        | inr mj ↦ (let ej : length (outgoing N v) + (j - length (outgoing N v)) ≡ j = omega arith in
            let gj : get_or (outgoing N v ++ arcs_out N vs) j 0 ≡ get_or (arcs_out N vs) (j - length (outgoing N v)) 0 =
            ap (λ k. get_or (outgoing N v ++ arcs_out N vs) k 0) (sym ej) ∙ get_or-append-add (outgoing N v) (arcs_out N vs) (j - length (outgoing N v)) 0 in
            elim (cases_lt i (length (outgoing N v))) [
              | inl mi ↦ (let gi = get_or_append_left (outgoing N v) (arcs_out N vs) 0 i mi in
                  let o = arc_owner vs (j - length (outgoing N v)) (omega (arith, a, m)) in
                  let P = (outgoing_picked N v).each i mi in
                  A 0 (suc o.0) (omega arith) (let z = o.1 in omega (arith, z)) (sym P.0 ∙ ap N.tail (sym gi ∙ q ∙ gj) ∙ o.2))
              | inr mi ↦ (let ei : length (outgoing N v) + (i - length (outgoing N v)) ≡ i = omega arith in
                  let gi : get_or (outgoing N v ++ arcs_out N vs) i 0 ≡ get_or (arcs_out N vs) (i - length (outgoing N v)) 0 =
                  ap (λ k. get_or (outgoing N v ++ arcs_out N vs) k 0) (sym ei) ∙ get_or-append-add (outgoing N v) (arcs_out N vs) (i - length (outgoing N v)) 0 in
                  arcs_apart vs (λ x y lx ly. A (suc x) (suc y) (omega arith) (omega arith)) (i - length (outgoing N v)) (j - length (outgoing N v))
                  (omega arith) (omega (arith, a, m)) (sym gi ∙ q ∙ gj))
            ])
      ]

  -- the k-th arc out of the vertex at place j
  pub arc_at_place : (vs : List ℕ) (j k : ℕ) → j < length vs → k < length (outgoing N (get_or vs j 0)) →
      (length (arcs_out N (take j vs)) + k < length (arcs_out N vs)) × (get_or (arcs_out N vs) (length (arcs_out N (take j vs)) + k) 0 ≡ get_or (outgoing N (get_or vs j 0)) k 0)
  unfolding arcs_out
  arc_at_place [] j k l m = absurd (omega arith)
  arc_at_place (v ∷ vs) zero k l m =
      let a = length-append (outgoing N v) (arcs_out N vs) in
      let e : 0 + k ≡ k = omega arith in
      ((omega (arith, a, m)), ap (λ i. get_or (outgoing N v ++ arcs_out N vs) i 0) e ∙ get_or_append_left (outgoing N v) (arcs_out N vs) 0 k m)
  arc_at_place (v ∷ vs) (suc j) k l m =
      let r = arc_at_place vs j k (omega arith) m in
      let a = length-append (outgoing N v) (arcs_out N vs) in
      let b = length-append (outgoing N v) (arcs_out N (take j vs)) in
      let e : length (outgoing N v ++ arcs_out N (take j vs)) + k ≡ length (outgoing N v) + (length (arcs_out N (take j vs)) + k) = omega (arith, b) in (
        (let z = r.0 in omega (arith, a, b, z)),
        ap (λ i. get_or (outgoing N v ++ arcs_out N vs) i 0) e ∙ get_or-append-add (outgoing N v) (arcs_out N vs) (length (arcs_out N (take j vs)) + k) 0 ∙ r.1,
      )
