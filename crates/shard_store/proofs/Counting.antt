-- Arcs counted vertex by vertex, and by the shards of their ends.
use Rattle.shard_store.proofs.Words.{◌≡◌, ℕ, zero, suc, ◌+◌, ◌<◌, ◌≤◌, Bool, true, false, cond, eqb, List, [], ◌∷◌, ◌++◌, length, length-append, get_or, take, refl, sym, ap, ◌∙◌, inl, inr, arith, eq-eqb, ne_eqb, cases_eq, cases_lt, cases_Bool, cond-true, cond-false, Network, sum_below, placed, total, arcs_from, outgoing, arcs_out, sum_zero, sum_ones, sum_add, sum_most}

module _ {X : Type 0} (f : X → ℕ) where
  -- one more of a list
  pub total_take : (xs : List X) (i : ℕ) (d : X) → i < length xs → total f (take (i + 1) xs) ≡ total f (take i xs) + f (get_or xs i d)
  total_take xs i d l = let e : i + 1 ≡ suc i = omega arith in ap (λ n. total f (take n xs)) e ∙ go xs i l
    where
      go : (xs : List X) (i : ℕ) → i < length xs → total f (take (suc i) xs) ≡ total f (take i xs) + f (get_or xs i d)
      go [] i l = absurd (omega arith)
      go (x ∷ xs) zero l = omega arith
      go (x ∷ xs) (suc i) l = let p = go xs i (omega arith) in omega (arith, p)

  pub total_most : (xs : List X) (i : ℕ) → total f (take i xs) ≤ total f xs
  total_most [] zero = omega arith
  total_most [] (suc i) = omega arith
  total_most (x ∷ xs) zero = omega arith
  total_most (x ∷ xs) (suc i) = let p = total_most xs i in omega (arith, p)

  pub total_whole : (xs : List X) (i : ℕ) → length xs ≤ i → total f (take i xs) ≡ total f xs
  total_whole [] zero l = refl
  total_whole [] (suc i) l = refl
  total_whole (x ∷ xs) zero l = absurd (omega arith)
  total_whole (x ∷ xs) (suc i) l = let p = total_whole xs i (omega arith) in omega (arith, p)

pub total_same : {X : Type 0} (f g : X → ℕ) (xs : List X) → ((x : X) → f x ≡ g x) → total f xs ≡ total g xs
total_same f g [] e = refl
total_same f g (x ∷ xs) e = let p = total_same f g xs e in let q = e x in omega (arith, p, q)

pub total_ones : {X : Type 0} (xs : List X) → total (λ x. 1) xs ≡ length xs
total_ones [] = refl
total_ones (x ∷ xs) = let p = total_ones xs in omega (arith, p)

-- a list of numbers, summed by index
pub total_index : (xs : List ℕ) (f : ℕ → ℕ) → ((t : ℕ) → t < length xs → get_or xs t 0 ≡ f t) → total (λ x. x) xs ≡ sum_below f (length xs)
total_index xs f h = sym (total_whole (λ x. x) xs (length xs) (omega arith)) ∙ go (length xs) (omega arith)
  where
    go : (n : ℕ) → n ≤ length xs → total (λ x. x) (take n xs) ≡ sum_below f n
    go zero l = refl
    go (suc n) l = let p = go n (omega arith) in let q = total_take (λ x. x) xs n 0 (omega arith) in let r = h n (omega arith) in
        let e : total (λ x. x) (take (suc n) xs) ≡ total (λ x. x) (take (n + 1) xs) = ap (λ m. total (λ x. x) (take m xs)) (let z : suc n ≡ n + 1 = omega arith in z) in omega (arith, p, q, r, e)

-- a sum of sums, the other way round
pub sum_swap : (f : ℕ → ℕ → ℕ) (m n : ℕ) → sum_below (λ t. sum_below (f t) n) m ≡ sum_below (λ b. sum_below (λ t. f t b) m) n
sum_swap f zero n = sym (sum_zero (λ b. 0) n (λ k. refl))
sum_swap f (suc m) n = let p = sum_swap f m n in let q = sum_add (f m) (λ b. sum_below (λ t. f t b) m) n in omega (arith, p, q)

pub total_swap : (f : ℕ → ℕ → ℕ) (vs : List ℕ) (n : ℕ) → total (λ v. sum_below (f v) n) vs ≡ sum_below (λ b. total (λ v. f v b) vs) n
total_swap f [] n = sym (sum_zero (λ b. 0) n (λ k. refl))
total_swap f (v ∷ vs) n = let p = total_swap f vs n in let q = sum_add (f v) (λ b. total (λ v. f v b) vs) n in omega (arith, p, q)

-- a number that may head a list
total_cond : (f : ℕ → ℕ) (b : Bool) (k : ℕ) (ks : List ℕ) → total f (cond b (k ∷ ks) ks) ≡ cond b (f k) 0 + total f ks
total_cond f true k ks = omega arith
total_cond f false k ks = omega arith

-- the arcs out of one vertex, among all
pub total_arcs : (N : Network) (f : ℕ → ℕ) (v k n : ℕ) → sum_below (λ b. cond (eqb (N.tail b) v) (f b) 0) k + total f (arcs_from N v k n) ≡ sum_below (λ b. cond (eqb (N.tail b) v) (f b) 0) (k + n)
total_arcs N f v k zero = let e : k + 0 ≡ k = omega arith in let q : sum_below (λ b. cond (eqb (N.tail b) v) (f b) 0) (k + 0)
    ≡ sum_below (λ b. cond (eqb (N.tail b) v) (f b) 0) k = ap (sum_below (λ b. cond (eqb (N.tail b) v) (f b) 0)) e in omega (arith, q)
total_arcs N f v k (suc n) =
    let p = total_arcs N f v (suc k) n in
    let q : sum_below (λ b. cond (eqb (N.tail b) v) (f b) 0) (k + suc n) ≡ sum_below (λ b. cond (eqb (N.tail b) v) (f b) 0) (suc k + n) = ap
    (sum_below (λ b. cond (eqb (N.tail b) v) (f b) 0)) (let z : k + suc n ≡ suc k + n = omega arith in z) in
    let a : total f (arcs_from N v k (suc n)) ≡ cond (eqb (N.tail k) v) (f k) 0 + total f (arcs_from N v (suc k) n) =
    total_cond f (eqb (N.tail k) v) k (arcs_from N v (suc k) n) in omega (arith, p, q, a)

pub total_out : (N : Network) (f : ℕ → ℕ) (v : ℕ) → total f (outgoing N v) ≡ sum_below (λ b. cond (eqb (N.tail b) v) (f b) 0) (suc N.arcs)
total_out N f v = let p = total_arcs N f v 0 (suc N.arcs) in
    let e : sum_below (λ b. cond (eqb (N.tail b) v) (f b) 0) (0 + suc N.arcs) ≡ sum_below (λ b. cond (eqb (N.tail b) v) (f b) 0) (suc N.arcs) = ap
    (sum_below (λ b. cond (eqb (N.tail b) v) (f b) 0)) (let z : 0 + suc N.arcs ≡ suc N.arcs = omega arith in z) in omega (arith, p, e)

cond_most : (b : Bool) (x : ℕ) → cond b x 0 ≤ x
cond_most true x = omega arith
cond_most false x = omega arith

-- no list of arcs is longer than there are arcs
pub out_most : (N : Network) (v : ℕ) → length (outgoing N v) ≤ suc N.arcs
out_most N v = let a = total_ones (outgoing N v) in let b = total_out N (λ x. 1) v in
    let c = sum_most (λ b. cond (eqb (N.tail b) v) 1 0) (λ b. 1) (suc N.arcs) (λ b. cond_most (eqb (N.tail b) v) 1) in let d = sum_ones (suc N.arcs) in omega (arith, a, b, c, d)

-- of the vertices of a shard, a number is one or none
pub placed_none : (place : ℕ → ℕ) (s w x k n : ℕ) → w < k → total (λ v. cond (eqb w v) x 0) (placed place s k n) ≡ 0
unfolding placed
placed_none place s w x k zero l = refl
placed_none place s w x k (suc n) l =
    let p = placed_none place s w x (suc k) n (omega arith) in
    let z = cond-false (eqb w k) x 0 (ne_eqb w k (λ e. omega (arith, e, l))) in
    let a = total_cond (λ v. cond (eqb w v) x 0) (eqb (place k) s) k (placed place s (suc k) n) in
    let m = cond_most (eqb (place k) s) (cond (eqb w k) x 0) in omega (arith, p, z, a, m)

placed_past : (place : ℕ → ℕ) (s w x k n : ℕ) → k + n ≤ w → total (λ v. cond (eqb w v) x 0) (placed place s k n) ≡ 0
unfolding placed
placed_past place s w x k zero l = refl
placed_past place s w x k (suc n) l =
    let p = placed_past place s w x (suc k) n (omega arith) in
    let z = cond-false (eqb w k) x 0 (ne_eqb w k (λ e. omega (arith, e, l))) in
    let a = total_cond (λ v. cond (eqb w v) x 0) (eqb (place k) s) k (placed place s (suc k) n) in
    let m = cond_most (eqb (place k) s) (cond (eqb w k) x 0) in omega (arith, p, z, a, m)

pub placed_once : (place : ℕ → ℕ) (s w x k n : ℕ) → k ≤ w → w < k + n → total (λ v. cond (eqb w v) x 0) (placed place s k n) ≡ cond (eqb (place w) s) x 0
unfolding placed
placed_once place s w x k zero l m = absurd (omega arith)
placed_once place s w x k (suc n) l m =
    let a = total_cond (λ v. cond (eqb w v) x 0) (eqb (place k) s) k (placed place s (suc k) n) in
    elim (cases_eq w k) [
      | inl e ↦
          let z = cond-true (eqb w k) x 0 (eq-eqb w k e) in
          let r = placed_none place s w x (suc k) n (omega (arith, e)) in
          let g : cond (eqb (place k) s) (cond (eqb w k) x 0) 0 ≡ cond (eqb (place w) s) x 0 =
          ap (λ y. cond (eqb (place k) s) y 0) z ∙ ap (λ y. cond (eqb (place y) s) x 0) (sym e) in
          omega (arith, r, a, g)
      | inr ne ↦
          let p = placed_once place s w x (suc k) n (omega (arith, ne)) (omega arith) in
          let z = cond-false (eqb w k) x 0 (ne_eqb w k ne) in
          let o = cond_most (eqb (place k) s) (cond (eqb w k) x 0) in
          omega (arith, p, z, a, o)
    ]

pub placed_most : (place : ℕ → ℕ) (s w x k n : ℕ) → total (λ v. cond (eqb w v) x 0) (placed place s k n) ≤ x
placed_most place s w x k n = elim (cases_lt w k) [
  | inl l ↦ (let z = placed_none place s w x k n l in omega (arith, z))
  | inr l ↦ elim (cases_lt w (k + n)) [
    | inl m ↦ (let z = placed_once place s w x k n l m in let c = cond_most (eqb (place w) s) x in omega (arith, z, c))
    | inr m ↦ (let z = placed_past place s w x k n m in omega (arith, z))
  ]
]

-- the list of a shard's vertices, as it grows
pub placed_more : (place : ℕ → ℕ) (s k n v : ℕ) → v ≡ k + n → placed place s k (n + 1) ≡ cond (eqb (place v) s) (placed place s k n ++ v ∷ []) (placed place s k n)
unfolding placed
placed_more place s k n v e = ap (placed place s k) (let z : n + 1 ≡ suc n = omega arith in z) ∙ go k n v e
  where
    go : (k n v : ℕ) → v ≡ k + n → placed place s k (suc n) ≡ cond (eqb (place v) s) (placed place s k n ++ v ∷ []) (placed place s k n)
    go k zero v e = let q : k ≡ v = omega (arith, e) in ap (λ y. cond (eqb (place y) s) (y ∷ []) []) q
    go k (suc n) v e = let r = go (suc k) n v (omega (arith, e)) in elim (cases_Bool (eqb (place k) s)) [
      | inl t ↦ cond-true (eqb (place k) s) (k ∷ placed place s (suc k) (suc n)) (placed place s (suc k) (suc n)) t ∙ ap (λ ys. k ∷ ys) r ∙ pushed (eqb (place v) s) (placed place s (suc k) n) k v
          ∙ ap (λ ys. cond (eqb (place v) s) (ys ++ v ∷ []) ys) (sym (cond-true (eqb (place k) s) (k ∷ placed place s (suc k) n) (placed place s (suc k) n) t))
      | inr t ↦ cond-false (eqb (place k) s) (k ∷ placed place s (suc k) (suc n)) (placed place s (suc k) (suc n)) t ∙ r
          ∙ ap (λ ys. cond (eqb (place v) s) (ys ++ v ∷ []) ys) (sym (cond-false (eqb (place k) s) (k ∷ placed place s (suc k) n) (placed place s (suc k) n) t))
    ]
      where
        pushed : (z : Bool) (xs : List ℕ) (k v : ℕ) → k ∷ cond z (xs ++ v ∷ []) xs ≡ cond z ((k ∷ xs) ++ v ∷ []) (k ∷ xs)
        pushed true xs k v = refl
        pushed false xs k v = refl

pub placed_then : (place : ℕ → ℕ) (s i v : ℕ) → v ≡ i + 1 → eqb (place v) s ≡ true → placed place s 1 (i + 1) ≡ placed place s 1 i ++ v ∷ []
placed_then place s i v e t = placed_more place s 1 i v (omega (arith, e)) ∙ cond-true (eqb (place v) s) (placed place s 1 i ++ v ∷ []) (placed place s 1 i) t

pub placed_else : (place : ℕ → ℕ) (s i v : ℕ) → v ≡ i + 1 → eqb (place v) s ≡ false → placed place s 1 (i + 1) ≡ placed place s 1 i
placed_else place s i v e t = placed_more place s 1 i v (omega (arith, e)) ∙ cond-false (eqb (place v) s) (placed place s 1 i ++ v ∷ []) (placed place s 1 i) t

pub placed_start : (place : ℕ → ℕ) (s : ℕ) → placed place s 1 0 ≡ []
unfolding placed
placed_start place s = refl

pub placed_long : (place : ℕ → ℕ) (s k n : ℕ) → length (placed place s k n) ≤ n
unfolding placed
placed_long place s k zero = omega arith
placed_long place s k (suc n) = let p = placed_long place s (suc k) n in elim (cases_Bool (eqb (place k) s)) [
  | inl t ↦ (let a = ap length (cond-true (eqb (place k) s) (k ∷ placed place s (suc k) n) (placed place s (suc k) n) t) in omega (arith, p, a))
  | inr t ↦ (let a = ap length (cond-false (eqb (place k) s) (k ∷ placed place s (suc k) n) (placed place s (suc k) n) t) in omega (arith, p, a))
]

-- the arcs of a list of vertices, vertex by vertex
pub arcs_out_long : (N : Network) (vs : List ℕ) → length (arcs_out N vs) ≡ total (λ v. length (outgoing N v)) vs
unfolding arcs_out
arcs_out_long N [] = refl
arcs_out_long N (v ∷ vs) = let p = arcs_out_long N vs in let a = length-append (outgoing N v) (arcs_out N vs) in omega (arith, p, a)

-- those of the own vertices are no more than there are
pub own_arcs_most : (N : Network) (place : ℕ → ℕ) (s n i : ℕ) → length (arcs_out N (take i (0 ∷ placed place s 1 n))) ≤ suc N.arcs
own_arcs_most N place s n i =
    let a = arcs_out_long N (take i (0 ∷ placed place s 1 n)) in
    let b = total_most (λ v. length (outgoing N v)) (0 ∷ placed place s 1 n) i in
    let c = total_same (λ v. length (outgoing N v)) (λ v. sum_below (λ b. cond (eqb (N.tail b) v) 1 0) (suc N.arcs)) (0 ∷ placed place s 1 n)
    (λ v. sym (total_ones (outgoing N v)) ∙ total_out N (λ x. 1) v) in
    let d = total_swap (λ v b. cond (eqb (N.tail b) v) 1 0) (0 ∷ placed place s 1 n) (suc N.arcs) in
    let e = sum_most (λ b. total (λ v. cond (eqb (N.tail b) v) 1 0) (0 ∷ placed place s 1 n)) (λ b. 1) (suc N.arcs) (λ b. at_most (N.tail b)) in
    let f = sum_ones (suc N.arcs) in omega (arith, a, b, c, d, e, f)
  where
    at_most : (w : ℕ) → total (λ v. cond (eqb w v) 1 0) (0 ∷ placed place s 1 n) ≤ 1
    at_most w = elim (cases_eq w 0) [
      | inl e ↦ (let z = ap (λ y. total (λ v. cond (eqb y v) 1 0) (placed place s 1 n)) e ∙ placed_none place s 0 1 1 n (omega arith) in let c = cond_most (eqb w 0) 1 in omega (arith, z, c))
      | inr ne ↦ (let z : cond (eqb w 0) 1 0 ≡ 0 = cond-false {A = ℕ} (eqb w 0) 1 0 (ne_eqb w 0 ne) in let m = placed_most place s w 1 1 n in omega (arith, z, m))
    ]

-- one vertex more
pub arcs_out_more : (N : Network) (vs : List ℕ) (i : ℕ) → i < length vs → length (arcs_out N (take (i + 1) vs)) ≡ length (arcs_out N (take i vs)) + length (outgoing N (get_or vs i 0))
arcs_out_more N vs i l = let a = arcs_out_long N (take (i + 1) vs) in let b = arcs_out_long N (take i vs) in let c = total_take (λ v. length (outgoing N v)) vs i 0 l in omega (arith, a, b, c)

pub total_few : {X : Type 0} (f : X → ℕ) (xs : List X) → ((x : X) → f x ≤ 1) → total f xs ≤ length xs
total_few f [] h = omega arith
total_few f (x ∷ xs) h = let p = total_few f xs h in let q = h x in omega (arith, p, q)
