-- The arcs between the shards of a plan, counted row by row.
use Rattle.shard_store.proofs.Words.{◌≡◌, ◌≢◌, ℕ, zero, suc, ◌+◌, ◌<◌, ◌≤◌, Bool, true, false, cond, eqb, List, [], ◌∷◌, length, length-set, length-map, set, get_or, take, map, refl, sym, ap, ◌∙◌, subst, inl, inr, arith, eq-eqb, ne_eqb, get_or-set_same, get_or-set_other, cases_eq, cond-true, cond-false, network, one_if, one_if-most, is, total, sum_below, sum_zero, sum_ones, sum_most, arc_of, shard_in, ShardLayoutData, IsPlanned, network_of, place_in, outgoing, outbox_bound}
use Rattle.std.proofs.Common.{◌*◌, ◌^◌, ◌&&◌, ◌||◌, eqb-true}
use Rattle.std.proofs.lemmas.Bool.{and_right, and_parts}
use Rattle.std.proofs.lemmas.List.{get_or-map, get_or_read}
use Rattle.road_graph.specs.GraphData.{GraphData, IsGraph, HasVertex, ListsRoadsFrom, road_of}
use Rattle.road_graph.specs.declared.OutRoad.{OutRoad}
use Rattle.scholten_core.specs.Network.{tail_of, head_of}
use Rattle.scholten_core.proofs.Basics.{sum_below_same, sum_same, sum_at, sum_first}
use Rattle.scholten_core.proofs.Networks.{tail-arc, head-arc, tail-entry}
use Rattle.shard_store.specs.Capacities.{joins}
use Rattle.shard_store.specs.Crossings.{CountedData, joined, crossings, at_shards, CountsCrossings}
use Rattle.shard_store.specs.Layout.{is_first, CountsAll}
use Rattle.shard_store.specs.Plans.{PlanData, HasPlanned}
use Rattle.shard_store.proofs.Capacities.{entry}
use Rattle.shard_store.proofs.Counting.{total_few, total_take, total_most, total_out, sum_swap, out_most}
use Rattle.shard_store.proofs.Graphs.{roads_are, place_vertex, place_source}
use Rattle.shard_store.proofs.ShardLayouts.{arc_from}

-- a counter goes up by one
abbrev pub raised : List ℕ → ℕ → List ℕ
raised counts k = set counts k (get_or counts k 0 + 1)

pub add_one : (counts : List ℕ) (k j : ℕ) → k < length counts → get_or (raised counts k) j 0 ≡ get_or counts j 0 + is j k
add_one counts k j l = elim (cases_eq j k) [
  | inl e ↦ (let a : get_or (raised counts k) j 0 ≡ get_or counts k 0 + 1 = ap (λ i. get_or (raised counts k) i 0) e ∙ get_or-set_same counts k (get_or counts k 0 + 1) 0 l in
      let b = ap (λ i. get_or counts i 0) e in let o = ap one_if (eq-eqb j k e) in omega (arith, a, b, o))
  | inr n ↦ (let a = get_or-set_other counts k j (get_or counts k 0 + 1) 0 n in let o = ap one_if (ne_eqb j k n) in omega (arith, a, o))
]

pub read_at : (xs : List ℕ) (k j x : ℕ) → k ≡ j → j < length xs → x ≡ get_or xs k x → x ≡ get_or xs j 0
read_at xs k j x e l h = get_or_read xs j x l (h ∙ ap (λ i. get_or xs i x) e) 0

-- a place of the table is that of its two shards alone
is_pair : (s t x y : ℕ) → t < 64 → y < 64 → is (64 * s + t) (64 * x + y) ≡ one_if (eqb y t && eqb x s)
is_pair s t x y l m = elim (cases_eq x s) [
  | inl e ↦ elim (cases_eq y t) [
    | inl f ↦ ap one_if (eq-eqb (64 * s + t) (64 * x + y) (omega (arith, e, f))) ∙ sym (λ i. one_if (eq-eqb y t f i && eq-eqb x s e i))
    | inr n ↦ ap one_if (ne_eqb (64 * s + t) (64 * x + y) (λ q. n (omega (arith, q, e)))) ∙ sym (λ i. one_if (ne_eqb y t n i && eqb x s))
  ]
  | inr n ↦ ap one_if (ne_eqb (64 * s + t) (64 * x + y) (λ q. n (omega (arith, q, l, m)))) ∙ sym (ap one_if (and_right (eqb y t) (eqb x s) (ne_eqb x s n)))
]

either : (p q : Bool) → (p ≡ true → q ≡ true → ⊥) → one_if (p || q) ≡ one_if p + one_if q
either true true h = absurd (h refl refl)
either true false h = refl
either false true h = refl
either false false h = refl

same : (p : Bool) → one_if (p || p) ≡ one_if p
same true = refl
same false = refl

-- one arc more, within a shard and between two
module _ (counts : List ℕ) (s t x y : ℕ) (l : t < 64) (lx : x < 64) (ly : y < 64) (inside : 64 * x + y < length counts) where
  pub one_within : y ≡ x → at_shards (raised counts (64 * x + y)) s t ≡ at_shards counts s t + joined s t x y
  one_within e =
      let a = add_one counts (64 * x + y) (64 * s + t) inside in let b = is_pair s t x y l ly in
      let c : joined s t x y ≡ one_if (eqb y t && eqb x s) = (λ i. one_if ((eqb y t && eqb x s) || (eqb (sym e i) t && eqb (e i) s))) ∙ same (eqb y t && eqb x s) in
      omega (arith, a, b, c)

  pub one_between : y ≢ x → 64 * y + x < length counts → at_shards (raised (raised counts (64 * x + y)) (64 * y + x)) s t ≡ at_shards counts s t + joined s t x y
  one_between n other =
      let a = add_one counts (64 * x + y) (64 * s + t) inside in let b = is_pair s t x y l ly in
      let d = add_one (raised counts (64 * x + y)) (64 * y + x) (64 * s + t) (omega (arith, other, length-set counts (64 * x + y) (get_or counts (64 * x + y) 0 + 1))) in
      let e = is_pair s t y x l lx in
      let c = either (eqb y t && eqb x s) (eqb x t && eqb y s) (λ p q. n (eqb-true y t (and_parts (eqb y t) (eqb x s) p).0 ∙ sym (eqb-true x t (and_parts (eqb x t) (eqb y s) q).0))) in
      omega (arith, a, b, c, d, e)

-- a place of the table
pub place_inside : (n x y : ℕ) (counts old : List ℕ) → length counts ≡ length old → length old ≡ 64 * n → n ≤ 64 → x < n → y < n → 64 * x + y < length counts
place_inside n x y counts old l o m a b = omega (arith, l, o, m, a, b)

-- part of a row was counted, and one arc more is
module _ (row : List OutRoad) (k : ℕ) (f : OutRoad → ℕ) where
  pub counted_small : (a b : ℕ) → ((r : OutRoad) → f r ≤ 1) → a ≡ b + total f (take k row) → b ≤ 2 ^ 54 → length row ≤ 2 ^ 28 → a ≤ 2 ^ 55
  counted_small a b one e l m = let p = total_most f row k in let q = total_few f row one in omega (arith, e, l, m, p, q)

  pub counted_more : (r : OutRoad) (a b c j : ℕ) → a ≡ b + j → b ≡ c + total f (take k row) → j ≡ f r → k < length row → r ≡ get_or row k r → a ≡ c + total f (take (k + 1) row)
  counted_more r a b c j e i v l h = let p = total_take f row k r l in let q = ap f h in omega (arith, e, i, v, p, q)

pick : (f : ℕ → ℕ) (w n : ℕ) → 1 ≤ w → w ≤ n → sum_below (λ i. cond (eqb w (suc i)) (f (suc i)) 0) n ≡ f w
pick f zero n l m = absurd (omega (arith, l))
pick f (suc a) n l m =
    let h = sum_at (λ i. cond (eqb (suc a) (suc i)) (f (suc i)) 0) (λ i. 0) a n (omega (arith, m))
    (λ i ne. cond-false (eqb (suc a) (suc i)) (f (suc i)) 0 (ne_eqb (suc a) (suc i) (λ e. ne (omega (arith, e))))) in
    let z = sum_zero (λ i. 0) n (λ i. refl) in let o = cond-true (eqb (suc a) (suc a)) (f (suc a)) 0 (eq-eqb (suc a) (suc a) refl) in omega (arith, h, z, o)

sum_part : (f : ℕ → ℕ) (i n : ℕ) → i ≤ n → sum_below f i ≤ sum_below f n
sum_part f i zero l = let e = ap (sum_below f) (let z : i ≡ 0 = omega (arith, l) in z) in omega (arith, e)
sum_part f i (suc n) l = elim (cases_eq i (suc n)) [
  | inl e ↦ (let q = ap (sum_below f) e in omega (arith, q))
  | inr ne ↦ (let p = sum_part f i n (omega (arith, l, ne)) in omega (arith, p))
]

total_map : {X Y : Type 0} (h : Y → X) (f : X → ℕ) (ys : List Y) → total f (map h ys) ≡ total (λ y. f (h y)) ys
total_map h f [] = refl
total_map h f (y ∷ ys) = let p = total_map h f ys in omega (arith, p)

module _ (g : GraphData) (p : PlanData) where
  -- how many of the arcs that leave v are between two shards
  abbrev pub row_crossings : (s t v : ℕ) → ℕ
  row_crossings s t v = total (λ a. joined s t (shard_in p v) (shard_in p (arc_of g a).head)) (outgoing (network g 1) v)

  pub row_is : (s t v : ℕ) (rs : List OutRoad) → 1 ≤ v → ListsRoadsFrom g v rs → total (λ r. joined s t (shard_in p v) (shard_in p r.head)) rs ≡ row_crossings s t v
  row_is s t v rs l o = ap (total (λ r. joined s t (shard_in p v) (shard_in p r.head))) (roads_are g 1 v rs l o)
      ∙ total_map (λ a. road_of (arc_of g a)) (λ r. joined s t (shard_in p v) (shard_in p r.head)) (outgoing (network g 1) v)

  pub row_few : (v : ℕ) (rs : List OutRoad) → IsGraph g → 1 ≤ v → ListsRoadsFrom g v rs → length rs ≤ 2 ^ 28
  row_few v rs R l o = let a = ap (λ (ys : List OutRoad). length ys) (roads_are g 1 v rs l o) in let b = length-map (outgoing (network g 1) v) (λ a. road_of (arc_of g a)) in
      let c = out_most (network g 1) v in let f = R.few_arcs in omega (arith, a, b, c, f)

  module _ (R : IsGraph g) (covers : length p.list ≡ g.vertices) where
    pub heads_planned : (v k : ℕ) (rs : List OutRoad) (d : OutRoad) → ListsRoadsFrom g v rs → k < length rs → HasPlanned p (get_or rs k d).head
    heads_planned v k rs d o l =
        let inside : k < length o.0 = (let a = ap (λ (ys : List OutRoad). length ys) o.2 in let b = length-map o.0 (λ a. road_of (arc_of g a)) in omega (arith, a, b, l)) in
        let ends = (R.ends (get_or o.0 k 0) (arc_from g v k o.0 o.1 inside).0).1 in
        let e = ap (λ (r : OutRoad). r.head) (ap (λ (ys : List OutRoad). get_or ys k d) o.2 ∙ get_or-map (λ a. road_of (arc_of g a)) o.0 k 0 d inside) in
        (omega (arith, e, ends.0), omega (arith, e, ends.1, covers))

    -- all rows have all arcs
    pub rows_are : (s t : ℕ) → sum_below (λ i. row_crossings s t (suc i)) g.vertices ≡ crossings g p s t
    rows_are s t =
        let F : ℕ → ℕ → ℕ = λ b v. joined s t (shard_in p v) (shard_in p (arc_of g b).head) in
        let at : ℕ → ℕ → ℕ = λ i b. cond (eqb (tail_of g b) (suc i)) (F b (suc i)) 0 in
        let a = sum_same (λ i. row_crossings s t (suc i)) (λ i. sum_below (at i) (suc (length g.arcs))) g.vertices (λ i. total_out (network g 1) (λ b. F b (suc i)) (suc i)) in
        let b = sum_swap at g.vertices (suc (length g.arcs)) in
        let c = sum_first (λ b. sum_below (λ i. at i b) g.vertices) (length g.arcs) in
        let d = sum_zero (λ i. at i 0) g.vertices (λ i. cond-false (eqb (tail_of g 0) (suc i)) (F 0 (suc i)) 0 (ne_eqb (tail_of g 0) (suc i) (λ e. let z = tail-entry g in omega (arith, e, z)))) in
        let h = sum_below_same (λ b. sum_below (λ i. at i (suc b)) g.vertices) (λ b. F (suc b) (arc_of g (suc b)).tail) (length g.arcs)
        (λ b l. let E = (R.ends (suc b) (omega arith, omega (arith, l))).0 in let q = tail-arc g (suc b) (omega arith) in
        ap (λ w. sum_below (λ i. cond (eqb w (suc i)) (F (suc b) (suc i)) 0) g.vertices) q ∙ pick (F (suc b)) (arc_of g (suc b)).tail g.vertices E.0 E.1) in
        omega (arith, a, b, c, d, h)

    pub crossings_most : (s t : ℕ) → crossings g p s t ≤ 2 ^ 27
    crossings_most s t = let m = sum_most (λ b. joined s t (shard_in p (arc_of g (suc b)).tail) (shard_in p (arc_of g (suc b)).head)) (λ b. 1) (length g.arcs) (λ b. one_if-most _) in
        let o = sum_ones (length g.arcs) in let f = R.few_arcs in omega (arith, m, o, f)

    pub next_row : (s t i v : ℕ) (rs : List OutRoad) (from a b : ℕ) → v ≡ i + 1 → ListsRoadsFrom g v rs → from ≡ shard_in p v → a ≡ b + total (λ r. joined s t from (shard_in p r.head)) rs
        → b ≡ sum_below (λ i. row_crossings s t (suc i)) i → a ≡ sum_below (λ i. row_crossings s t (suc i)) (i + 1)
    next_row s t i v rs from a b h o f e was =
        let r = row_is s t v rs (omega (arith, h)) o in let q = ap (λ x. total (λ r. joined s t x (shard_in p r.head)) rs) f in
        let n = ap (row_crossings s t) (let z : v ≡ suc i = omega (arith, h) in z) in
        let m = ap (sum_below (λ i. row_crossings s t (suc i))) (let z : i + 1 ≡ suc i = omega arith in z) in omega (arith, r, q, n, m, e, was)

    pub all_rows : (i : ℕ) (counts : List ℕ) → length counts ≡ 64 * p.shards → g.vertices ≡ i
        → ((s t : ℕ) → s < p.shards → t < p.shards → at_shards counts s t ≡ sum_below (λ i. row_crossings s t (suc i)) i) → CountsCrossings g p counts
    all_rows i counts long e each = record { covers = covers; long = long; each = λ s t ls lt. each s t ls lt ∙ ap (sum_below (λ i. row_crossings s t (suc i))) (sym e) ∙ rows_are s t }

    -- some rows were counted
    pub counted_few : (s t i : ℕ) (x : ℕ) → i ≤ g.vertices → x ≡ sum_below (λ i. row_crossings s t (suc i)) i → x ≤ 2 ^ 54
    counted_few s t i x l e = let a = sum_part (λ i. row_crossings s t (suc i)) i g.vertices l in let b = rows_are s t in let c = crossings_most s t in omega (arith, e, a, b, c)

-- the arcs between two shards, and the environment's
module _ (w : ShardLayoutData) (P : IsPlanned w.setup w.shard) where
  abbrev g : GraphData
  g = w.setup.diffusion.roads

  end_shard : (v u : ℕ) → HasVertex g v → u ≡ v → place_in w.setup u ≡ shard_in w.setup.plan v
  end_shard v u l e = ap (place_in w.setup) e ∙ place_vertex w.setup v l.0

  pub bound_is : (t : ℕ) → outbox_bound (network_of w.setup) (place_in w.setup) w.shard t ≡ crossings g w.setup.plan w.shard t + cond (is_first w.setup w.shard) (is t w.shard) 0
  bound_is t =
      let a = sum_first (joins (network_of w.setup) (place_in w.setup) w.shard t) (length g.arcs) in
      let b = sum_below_same (λ b. joins (network_of w.setup) (place_in w.setup) w.shard t (suc b))
      (λ b. joined w.shard t (shard_in w.setup.plan (arc_of g (suc b)).tail) (shard_in w.setup.plan (arc_of g (suc b)).head)) (length g.arcs)
      (λ b l. let E = P.roads.ends (suc b) (omega arith, omega (arith, l)) in
      λ i. joined w.shard t (end_shard (arc_of g (suc b)).tail (tail_of g (suc b)) E.0 (tail-arc g (suc b) (omega arith)) i)
      (end_shard (arc_of g (suc b)).head (head_of g w.setup.diffusion.source (suc b)) E.1 (head-arc g w.setup.diffusion.source (suc b) (omega arith)) i)) in
      let c = entry (network_of w.setup) (place_in w.setup) w.shard t (tail-entry g) (place_source w.setup w.shard P) in omega (arith, a, b, c)

  -- the row of the shard, without the environment's arc
  abbrev pub IsRow : List ℕ → Type 0
  IsRow xs = (length xs ≡ w.setup.plan.shards) × ((t : ℕ) → t < w.setup.plan.shards → get_or xs t 0 ≡ crossings g w.setup.plan w.shard t)

  pub row_at : (u : CountedData) (s : ℕ) (xs : List ℕ) → u ≡ record { roads = g; plan = w.setup.plan } → s ≡ w.shard → length xs ≡ u.plan.shards
      → ((t : ℕ) → t < u.plan.shards → get_or xs t 0 ≡ crossings u.roads u.plan s t) → IsRow xs
  row_at u s xs e h long each = subst (λ (v : CountedData). (length xs ≡ v.plan.shards) × ((t : ℕ) → t < v.plan.shards → get_or xs t 0 ≡ crossings v.roads v.plan w.shard t)) e
      (long, λ t l. each t l ∙ ap (λ k. crossings u.roads u.plan k t) h)

  pub counts_other : (xs : List ℕ) → IsRow xs → is_first w.setup w.shard ≡ false → CountsAll w xs
  counts_other xs row f = (row.0, λ t l. let a = row.1 t l in let b = bound_is t in let c = cond-false (is_first w.setup w.shard) (is t w.shard) 0 f in omega (arith, a, b, c))

  pub counts_first : (xs : List ℕ) → IsRow xs → is_first w.setup w.shard ≡ true → CountsAll w (raised xs w.shard)
  counts_first xs row f = (
    length-set xs w.shard (get_or xs w.shard 0 + 1) ∙ row.0,
    λ t l. let a = row.1 t l in let b = bound_is t in let c = cond-true (is_first w.setup w.shard) (is t w.shard) 0 f in let n = row.0 in let s = P.shard in
        let d = add_one xs w.shard t (omega (arith, n, s)) in omega (arith, a, b, c, d),
  )
