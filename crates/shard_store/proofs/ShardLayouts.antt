-- What is counted of a shard before its tables are made.
use Rattle.std.proofs.Common.{◌≡◌, ℕ, ◌+◌, ◌-◌, ◌<◌, ◌≤◌, ◌^◌, Bool, eqb, List, ◌∷◌, length, set, get_or, take, refl, sym, ap, ◌∙◌, subst, inl, inr, arith, get_or-set_same, get_or-set_other}
use Rattle.shard_store.proofs.Words.{range_with_len, cases_eq, Network, placed, network_of, place_in, IsPlanned, local_vertices, arcs_out, outgoing}
use Rattle.std.proofs.lemmas.List.{take_all, get_or_default, get_or_past}
use Rattle.road_graph.specs.GraphData.{GraphData, HasVertex, HasArc, ListsArcsFrom, arc_of}
use Rattle.shard_store.specs.declared.layout.Extent.{Extent}
use Rattle.shard_store.specs.Plans.{shard_in}
use Rattle.shard_store.specs.Layout.{ShardLayoutData, is_first, IsExtent}
use Rattle.shard_store.proofs.Increasing.{follow_first}
use Rattle.shard_store.proofs.Graphs.{out_is, place_vertex, place_entry, entry_alone, arcs_first}
use Rattle.shard_store.proofs.Counting.{placed_start, placed_long, arcs_out_more, own_arcs_most}
use Rattle.shard_store.proofs.Places.{own_below, placed_picked}

-- the vertices of the shard, without the environment
abbrev pub own_placed : ShardLayoutData → List ℕ
own_placed w = placed (place_in w.setup) w.shard 1 w.setup.diffusion.roads.vertices

pub first_is : (w old : ShardLayoutData) (x : ℕ) (b : Bool) → w ≡ old → IsPlanned w.setup w.shard → x ≡ shard_in w.setup.plan w.setup.diffusion.source
    → b ≡ eqb x w.shard → b ≡ is_first old.setup old.shard
first_is w old x b e D h q = q ∙ ap (λ k. eqb k w.shard) (h ∙ sym (place_entry w.setup D.source.0)) ∙ ap (λ (u : ShardLayoutData). is_first u.setup u.shard) e

pub has_is : (w old : ShardLayoutData) (v x : ℕ) (b : Bool) → w ≡ old → HasVertex old.setup.diffusion.roads v → x ≡ shard_in w.setup.plan v
    → b ≡ eqb x w.shard → b ≡ eqb (place_in old.setup v) old.shard
has_is w old v x b e l h q = q ∙ ap (λ k. eqb k w.shard) (h ∙ sym (place_vertex w.setup v l.0)) ∙ ap (λ (u : ShardLayoutData). eqb (place_in u.setup v) u.shard) e

pub count_out_zero : (w old : ShardLayoutData) (v : ℕ) → w ≡ old → IsPlanned w.setup w.shard → v ≡ 0 → 1 ≡ length (outgoing (network_of old.setup) v)
count_out_zero w old v e D z = sym (ap length (entry_alone w.setup.diffusion.roads w.setup.diffusion.source D.roads)) ∙ (λ i. length (outgoing (network_of (e i).setup) (sym z i)))

pub listed_from : (w old : ShardLayoutData) (v : ℕ) (xs : List ℕ) → w ≡ old → 1 ≤ v → ListsArcsFrom w.setup.diffusion.roads v xs → xs ≡ outgoing (network_of old.setup) v
listed_from w old v xs e l o = out_is w.setup.diffusion.roads w.setup.diffusion.source v xs l o ∙ ap (λ (u : ShardLayoutData). outgoing (network_of u.setup) v) e

-- an arc of such a list is one of the graph's
pub arc_from : (g : GraphData) (v j : ℕ) (xs : List ℕ) → ListsArcsFrom g v xs → j < length xs → HasArc g (get_or xs j 0) × ((arc_of g (get_or xs j 0)).tail ≡ v)
arc_from g v j xs o h = (o.complete (get_or xs j 0)).0 (j, h, get_or_default xs j (get_or xs j 0) 0 h)

-- what holds of a layout, through its view
pub planned_at : (w old : ShardLayoutData) → w ≡ old → IsPlanned w.setup w.shard → IsPlanned old.setup old.shard
planned_at w old e D = subst (λ (u : ShardLayoutData). IsPlanned u.setup u.shard) e D

-- between which numbers those of a shard lie
pub extent_none : (place : ℕ → ℕ) (s : ℕ) → IsExtent (placed place s 1 0) (record { first = 1; last = 0; count = 0 })
extent_none place s = subst (λ vs. IsExtent vs (record { first = 1; last = 0; count = 0 })) (sym (placed_start place s)) (record { first = refl; last = refl; count = refl })

pub extent_within : (place : ℕ → ℕ) (s n : ℕ) (e : Extent) → n ≤ 2 ^ 25 → IsExtent (placed place s 1 n) e → (1 ≤ e.first) × (e.first ≤ 2 ^ 26) × (e.last ≤ 2 ^ 26) × (e.count ≤ 2 ^ 26)
extent_within place s n e m E =
    let long = placed_long place s 1 n in let a = E.first in let b = E.last in let c = E.count in
    elim (cases_eq (length (placed place s 1 n)) 0) [
      | inl z ↦ (let f = get_or_past (placed place s 1 n) 0 1 (omega (arith, z)) in let g = get_or_past (placed place s 1 n) (length (placed place s 1 n) - 1) 0 (omega (arith, z)) in
          (omega (arith, a, f), omega (arith, a, f), omega (arith, b, g), omega (arith, c, z)))
      | inr nz ↦ (let p = (placed_picked place s 1 n).each 0 (omega (arith, nz)) in let q = (placed_picked place s 1 n).each (length (placed place s 1 n) - 1) (omega (arith, nz)) in
          let f = get_or_default (placed place s 1 n) 0 1 0 (omega (arith, nz)) in let low = p.1 in let high = p.2 in let top = q.2 in
          (omega (arith, a, f, low), omega (arith, a, f, high, m), omega (arith, b, top, m), omega (arith, c, long, m)))
    ]

-- if they follow one another, the own vertices are known without a list
pub own_run : (w : ShardLayoutData) (e : Extent) → IsExtent (own_placed w) e
    → e.first + e.count ≡ e.last + 1 → 0 ∷ range_with_len e.first e.count ≡ local_vertices w.setup w.shard
own_run w e E run =
    let c = E.count in
    ap (λ xs. 0 ∷ xs) (ap (range_with_len e.first) E.count
    ∙ sym (follow_first (own_placed w) e.first e.last (placed_picked (place_in w.setup) w.shard 1 w.setup.diffusion.roads.vertices).increasing E.first E.last (omega (arith, run, c))))

-- where the arcs begin
pub some_arc : (w : ShardLayoutData) (own : List ℕ) (n i : ℕ) → IsPlanned w.setup w.shard → own ≡ local_vertices w.setup w.shard → length own ≤ i
    → n ≡ length (arcs_out (network_of w.setup) (take i own)) → 1 ≤ n
some_arc w own n i D e l c =
    let f = ap length (arcs_first w.setup w.shard D) in let a = ap (λ xs. length (arcs_out (network_of w.setup) xs)) (take_all i own l ∙ e) in omega (arith, f, a, c)

pub starts_few : (w : ShardLayoutData) (own : List ℕ) (i : ℕ) → IsPlanned w.setup w.shard → own ≡ local_vertices w.setup w.shard → length (arcs_out (network_of w.setup) (take i own)) ≤ 2 ^ 27 + 1
starts_few w own i D e = let a = ap (λ xs. length (arcs_out (network_of w.setup) (take i xs))) e in
    let b = own_arcs_most (network_of w.setup) (place_in w.setup) w.shard w.setup.diffusion.roads.vertices i in let f = D.roads.few_arcs in
    omega (arith, a, b, f)

pub own_within : (w : ShardLayoutData) (v i : ℕ) (own : List ℕ) → own ≡ local_vertices w.setup w.shard → i < length own → v ≡ get_or own i 0 → v ≤ w.setup.diffusion.roads.vertices
own_within w v i own e l h = let r = h ∙ ap (λ xs. get_or xs i 0) e in let b = own_below w.setup w.shard i (subst (λ xs. i < length xs) e l) in omega (arith, r, b)

pub starts_next : (N : Network) (own : List ℕ) (v i count more : ℕ) → i < length own → v ≡ get_or own i 0 → count ≡ length (arcs_out N (take i own))
    → more ≡ length (outgoing N v) → count + more ≡ length (arcs_out N (take (i + 1) own))
starts_next N own v i count more l h c m = let a = arcs_out_more N own i l in let b = ap (λ u. length (outgoing N u)) h in omega (arith, a, b, c, m)

pub starts_more : (N : Network) (own offsets : List ℕ) (count i : ℕ) → i < length offsets → count ≡ length (arcs_out N (take i own))
    → ((j : ℕ) → j < i → get_or offsets j 0 ≡ length (arcs_out N (take j own))) →
    (j : ℕ) → j < i + 1 → get_or (set offsets i count) j 0 ≡ length (arcs_out N (take j own))
starts_more N own offsets count i inside c h j l = elim (cases_eq j i) [
  | inl e ↦ ap (λ k. get_or (set offsets i count) k 0) e ∙ get_or-set_same offsets i count 0 inside ∙ c ∙ ap (λ k. length (arcs_out N (take k own))) (sym e)
  | inr n ↦ get_or-set_other offsets i j count 0 n ∙ h j (omega (arith, l, n))
]
