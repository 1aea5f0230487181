-- What was counted of a shard makes the tables of its opened part.
use Rattle.shard_part.proofs.Words.{◌≡◌, ℕ, ◌≤◌, ◌^◌, Bool, true, eqb, List, [], ◌∷◌, length, set, get_or, replicate, refl, sym, ap, ◌∙◌, subst, arith, length-set, get_or-set_other, eqb-true, Algebra, Item, sum_below, one_if, placed, SetupData, network_of, place_in, IsPlanned, local_vertices, total, outbox_bound, queue_bound, abstraction, RepInvariant, first_items, opened_part, place_below, place_source}
use Rattle.shard_store.specs.Queue.{Line, line, room}
use Rattle.shard_store.specs.Rows.{Rows, idle_rows, AreIdle}
use Rattle.shard_store.specs.Layout.{ShardLayoutData, is_first, AreOffsets, CountsAll, layout_view}
use Rattle.shard_store.proofs.Counting.{total_index}
use Rattle.shard_store.proofs.Capacities.{capacities_sum, queue_bound_most, queue_bound_first}
use Rattle.shard_part.proofs.Opened.{opened_seen, opened_stored}

module _ (w : ShardLayoutData) (P : IsPlanned w.setup w.shard) where
  pub sum_is : (capacities : List ℕ) → CountsAll w capacities → total (λ n. n) capacities ≡ queue_bound (network_of w.setup) (place_in w.setup) w.shard
  sum_is capacities C =
      total_index capacities (outbox_bound (network_of w.setup) (place_in w.setup) w.shard) (λ t l. C.1 t (let q = C.0 in omega (arith, q, l)))
      ∙ ap (sum_below (outbox_bound (network_of w.setup) (place_in w.setup) w.shard)) C.0
      ∙ capacities_sum (network_of w.setup) (place_in w.setup) w.shard w.setup.plan.shards (place_below w.setup w.shard P)

  pub sum_small : (capacities xs : List ℕ) → CountsAll w capacities → xs ≡ capacities → total (λ n. n) xs ≤ 2 ^ 32
  sum_small capacities xs C e = let a = sum_is capacities C in let b = ap (total (λ n. n)) e in
      let m = queue_bound_most (network_of w.setup) (place_in w.setup) w.shard in let f = P.roads.few_arcs in omega (arith, a, b, m, f)

  pub sum_first : (capacities xs : List ℕ) (sum : ℕ) (first : Bool) → CountsAll w capacities → xs ≡ capacities → sum ≡ total (λ n. n) xs → first ≡ is_first w.setup w.shard → first ≡ true → 1 ≤ sum
  sum_first capacities xs sum first C e s f t =
      let a = sum_is capacities C in let b = ap (total (λ n. n)) e in
      let m = queue_bound_first (network_of w.setup) (place_in w.setup) w.shard (place_source w.setup w.shard P ∙ eqb-true (place_in w.setup 0) w.shard (sym f ∙ t)) in omega (arith, a, b, s, m)

module _ {S : Type 0} (t : SetupData S) (s : ℕ) where
  -- the shard of a diffusion, without its algebra
  abbrev pub layout_of : ShardLayoutData
  layout_of = layout_view t.diffusion.roads t.diffusion.source t.plan s

  pub same_place : place_in layout_of.setup ≡ place_in t
  unfolding place_in
  same_place = refl

  pub planned_too : IsPlanned layout_of.setup s → IsPlanned t s
  planned_too P = record { roads = P.roads; source = P.source; plan = P.plan; covers = P.covers; shard = P.shard }

module _ {S V : Type 0} (A : Algebra V) (t : SetupData S) (s : ℕ) (P : IsPlanned (layout_of t s).setup s) (first : Bool) (capacities ys zs ns : List ℕ)
    (sum sent : ℕ) (rows : Rows V) (queue : Line (Item V)) (outs : List (List (Item V)))
    (F : first ≡ is_first (layout_of t s).setup s) (R : AreIdle (layout_of t s) rows)
    (C : CountsAll (layout_of t s) capacities) (Y : ys ≡ capacities) (T : sum ≡ total (λ n. n) ys) (Q : queue ≡ line (first_items A first) 0 (room sum t.order))
    (Z : zs ≡ set capacities s 0) (I : outs ≡ replicate (length zs) []) (K : ns ≡ zs)
    (N : sent ≡ one_if first) where
  first_too : first ≡ is_first t s
  first_too = F ∙ ap (λ f. eqb (f 0) s) (same_place t s)

  own_too : local_vertices (layout_of t s).setup s ≡ local_vertices t s
  own_too = ap (λ f. 0 ∷ placed f s 1 t.diffusion.roads.vertices) (same_place t s)

  starts_too : AreOffsets (network_of t) (local_vertices t s) R.offsets R.arcs
  starts_too = subst (λ os. AreOffsets (network_of t) os R.offsets R.arcs) own_too R.starts

  rows_too : rows ≡ idle_rows (local_vertices t s) R.offsets R.arcs (is_first t s)
  rows_too = R.rows_are ∙ (λ i. idle_rows (own_too i) R.offsets R.arcs (eqb (same_place t s i 0) s))

  long : length zs ≡ t.plan.shards
  long = ap length Z ∙ length-set capacities s 0 ∙ C.0

  pub made_seen : abstraction t s rows queue.items outs sent 0 0 0 ≡ opened_part A t s
  made_seen = opened_seen A t s (planned_too t s P) rows R.offsets R.arcs queue.items outs sent starts_too rows_too
      (ap (λ q. q.items) Q ∙ ap (first_items A) first_too) (I ∙ ap (λ n. replicate n []) long) (N ∙ ap one_if first_too)

  pub made_stored : RepInvariant (abstraction t s rows queue.items outs sent 0 0 0) rows queue.room ns
  made_stored = opened_stored A t s (planned_too t s P) rows R.offsets R.arcs queue.items outs sent queue.room ns starts_too rows_too
      (ap (λ q. q.items) Q ∙ ap (first_items A) first_too) (I ∙ ap (λ n. replicate n []) long) (N ∙ ap one_if first_too)
      (ap (λ q. q.room.order) Q)
      (ap (λ q. q.room.capacity) Q ∙ T ∙ ap (total (λ n. n)) Y ∙ sum_is (layout_of t s) P capacities C ∙ ap (λ f. queue_bound (network_of t) f s) (same_place t s))
      (ap length K ∙ long)
      (λ k ne l. ap (λ vs. get_or vs k 0) (K ∙ Z) ∙ get_or-set_other capacities s k 0 0 ne ∙ C.1 k l ∙ ap (λ f. outbox_bound (network_of t) f s k) (same_place t s))
