-- What the graph and the plan say of the network's arcs and places.
use Rattle.shard_store.proofs.Words.{◌≡◌, ◌≢◌, ℕ, zero, suc, ◌+◌, ◌-◌, ◌<◌, ◌≤◌, List, [], ◌∷◌, ◌++◌, length, get_or, ◌⊎◌, refl, sym, ap, ◌∙◌, subst, inl, inr, arith, Contains, eqb, eq-eqb, ne_eqb, cases_lt, cond-true, cond-false, element_place, shard_in, placed, SetupData, network_of, place_in, IsPlanned, outgoing, local_vertices, arcs_out, arcs_from}
use Rattle.std.proofs.lemmas.List.{get_or-map, length-map, get_or_past}
use Rattle.road_graph.specs.GraphData.{GraphData, IsGraph, ListsArcsFrom, ListsRoadsFrom, arc_of, road_of, roads_of}
use Rattle.road_graph.specs.declared.OutRoad.{OutRoad}
use Rattle.scholten_core.specs.Network.{Network, network, tail_of}
use Rattle.scholten_core.proofs.Networks.{out_of, tail-arc, head-entry, tail-entry}
use Rattle.std.proofs.lemmas.List.Elements.{Contains-get_or}
use Rattle.shard_store.proofs.Ascending.{arcs_are}

-- the graph's list of the arcs out of v is the one list
pub out_is : (g : GraphData) (s v : ℕ) (xs : List ℕ) → 1 ≤ v → ListsArcsFrom g v xs → xs ≡ outgoing (network g s) v
out_is g s v xs l o =
    let O = out_of g s v xs l o in
    arcs_are (network g s) v 0 (suc (length g.arcs)) 0 xs o.ascending
    (λ b m. let r = element_place 0 b xs m in (ap (network g s).tail (sym r.2) ∙ O.tail r.0 r.1, omega arith, (let h = O.high r.0 r.1 in let e = r.2 in omega (arith, h, e))))
    (λ b t h k. let r = O.all b t in subst (Contains xs) r.2 (Contains-get_or xs r.0 0 r.1))

-- its list of heads and weights has those of these arcs, in the same order
pub roads_are : (g : GraphData) (s v : ℕ) (rs : List OutRoad) → 1 ≤ v → ListsRoadsFrom g v rs → rs ≡ roads_of g (outgoing (network g s) v)
roads_are g s v rs l o = o.2 ∙ ap (roads_of g) (out_is g s v o.0 l o.1)

pub road_is : (g : GraphData) (s v k b : ℕ) (rs : List OutRoad) (d : OutRoad) → rs ≡ roads_of g (outgoing (network g s) v)
    → k < length (outgoing (network g s) v) → get_or (outgoing (network g s) v) k 0 ≡ b → (k < length rs) × (get_or rs k d ≡ road_of (arc_of g b))
road_is g s v k b rs d e l h = (
  (let z = ap (λ (ys : List OutRoad). length ys) e in let y = length-map (outgoing (network g s) v) (λ a. road_of (arc_of g a)) in omega (arith, z, y, l)),
  ap (λ ys. get_or ys k d) e ∙ get_or-map (λ a. road_of (arc_of g a)) (outgoing (network g s) v) k 0 d l ∙ ap (λ a. road_of (arc_of g a)) h,
)

-- the environment's arc is the one arc out of it
arcs_none : (N : Network) (v k n : ℕ) → ((b : ℕ) → k ≤ b → b < k + n → N.tail b ≢ v) → arcs_from N v k n ≡ []
arcs_none N v k zero h = refl
arcs_none N v k (suc n) h = cond-false (eqb (N.tail k) v) (k ∷ arcs_from N v (suc k) n) (arcs_from N v (suc k) n) (ne_eqb (N.tail k) v (h k (omega arith) (omega arith)))
    ∙ arcs_none N v (suc k) n (λ b l m. h b (omega (arith, l)) (omega (arith, m)))

pub entry_alone : (g : GraphData) (s : ℕ) → IsGraph g → outgoing (network g s) 0 ≡ 0 ∷ []
entry_alone g s R = cond-true (eqb (tail_of g 0) 0) (0 ∷ arcs_from (network g s) 0 1 (length g.arcs)) (arcs_from (network g s) 0 1 (length g.arcs)) (eq-eqb (tail_of g 0) 0 (tail-entry g))
    ∙ ap (λ xs. 0 ∷ xs) (arcs_none (network g s) 0 1 (length g.arcs) (λ b l m e.
    (let t = tail-arc g b l in let low = (R.ends b (l, (omega (arith, m)))).0.0 in omega (arith, t, low, e))))

module _ {S : Type 0} (t : SetupData S) where
  pub place_vertex : (v : ℕ) → 1 ≤ v → place_in t v ≡ shard_in t.plan v
  unfolding place_in
  place_vertex zero l = absurd (omega arith)
  place_vertex (suc v) l = let e : suc v - 1 ≡ v = omega arith in ap (λ k. get_or t.plan.list k 0) (sym e)

  pub place_entry : 1 ≤ t.diffusion.source → place_in t 0 ≡ shard_in t.plan t.diffusion.source
  unfolding place_in
  place_entry l = refl

  -- the place of its vertex
  pub placed_as : (v w : ℕ) → 1 ≤ t.diffusion.source → ((v ≡ 0) × (w ≡ t.diffusion.source)) ⊎ ((1 ≤ v) × (w ≡ v)) → place_in t v ≡ shard_in t.plan w
  placed_as v w l h = elim h [
    | inl k ↦ ap (place_in t) k.0 ∙ place_entry l ∙ ap (shard_in t.plan) (sym k.1)
    | inr k ↦ place_vertex v k.0 ∙ ap (shard_in t.plan) (sym k.1)
  ]

module _ {S : Type 0} (t : SetupData S) (s : ℕ) (P : IsPlanned t s) where
  pub place_below : (v : ℕ) → place_in t v < t.plan.shards
  unfolding place_in
  place_below zero = P.plan.below (t.diffusion.source - 1) (let h = P.source in let l = h.0 in let m = h.1 in let c = P.covers in omega (arith, l, m, c))
  place_below (suc v) = elim (cases_lt v (length t.plan.list)) [
    | inl l ↦ P.plan.below v l
    | inr l ↦ (let z = get_or_past t.plan.list v 0 l in let o = P.plan.some_shard in omega (arith, z, o))
  ]

  -- the source and the environment are at one place
  pub place_source : place_in t ((network_of t).head 0) ≡ place_in t 0
  place_source = ap (place_in t) (head-entry t.diffusion.roads t.diffusion.source) ∙ place_vertex t t.diffusion.source P.source.0 ∙ sym (place_entry t P.source.0)

  pub arcs_first : arcs_out (network_of t) (local_vertices t s) ≡ 0 ∷ arcs_out (network_of t) (placed (place_in t) s 1 t.diffusion.roads.vertices)
  unfolding arcs_out
  arcs_first = ap (λ xs. xs ++ arcs_out (network_of t) (placed (place_in t) s 1 t.diffusion.roads.vertices)) (entry_alone t.diffusion.roads t.diffusion.source P.roads)
