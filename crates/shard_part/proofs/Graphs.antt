-- What the graph and the plan say of the arcs and places of a part.
use Rattle.shard_part.proofs.Words.{◌≡◌, ◌≢◌, ℕ, ◌+◌, ◌<◌, ◌≤◌, List, length, get_or, take, ◌⊎◌, sym, ap, ◌∙◌, subst, inl, inr, arith, Contains, IsGraph, HasVertex, HasArc, arc_of, SetupData, network_of, place_in, PartData, IsArc, outgoing, local_vertices, arcs_out, Room, Rows, RepInvariant, IsPlace, IsArcRow, IsStrictlyIncreasing, cases_eq}
use Rattle.std.proofs.lemmas.Grind.{get_or_default_zero}
use Rattle.scholten_core.proofs.Networks.{real_arc, tail-arc, head-arc, tail-entry, head-entry}
use Rattle.shard_store.specs.Plans.{shard_in, HasPlanned}
use Rattle.shard_store.proofs.Graphs.{placed_as}
use Rattle.shard_store.proofs.Places.{arc_at_place, own_increasing, own_all}

module _ {S : Type 0} (t : SetupData S) where
  pub graph_arc : (b : ℕ) → b ≢ 0 → IsArc (network_of t) b → HasArc t.diffusion.roads b
  graph_arc b n r = real_arc t.diffusion.roads b (r.1 n)

  pub head_of_arc : IsGraph t.diffusion.roads → (b : ℕ) → b ≢ 0 → IsArc (network_of t) b → ((network_of t).head b ≡ (arc_of t.diffusion.roads b).head)
      × (1 ≤ (network_of t).head b) × ((network_of t).head b ≤ t.diffusion.roads.vertices)
  head_of_arc R b n r = let h = graph_arc b n r in let e = head-arc t.diffusion.roads t.diffusion.source b h.0 in let j = (R.ends b h).1 in
      (e, (let a = j.0 in omega (arith, e, a)), (let a = j.1 in omega (arith, e, a)))

  pub tail_of_arc : IsGraph t.diffusion.roads → (b : ℕ) → b ≢ 0 → IsArc (network_of t) b → ((network_of t).tail b ≡ (arc_of t.diffusion.roads b).tail)
      × (1 ≤ (network_of t).tail b) × ((network_of t).tail b ≤ t.diffusion.roads.vertices)
  tail_of_arc R b n r = let h = graph_arc b n r in let e = tail-arc t.diffusion.roads b h.0 in let j = (R.ends b h).0 in
      (e, (let a = j.0 in omega (arith, e, a)), (let a = j.1 in omega (arith, e, a)))

  pub head_of_entry : HasVertex t.diffusion.roads t.diffusion.source → ((network_of t).head 0 ≡ t.diffusion.source)
  head_of_entry h = head-entry t.diffusion.roads t.diffusion.source

  pub tail_of_entry : (network_of t).tail 0 ≡ 0
  tail_of_entry = tail-entry t.diffusion.roads

module _ {S V : Type 0} where
  -- where the arcs of a place begin
  pub row_leaves : (p old : PartData S V) (r : Rows V) (n : Room) (ns : List ℕ) (v j k d : ℕ) → p ≡ old → RepInvariant p r n ns → IsPlace old v j
      → k < length (outgoing (network_of old.setup) v) → d ≡ get_or r.offsets j 0 →
      (d + k < length r.busy) × IsArcRow old (get_or (outgoing (network_of old.setup) v) k 0) (d + k)
  row_leaves p old r n ns v j k d e D Q l h =
      let P : IsPlace p v j = subst (λ (u : PartData S V). IsPlace u v j) (sym e) Q in
      let l2 : k < length (outgoing (network_of p.setup) (get_or (local_vertices p.setup p.shard) j 0)) = subst
      (λ w. k < length (outgoing (network_of p.setup) w)) (sym P.vertex)
      (subst (λ (u : PartData S V). k < length (outgoing (network_of u.setup) v)) (sym e) l) in
      let A = arc_at_place (network_of p.setup) (local_vertices p.setup p.shard) j k P.inside l2 in
      let o : d ≡ length (arcs_out (network_of p.setup) (take j (local_vertices p.setup p.shard))) = h ∙ D.sized.starts j P.inside in (
        (let a = A.0 in let b = D.sized.busy in omega (arith, a, b, o)),
        subst (λ (u : PartData S V). IsArcRow u (get_or (outgoing (network_of u.setup) v) k 0) (d + k)) e (record {
          inside = (let a = A.0 in omega (arith, a, o));
          arc = ap (λ i. get_or (arcs_out (network_of p.setup) (local_vertices p.setup p.shard)) (i + k) 0) o ∙ A.1 ∙ ap (λ w. get_or (outgoing (network_of p.setup) w) k 0) P.vertex;
        }),
      )

  pub own_rising : (p old : PartData S V) (r : Rows V) (n : Room) (ns : List ℕ) (xs : List ℕ) (v : ℕ) → p ≡ old → RepInvariant p r n ns → xs ≡ r.own
      → v ≤ old.setup.diffusion.roads.vertices → (v ≢ 0 → place_in old.setup v ≡ old.shard) → IsStrictlyIncreasing xs × Contains xs v
  own_rising p old r n ns xs v e D x l h =
      let A = own_all p.setup p.shard v (subst (λ (u : PartData S V). v ≤ u.setup.diffusion.roads.vertices) (sym e) l) (subst (λ (u : PartData S V). v ≢ 0 → place_in u.setup v ≡ u.shard) (sym e) h) in
      subst (λ ys. IsStrictlyIncreasing ys × Contains ys v) (sym (x ∙ D.sized.own)) (
        own_increasing p.setup p.shard,
        (A.0, A.1, get_or_default_zero (local_vertices p.setup p.shard) A.0 v A.1 ∙ A.2),
      )

  pub place_leaves : (p old : PartData S V) (r : Rows V) (n : Room) (ns : List ℕ) (xs : List ℕ) (v j : ℕ) → p ≡ old → RepInvariant p r n ns → xs ≡ r.own
      → j < length xs → get_or xs j 0 ≡ v → IsPlace old v j
  place_leaves p old r n ns xs v j e D x l h = subst (λ (u : PartData S V). IsPlace u v j) e (record {
    inside = subst (λ ys. j < length ys) (x ∙ D.sized.own) l;
    vertex = ap (λ ys. get_or ys j 0) (sym (x ∙ D.sized.own)) ∙ h;
  })

  -- the head and the tail of an arc, the environment's among them
  pub arc_in_graph : (p old : PartData S V) (r : Rows V) (n : Room) (ns : List ℕ) (a : ℕ) → p ≡ old → RepInvariant p r n ns → IsArc (network_of old.setup) a → a ≢ 0 → HasArc p.setup.diffusion.roads a
  arc_in_graph p old r n ns a e D h nz = graph_arc p.setup a nz (subst (λ (u : PartData S V). IsArc (network_of u.setup) a) (sym e) h)

  -- an arc is the environment's, or one of the graph's
  pub arc_within : (p old : PartData S V) (a : ℕ) → p ≡ old → IsArc (network_of old.setup) a → a ≤ length p.setup.diffusion.roads.arcs
  arc_within p old a e h = elim (cases_eq a 0) [
    | inl z ↦ (omega (arith, z))
    | inr n ↦ (graph_arc p.setup a n (subst (λ (u : PartData S V). IsArc (network_of u.setup) a) (sym e) h)).1
  ]

  pub head_arc_is : (p old : PartData S V) (r : Rows V) (n : Room) (ns : List ℕ) (a : ℕ) → p ≡ old → RepInvariant p r n ns → IsArc (network_of old.setup) a → a ≢ 0 →
      ((arc_of p.setup.diffusion.roads a).head ≡ (network_of old.setup).head a) × (1 ≤ (arc_of p.setup.diffusion.roads a).head)
      × ((arc_of p.setup.diffusion.roads a).head ≤ old.setup.diffusion.roads.vertices)
  head_arc_is p old r n ns a e D h nz =
      let g = arc_in_graph p old r n ns a e D h nz in let j = (D.planned.roads.ends a g).1 in (
        sym (head-arc p.setup.diffusion.roads p.setup.diffusion.source a g.0) ∙ ap (λ (u : PartData S V). (network_of u.setup).head a) e,
        j.0,
        subst (λ (u : PartData S V). (arc_of p.setup.diffusion.roads a).head ≤ u.setup.diffusion.roads.vertices) e j.1,
      )

  -- the head of an arc, as the graph has it
  pub head_told : (p old : PartData S V) (r : Rows V) (n : Room) (ns : List ℕ) (b w : ℕ) → p ≡ old → RepInvariant p r n ns
      → IsArc (network_of old.setup) b → b ≢ 0 → w ≡ (arc_of old.setup.diffusion.roads b).head →
      (w ≡ (network_of old.setup).head b) × HasPlanned p.setup.plan w
  head_told p old r n ns b w e D h nz is =
      let H = head_arc_is p old r n ns b e D h nz in
      let q : w ≡ (arc_of p.setup.diffusion.roads b).head = is ∙ ap (λ (u : PartData S V). (arc_of u.setup.diffusion.roads b).head) (sym e) in
      let v = ap (λ (u : PartData S V). u.setup.diffusion.roads.vertices) e in let k = D.planned.covers in let low = H.1 in let high = H.2 in
      (q ∙ H.0, ((omega (arith, q, low)), (omega (arith, q, high, v, k))))

  pub shard_is : (p old : PartData S V) (r : Rows V) (n : Room) (ns : List ℕ) (v w : ℕ) → p ≡ old → RepInvariant p r n ns
      → ((v ≡ 0) × (w ≡ p.setup.diffusion.source)) ⊎ ((1 ≤ v) × (w ≡ v)) → shard_in p.setup.plan w ≡ place_in old.setup v
  shard_is p old r n ns v w e D h = sym (placed_as p.setup v w D.planned.source.0 h) ∙ ap (λ (u : PartData S V). place_in u.setup v) e
