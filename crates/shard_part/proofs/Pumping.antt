-- The arcs out of a vertex are offered its label one after the other.
use Rattle.shard_part.proofs.Words.{◌≡◌, ◌≢◌, ℕ, ◌+◌, ◌<◌, ◌≤◌, Bool, true, false, cond, Option, Some, None, List, [], ◌∷◌, ◌++◌, length, set, get_or, take, refl, sym, ap, ◌∙◌, subst, arith, Algebra, OutRoad, WellFormed, is_due, extend_label, improves, SetupData, network_of, PartData, state_in, IsArc, outgoing, local_vertices, Room, Rows, tail-arc}
use Rattle.std.proofs.lemmas.List.{get_or_read, take_more}
use Rattle.road_graph.specs.GraphData.{HasVertex, IsRank, ListsArcsFrom, ListsRoadsFrom, arc_of, road_of, roads_of}
use Rattle.shard_part.specs.Moves.{RepInvariant, IsPlace, IsArcRow, IsArcOut, with_message, engaged_or_answered, labelled, offered, offered_all}
use Rattle.shard_part.proofs.Graphs.{arc_in_graph}
use Rattle.shard_store.proofs.Graphs.{out_is, roads_are, road_is}
use Rattle.shard_part.proofs.Moves.{formed}
use Rattle.shard_store.proofs.Places.{own_below, outgoing_picked}

module _ {S V : Type 0} (A : Algebra V) where
  message_same : (b : ℕ) (o : Option V) (p : PartData S V) → ((with_message b o p).setup ≡ p.setup) × ((with_message b o p).shard ≡ p.shard)
  message_same b None p = (refl, refl)
  message_same b (Some y) p = (refl, refl)

  pub offered_same : (v b : ℕ) (p : PartData S V) → ((offered A v b p).setup ≡ p.setup) × ((offered A v b p).shard ≡ p.shard)
  offered_same v b p = go (is_due A (network_of p.setup) v (state_in p) b)
    where
      go : (t : Bool) → ((cond t (with_message b (extend_label A ((state_in p).label v) ((network_of p.setup).weight b)) (record p { told = set p.told b ((state_in p).label v) })) p).setup ≡ p.setup)
          × ((cond t (with_message b (extend_label A ((state_in p).label v) ((network_of p.setup).weight b)) (record p { told = set p.told b ((state_in p).label v) })) p).shard ≡ p.shard)
      go false = (refl, refl)
      go true = message_same b (extend_label A ((state_in p).label v) ((network_of p.setup).weight b)) (record p { told = set p.told b ((state_in p).label v) })

  pub offered_all-snoc : (v : ℕ) (bs : List ℕ) (b : ℕ) (p : PartData S V) → offered_all A v (bs ++ b ∷ []) p ≡ offered A v b (offered_all A v bs p)
  unfolding offered_all
  offered_all-snoc v [] b p = refl
  offered_all-snoc v (c ∷ bs) b p = offered_all-snoc v bs b (offered A v c p)

  pub offered_none : (v : ℕ) (p : PartData S V) → offered_all A v [] p ≡ p
  unfolding offered_all
  offered_none v p = refl

  pub place_same : (p q : PartData S V) (v j : ℕ) → q.setup ≡ p.setup → q.shard ≡ p.shard → IsPlace p v j → IsPlace q v j
  place_same p q v j e s P = record {
    inside = subst (λ (t : SetupData S). j < length (local_vertices t q.shard)) (sym e) (subst (λ k. j < length (local_vertices p.setup k)) (sym s) P.inside);
    vertex = (λ i. get_or (local_vertices (e i) (s i)) j 0) ∙ P.vertex;
  }

  -- the graph has the vertex at a place
  pub vertex_at : (p old : PartData S V) (r : Rows V) (n : Room) (ns : List ℕ) (v j : ℕ) → p ≡ old → RepInvariant p r n ns → IsPlace old v j → v ≢ 0 → HasVertex p.setup.diffusion.roads v
  vertex_at p old r n ns v j e D Q nz =
      let P : IsPlace p v j = subst (λ (u : PartData S V). IsPlace u v j) (sym e) Q in
      ((omega (arith, nz)), (let b = own_below p.setup p.shard j P.inside in let w = P.vertex in omega (arith, b, w)))

  pub listed_out : (p old : PartData S V) (v : ℕ) (xs : List ℕ) → p ≡ old → 1 ≤ v → ListsArcsFrom p.setup.diffusion.roads v xs → xs ≡ outgoing (network_of old.setup) v
  listed_out p old v xs e l o = out_is p.setup.diffusion.roads p.setup.diffusion.source v xs l o ∙ ap (λ (u : PartData S V). outgoing (network_of u.setup) v) e

  pub listed_at : (p old : PartData S V) (r : Rows V) (n : Room) (ns : List ℕ) (v j : ℕ) (xs : List ℕ) → p ≡ old → RepInvariant p r n ns → IsPlace old v j → v ≢ 0
      → ListsArcsFrom p.setup.diffusion.roads v xs → xs ≡ outgoing (network_of old.setup) v
  listed_at p old r n ns v j xs e D P nz o = listed_out p old v xs e (vertex_at p old r n ns v j e D P nz).0 o

  pub offered_all_same : (v : ℕ) (bs : List ℕ) (p : PartData S V) → ((offered_all A v bs p).setup ≡ p.setup) × ((offered_all A v bs p).shard ≡ p.shard)
  unfolding offered_all
  offered_all_same v [] p = (refl, refl)
  offered_all_same v (b ∷ bs) p = let r = offered_all_same v bs (offered A v b p) in let q = offered_same v b p in (r.0 ∙ q.0, r.1 ∙ q.1)

  -- one arc more was offered
  pub offered_more : (p mid new : PartData S V) (v b k : ℕ) (xs : List ℕ) → k < length xs → b ≡ get_or xs k b → mid ≡ offered_all A v (take k xs) p
      → new ≡ offered A v b mid → new ≡ offered_all A v (take (k + 1) xs) p
  offered_more p mid new v b k xs l h m w =
      w ∙ ap (offered A v b) m ∙ sym (offered_all-snoc v (take k xs) b p) ∙ ap (λ ys. offered_all A v ys p) (ap (λ (z : ℕ). take k xs ++ z ∷ []) (get_or_read xs k b l h 0) ∙ sym (take_more xs k 0 l))

  pub improve_same : (x : V) (v : ℕ) (p : PartData S V) → ((labelled A x v p).setup ≡ p.setup) × ((labelled A x v p).shard ≡ p.shard) × ((state_in (labelled A x v p)).engager ≡ (state_in p).engager)
  improve_same x v p = go (improves A x ((state_in p).label v))
    where
      go : (t : Bool) → ((cond t (record p { labels = set p.labels v (Some x) }) p).setup ≡ p.setup) × ((cond t (record p { labels = set p.labels v (Some x) }) p).shard ≡ p.shard)
          × ((state_in (cond t (record p { labels = set p.labels v (Some x) }) p)).engager ≡ (state_in p).engager)
      go true = (refl, refl, refl)
      go false = (refl, refl, refl)

  pub engaged_or_answered_same : (a v : ℕ) (o : Option ℕ) (p : PartData S V) → ((engaged_or_answered a v o p).setup ≡ p.setup) × ((engaged_or_answered a v o p).shard ≡ p.shard)
  engaged_or_answered_same a v None p = (refl, refl)
  engaged_or_answered_same a v (Some e) p = (refl, refl)

  pub pumped_same : (t : Bool) (v : ℕ) (bs : List ℕ) (p : PartData S V) → ((cond t (offered_all A v bs p) p).setup ≡ p.setup) × ((cond t (offered_all A v bs p) p).shard ≡ p.shard)
  pumped_same true v bs p = offered_all_same v bs p
  pumped_same false v bs p = (refl, refl)

module _ {S V : Type 0} where
  pub inside_of : (p q : PartData S V) (v k : ℕ) (xs : List ℕ) → xs ≡ outgoing (network_of p.setup) v → q.setup ≡ p.setup → k < length xs → k < length (outgoing (network_of q.setup) v)
  inside_of p q v k xs e s l = subst (λ (t : SetupData S). k < length (outgoing (network_of t) v)) (sym s) (subst (λ ys. k < length ys) e l)

  pub arc_at : (p q : PartData S V) (v k b : ℕ) (xs : List ℕ) → xs ≡ outgoing (network_of p.setup) v → q.setup ≡ p.setup → get_or xs k 0 ≡ b → get_or (outgoing (network_of q.setup) v) k 0 ≡ b
  arc_at p q v k b xs e s h = (λ j. get_or (outgoing (network_of (s j)) v) k 0) ∙ ap (λ ys. get_or ys k 0) (sym e) ∙ h

  tail_found : (p q : PartData S V) (v k b : ℕ) (xs : List ℕ) → xs ≡ outgoing (network_of p.setup) v → q.setup ≡ p.setup → k < length xs → get_or xs k 0 ≡ b → (network_of q.setup).tail b ≡ v
  tail_found p q v k b xs e s l h = ap (λ (t : SetupData S). (network_of t).tail b) s ∙ ap (network_of p.setup).tail (sym h ∙ ap (λ ys. get_or ys k 0) e)
      ∙ ((outgoing_picked (network_of p.setup) v).each k (subst (λ ys. k < length ys) e l)).0

  arc_found : (u p q : PartData S V) (r : Rows V) (n : Room) (ns : List ℕ) (v b : ℕ) → u ≡ p → RepInvariant u r n ns → q.setup ≡ p.setup → v ≢ 0
      → (network_of q.setup).tail b ≡ v → IsArc (network_of q.setup) b × (b ≢ 0)
  arc_found u p q r n ns v b e D s nz t =
      let W : WellFormed (network_of q.setup) = subst (λ (x : SetupData S). WellFormed (network_of x)) (ap (λ (y : PartData S V). y.setup) e ∙ sym s) (formed u u.shard D.planned) in
      let tn : (network_of q.setup).tail b ≢ 0 = λ z. nz (sym t ∙ z) in
      ((W.head_in b tn, λ _. tn), λ z. tn (ap (network_of q.setup).tail z ∙ W.tail_zero))

  -- the k-th arc out of a vertex, as the graph lists them
  pub arc_out : (u p q : PartData S V) (r : Rows V) (n : Room) (ns : List ℕ) (v k b i : ℕ) (xs : List ℕ) → u ≡ p → RepInvariant u r n ns → q.setup ≡ p.setup → v ≢ 0
      → xs ≡ outgoing (network_of p.setup) v → k < length xs → get_or xs k 0 ≡ b → IsArcRow q (get_or (outgoing (network_of q.setup) v) k 0) i → IsArcOut q v b i × (b ≢ 0)
  arc_out u p q r n ns v k b i xs e D s nz is l h R =
      let t = tail_found p q v k b xs is s l h in
      let a = arc_found u p q r n ns v b e D s nz t in
      (record { row = subst (λ z. IsArcRow q z i) (arc_at p q v k b xs is s h) R; tail = t; arc = a.0 }, a.1)

  -- an arc among those out of its tail
  pub tail_vertex : (p old : PartData S V) (r : Rows V) (n : Room) (ns : List ℕ) (a : ℕ) → p ≡ old → RepInvariant p r n ns
      → IsArc (network_of old.setup) a → a ≢ 0 → HasVertex p.setup.diffusion.roads ((network_of old.setup).tail a)
  tail_vertex p old r n ns a e D ar nz =
      let g = arc_in_graph p old r n ns a e D ar nz in subst (HasVertex p.setup.diffusion.roads) (sym (tail-arc p.setup.diffusion.roads a g.0)
      ∙ ap (λ (u : PartData S V). (network_of u.setup).tail a) e) (D.planned.roads.ends a g).0

  -- the place that the graph gives an arc among those out of its tail
  pub rank_found : (A : Algebra V) (p old : PartData S V) (r : Rows V) (n : Room) (ns : List ℕ) (a k : ℕ) → p ≡ old → RepInvariant p r n ns
      → IsArc (network_of old.setup) a → a ≢ 0 → IsRank p.setup.diffusion.roads a k →
      (k < length (outgoing (network_of old.setup) ((network_of old.setup).tail a))) × (get_or (outgoing (network_of old.setup) ((network_of old.setup).tail a)) k 0 ≡ a)
  rank_found A p old r n ns a k e D ar nz turn =
      let h = tail_vertex p old r n ns a e D ar nz in
      let low : 1 ≤ a = omega arith in
      let tail : (arc_of p.setup.diffusion.roads a).tail ≡ (network_of old.setup).tail a = sym (tail-arc p.setup.diffusion.roads a low) ∙ ap (λ (u : PartData S V). (network_of u.setup).tail a) e in
      let is = listed_out A p old ((network_of old.setup).tail a) turn.numbers e h.0 (subst (λ w. ListsArcsFrom p.setup.diffusion.roads w turn.numbers) tail turn.lists) in
      (subst (λ ys. k < length ys) is turn.inside, ap (λ ys. get_or ys k 0) (sym is) ∙ turn.found)

  -- head and weight of the k-th arc out of a vertex
  pub road_found : (A : Algebra V) (p old : PartData S V) (r : Rows V) (n : Room) (ns : List ℕ) (v j k : ℕ) (rs : List OutRoad) (d : OutRoad) → p ≡ old
      → RepInvariant p r n ns → IsPlace old v j → v ≢ 0 → ListsRoadsFrom p.setup.diffusion.roads v rs →
      k < length (outgoing (network_of old.setup) v) → (k < length rs) × (get_or rs k d ≡ road_of (arc_of old.setup.diffusion.roads (get_or (outgoing (network_of old.setup) v) k 0)))
  road_found A p old r n ns v j k rs d e D P nz o l =
      let h2 = vertex_at A p old r n ns v j e D P nz in
      road_is old.setup.diffusion.roads old.setup.diffusion.source v k (get_or (outgoing (network_of old.setup) v) k 0) rs d
      (roads_are p.setup.diffusion.roads p.setup.diffusion.source v rs h2.0 o
      ∙ ap (λ (u : PartData S V). roads_of u.setup.diffusion.roads (outgoing (network_of u.setup) v)) e) l refl
