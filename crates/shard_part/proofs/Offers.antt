-- An arc is offered a label: the code's steps are the definition's.
use Rattle.shard_part.proofs.Words.{◌≡◌, ◌≢◌, ℕ, suc, Bool, true, false, not, ◌&&◌, eqb, Option, Some, None, List, length, set, get_or, refl, sym, ap, ◌∙◌, subst, inr, eq-eqb, ne_eqb, cond-true, Algebra, SignalOn, is_idle, is_due, same_label, extend_label, out_idle, arc_of, busy_out, shard_in, PartData, state_in, token_if, IsArc, network_of, place_in, Room, Rows}
use Rattle.scholten_core.proofs.Networks.{weight-arc}
use Rattle.shard_part.proofs.Graphs.{arc_in_graph, head_told, shard_is}
use Rattle.shard_part.proofs.Moves.{mine_at}
use Rattle.scholten_core.proofs.Quick.{out_idle_counted}
use Rattle.shard_part.specs.Moves.{RepInvariant, IsPlace, with_item, with_message, offered, rested, rested_by}

module _ {S V : Type 0} (A : Algebra V) where
  pub due_read : (p : PartData S V) (v b : ℕ) (busy same : Bool) → (network_of p.setup).tail b ≡ v → busy ≡ get_or p.busy b false → same ≡ same_label A ((state_in p).told b) ((state_in p).label v) →
      (not busy && not same) ≡ is_due A (network_of p.setup) v (state_in p) b
  unfolding is_due
  due_read p v b busy same t e s =
      (λ i. not (e i) && not (s i)) ∙ (λ i. idle_flag (get_or p.busy b false) i && not (same_label A ((state_in p).told b) ((state_in p).label v)))
      ∙ (λ i. sym (and_one (is_idle ((state_in p).token b))) i && not (same_label A ((state_in p).told b) ((state_in p).label v)))
      ∙ (λ i. (sym (eq-eqb ((network_of p.setup).tail b) v t) i && is_idle ((state_in p).token b)) && not (same_label A ((state_in p).told b) ((state_in p).label v)))
    where
      idle_flag : (t : Bool) → not t ≡ is_idle {V = V} (token_if t)
      idle_flag true = refl
      idle_flag false = refl

      and_one : (t : Bool) → (true && t) ≡ t
      and_one true = refl
      and_one false = refl

  -- a due arc is idle
  pub due_idle : (p : PartData S V) (v b : ℕ) → is_due A (network_of p.setup) v (state_in p) b ≡ true → get_or p.busy b false ≡ false
  unfolding is_due
  due_idle p v b h = go (get_or p.busy b false) (eqb ((network_of p.setup).tail b) v) (not (same_label A ((state_in p).told b) ((state_in p).label v))) h
    where
      go : (t s w : Bool) → ((s && is_idle {V = V} (token_if t)) && w) ≡ true → t ≡ false
      go false s w e = refl
      go true true true e = sym e
      go true true false e = sym e
      go true false true e = sym e
      go true false false e = sym e

  pub weight_told : (p old : PartData S V) (r : Rows V) (n : Room) (ns : List ℕ) (b w : ℕ) → p ≡ old → RepInvariant p r n ns
      → IsArc (network_of old.setup) b → b ≢ 0 → w ≡ (arc_of old.setup.diffusion.roads b).weight → w ≡ (network_of old.setup).weight b
  weight_told p old r n ns b w e D ar nz is =
      is ∙ ap (λ (u : PartData S V). (arc_of u.setup.diffusion.roads b).weight) (sym e)
      ∙ sym (weight-arc p.setup.diffusion.roads b (arc_in_graph p old r n ns b e D ar nz).0)
      ∙ ap (λ (u : PartData S V). (network_of u.setup).weight b) e

  -- the shard at the head of an arc, also after a value was offered
  pub shard_told : (p old q : PartData S V) (r : Rows V) (n : Room) (ns : List ℕ) (b w s : ℕ) (label : Option V) → p ≡ old → RepInvariant p r n ns
      → IsArc (network_of old.setup) b → b ≢ 0 → w ≡ (arc_of old.setup.diffusion.roads b).head → s ≡ shard_in p.setup.plan w →
      q ≡ record old { told = set old.told b label } → s ≡ place_in q.setup ((network_of q.setup).head b)
  shard_told p old q r n ns b w s label e D ar nz is h m =
      let T = head_told p old r n ns b w e D ar nz is in
      h ∙ shard_is p old r n ns w w e D (inr (T.1.0, refl)) ∙ ap (place_in old.setup) T.0 ∙ ap (λ (u : PartData S V). place_in u.setup ((network_of u.setup).head b)) (sym m)

  -- a due arc is offered the label
  pub offer_made : (p q new : PartData S V) (v b w : ℕ) (label x : Option V) → is_due A (network_of p.setup) v (state_in p) b ≡ true
      → label ≡ (state_in p).label v → w ≡ (network_of p.setup).weight b → x ≡ extend_label A label w →
      q ≡ record p { told = set p.told b label } → new ≡ with_message b x q → new ≡ offered A v b p
  offer_made p q new v b w label x due l y h e m =
      m ∙ (λ i. with_message b (h i) (e i)) ∙ (λ i. with_message b (extend_label A (l i) (y i)) (record p { told = set p.told b (l i) }))
      ∙ sym (cond-true (is_due A (network_of p.setup) v (state_in p) b)
      (with_message b (extend_label A ((state_in p).label v) ((network_of p.setup).weight b))
      (record p { told = set p.told b ((state_in p).label v) })) p due)

  -- a move of offered values leaves places, idle arcs and shards as they are
  pub tail_mine : (p q : PartData S V) (v j b : ℕ) (label : Option V) → q ≡ record p { told = set p.told b label } → IsPlace p v j → v ≢ 0
      → (network_of p.setup).tail b ≡ v → place_in q.setup ((network_of q.setup).tail b) ≡ q.shard
  tail_mine p q v j b label e P nz t = subst (λ (u : PartData S V). place_in u.setup ((network_of u.setup).tail b) ≡ u.shard) (sym e) (ap (place_in p.setup) t ∙ mine_at p v j P nz)

  pub still_idle : (p q : PartData S V) (v b : ℕ) (label : Option V) → q ≡ record p { told = set p.told b label }
      → is_due A (network_of p.setup) v (state_in p) b ≡ true → get_or q.busy b false ≡ false
  still_idle p q v b label e h = ap (λ (u : PartData S V). get_or u.busy b false) e ∙ due_idle p v b h

  pub rested_busy : (p : PartData S V) (v d e : ℕ) → (state_in p).engager v ≡ Some e
      → d ≡ busy_out (network_of p.setup) v (state_in p) (suc (length p.setup.diffusion.roads.arcs)) → d ≢ 0 → p ≡ rested A v p
  rested_busy p v d e h k nz =
      let f : out_idle A (network_of p.setup) v (state_in p) ≡ false = out_idle_counted A (network_of p.setup) v (state_in p) ∙ ap (λ m. eqb m 0) (sym k) ∙ ne_eqb d 0 nz in
      (λ i. rested_by v (sym h i) (sym f i) p)

  pub rested_then : (p mid new : PartData S V) (v d e : ℕ) → (state_in p).engager v ≡ Some e → d ≡ busy_out (network_of p.setup) v (state_in p) (suc (length p.setup.diffusion.roads.arcs)) → d ≡ 0 →
      mid ≡ record p { engagers = set p.engagers v None } → new ≡ with_item (SignalOn e) mid → new ≡ rested A v p
  rested_then p mid new v d e h k z m w =
      let f : out_idle A (network_of p.setup) v (state_in p) ≡ true = out_idle_counted A (network_of p.setup) v (state_in p) ∙ ap (λ n. eqb n 0) (sym k ∙ z) in
      w ∙ (λ i. with_item (SignalOn e) (m i)) ∙ (λ i. rested_by v (sym h i) (sym f i) p)
