-- An outbox is exchanged, a batch joins the queue, and what is read of both.
use Rattle.shard_part.proofs.Words.{◌≡◌, ◌≢◌, ℕ, zero, suc, ◌+◌, ◌-◌, ◌<◌, ◌≤◌, Bool, true, false, not, ◌&&◌, eqb, Option, Some, None, List, [], ◌∷◌, ◌++◌, length, set, get_or, map, ◌⊎◌, inl, inr, refl, sym, ap, ◌∙◌, subst, arith, eqb-true, eq-eqb, ne_eqb, length-set, get_or-set_other, IsTrue, ◌↔◌, cases_eq, false≢true, length-map, map-set, Room, Line, Algebra, IsGraph, HasArc, arc_of, Item, MessageOn, SignalOn, is_idle, item_arc, one_if, tail-arc, head-arc, PartData, state_in, token_if, vertex_of, maker_of, IsArc, network_of, place_in, LocalInvariant, names, engages, idles, queue_bound, outbox_bound, counted, is, All, Rows, RepInvariant, IsArcRow, has_ended, total_append, arcs_first}
use Rattle.shard_part.specs.Exchange.{Fits, FitsAlone, MayEngage, Awaits}
use Rattle.shard_part.proofs.Routed.{outs_none}
use Rattle.shard_part.proofs.Showing.{all_append}
use Rattle.shard_part.proofs.RingsSuffice.{sound_fits}
use Rattle.shard_part.proofs.Moves.{formed}
use Rattle.shard_part.proofs.Rings.{map_read, map_kept, with_channels}

module _ {S V : Type 0} where
  -- the queue is within its capacity
  pub queue_within : (A : Algebra V) (p : PartData S V) (r : Rows V) (n : Room) (ns : List ℕ) → RepInvariant p r n ns → length p.queue ≤ n.capacity
  queue_within A p r n ns D = let f = sound_fits A (network_of p.setup) (place_in p.setup) (formed p p.shard D.planned) p D.sound in let q = D.roomy.queue in omega (arith, f, q)

  pub room_is : (A : Algebra V) (p old : PartData S V) (r : Rows V) (n : Room) (ns : List ℕ) (k l : ℕ) → p ≡ old → RepInvariant p r n ns → k ≡ n.capacity
      → l ≡ length p.queue → k - l + length old.queue ≡ queue_bound (network_of old.setup) (place_in old.setup) old.shard
  room_is A p old r n ns k l e D h q =
      let w = queue_within A p r n ns D in
      let m : k - l + length p.queue ≡ queue_bound (network_of p.setup) (place_in p.setup) p.shard = (let c = D.roomy.queue in omega (arith, w, c, h, q)) in
      subst (λ (u : PartData S V). k - l + length u.queue ≡ queue_bound (network_of u.setup) (place_in u.setup) u.shard) e m

  -- the environment's arc has the first row
  pub entry_row : (p old : PartData S V) (r : Rows V) (n : Room) (ns : List ℕ) → p ≡ old → RepInvariant p r n ns → IsArcRow old 0 0
  entry_row p old r n ns e D = let f = arcs_first p.setup p.shard D.planned in subst (λ (u : PartData S V). IsArcRow u 0 0) e (record {
    inside = (let l = ap length f in omega (arith, l));
    arc = ap (λ xs. get_or xs 0 0) f;
  })

  here_is : (p old : PartData S V) (x : ℕ) (e : Bool) → p ≡ old → x ≡ place_in old.setup 0 → e ≡ eqb x p.shard → eqb (place_in old.setup 0) old.shard ≡ e
  here_is p old x e q h k = (λ i. eqb (sym h i) (sym q i).shard) ∙ sym k

  pub ended_then : (p old : PartData S V) (x : ℕ) (e y : Bool) → p ≡ old → x ≡ place_in old.setup 0 → e ≡ eqb x p.shard → e ≡ true → y ≡ get_or old.busy 0 false → not y ≡ has_ended old
  ended_then p old x e y q h k t b = ap not b ∙ sym (ap (λ z. z && not (get_or old.busy 0 false)) (here_is p old x e q h k ∙ t))

  pub ended_else : (p old : PartData S V) (x : ℕ) (e : Bool) → p ≡ old → x ≡ place_in old.setup 0 → e ≡ eqb x p.shard → e ≡ false → e ≡ has_ended old
  ended_else p old x e q h k f = f ∙ sym (ap (λ z. z && not (get_or old.busy 0 false)) (here_is p old x e q h k ∙ f))

  -- an outbox is emptied
  emptied_sound : (p : PartData S V) (to : ℕ) → LocalInvariant (network_of p.setup) (place_in p.setup) p → LocalInvariant (network_of p.setup) (place_in p.setup) (record p { outs = set p.outs to [] })
  emptied_sound p to D = record {
    once = λ b. (let o = D.once b in let w = outs_none (λ _ j. is b (item_arc j)) 0 to p.outs in omega (arith, o, w));
    leads = D.leads;
    here = D.here;
    gone = λ k. elim (cases_eq k to) [
      | inl e ↦ subst (All (λ i. (place_in p.setup (vertex_of (network_of p.setup) i) ≡ k)
          × (place_in p.setup (maker_of (network_of p.setup) i) ≡ p.shard) × IsArc (network_of p.setup) (item_arc i)))
          (sym (emptied p.outs to k e)) tt
      | inr ne ↦ subst (All (λ i. (place_in p.setup (vertex_of (network_of p.setup) i) ≡ k)
          × (place_in p.setup (maker_of (network_of p.setup) i) ≡ p.shard) × IsArc (network_of p.setup) (item_arc i)))
          (sym (get_or-set_other p.outs to k [] [] ne)) (D.gone k)
    ];
    wide = λ v. (let w = D.wide v in let l = length-set p.outs to [] in omega (arith, w, l));
  }
    where
      emptied : (os : List (List (Item V))) (to k : ℕ) → k ≡ to → get_or (set os to []) k [] ≡ []
      emptied os to k e = ap (λ j. get_or (set os to []) j []) e ∙ go os to
        where
          go : (os : List (List (Item V))) (to : ℕ) → get_or (set os to []) to [] ≡ []
          go [] to = refl
          go (o ∷ os) zero = refl
          go (o ∷ os) (suc to) = go os to

  pub swap_leaves : {X : Type 0} (its : X → List (Item V)) (caps : X → ℕ) (rs : List X) (p old : PartData S V) (r : Rows V) (n : Room) (to : ℕ) (x new : X)
      → p ≡ old → RepInvariant p r n (map caps rs) → p.outs ≡ map its rs →
      to ≢ old.shard → to < old.setup.plan.shards → x ≡ get_or rs to x → its new ≡ [] → caps new ≡ outbox_bound (network_of old.setup) (place_in old.setup) old.shard to →
      RepInvariant (record p { outs = map its (set rs to new) }) r n (map caps (set rs to new))
      × (record p { outs = map its (set rs to new) } ≡ record old { outs = set old.outs to [] }) × (its x ≡ get_or old.outs to [])
      × (caps x ≡ caps new)
  swap_leaves its caps rs p old r n to x new e D o ne lt read empty cap =
      let many : to < p.setup.plan.shards = subst (λ (u : PartData S V). to < u.setup.plan.shards) (sym e) lt in
      let other : to ≢ p.shard = subst (λ (u : PartData S V). to ≢ u.shard) (sym e) ne in
      let inside : to < length rs = (let a = D.roomy.boxes in let b = ap length o in let c = length-map rs its in omega (arith, a, b, c, many)) in
      let outs : map its (set rs to new) ≡ set p.outs to [] = map-set its rs to new ∙ (λ i. set (sym o i) to (empty i)) in
      let was : caps x ≡ caps new = sym (map_read caps rs to 0 x inside read) ∙ D.roomy.outs to other many
      ∙ ap (λ (u : PartData S V). outbox_bound (network_of u.setup) (place_in u.setup) u.shard to) e ∙ sym cap in
      let ns : map caps (set rs to new) ≡ map caps rs = map_kept caps rs to x new inside read (sym was) in (
        subst (λ (ys : List (List (Item V))). RepInvariant (record p { outs = ys }) r n (map caps (set rs to new))) (sym outs)
            (subst (λ (ks : List ℕ). RepInvariant (record p { outs = set p.outs to [] }) r n ks) (sym ns)
            (with_channels p r n (map caps rs) p.queue (set p.outs to []) D (length-set p.outs to []) (emptied_sound p to D.sound))),
        (λ i. record p { outs = outs i }) ∙ ap (λ (u : PartData S V). record u { outs = set u.outs to [] }) e,
        sym (map_read its rs to [] x inside read) ∙ ap (λ ys. get_or ys to []) (sym o) ∙ ap (λ (u : PartData S V). get_or u.outs to []) e,
        was,
      )

  module _ (A : Algebra V) where
    -- on the arc of an item that fits nothing else is here
    fits_clear : (p : PartData S V) (i : Item V) (b : ℕ) → FitsAlone A p i → b ≡ item_arc i
        → (engages (network_of p.setup) (place_in p.setup) p.shard (state_in p) b ≡ 0)
        × (idles (network_of p.setup) (place_in p.setup) p.shard (state_in p) b ≡ 0)
    fits_clear p (MessageOn a x) b F e = (
      ap (engages (network_of p.setup) (place_in p.setup) p.shard (state_in p)) e
          ∙ not_named (eqb (place_in p.setup ((network_of p.setup).head a)) p.shard) ((state_in p).engager ((network_of p.setup).head a)) F.2.2,
      ap (idles (network_of p.setup) (place_in p.setup) p.shard (state_in p)) e
          ∙ ap (λ z. one_if (z && is_idle ((state_in p).token a))) (ne_eqb (place_in p.setup ((network_of p.setup).tail a)) p.shard F.2.1),
    )
      where
        not_named : (z : Bool) (o : Option ℕ) → o ≢ Some a → one_if (z && names o a) ≡ 0
        not_named true None n = refl
        not_named false None n = refl
        not_named false (Some e) n = refl
        not_named true (Some e) n = ap one_if (ne_eqb a e (λ q. n (ap Some (sym q))))
    fits_clear p (SignalOn a) b F e = (
      ap (engages (network_of p.setup) (place_in p.setup) p.shard (state_in p)) e
          ∙ ap (λ z. one_if (z && names ((state_in p).engager ((network_of p.setup).head a)) a))
          (ne_eqb (place_in p.setup ((network_of p.setup).head a)) p.shard F.1.1),
      ap (idles (network_of p.setup) (place_in p.setup) p.shard (state_in p)) e
          ∙ ap (λ z. one_if (eqb (place_in p.setup ((network_of p.setup).tail a)) p.shard && is_idle (token_if {V = V} z))) F.1.2
          ∙ none (eqb (place_in p.setup ((network_of p.setup).tail a)) p.shard),
    )
      where
        none : (z : Bool) → one_if (z && false) ≡ 0
        none true = refl
        none false = refl

    batch_clear : (p : PartData S V) (batch : List (Item V)) (b : ℕ) → All (FitsAlone A p) batch → (counted b batch ≡ 0)
        ⊎ ((engages (network_of p.setup) (place_in p.setup) p.shard (state_in p) b ≡ 0)
        × (idles (network_of p.setup) (place_in p.setup) p.shard (state_in p) b ≡ 0))
    batch_clear p [] b F = inl refl
    batch_clear p (i ∷ is') b F = elim (cases_eq b (item_arc i)) [
      | inl e ↦ inr (fits_clear p i b F.0 e)
      | inr n ↦ elim (batch_clear p is' b F.1) [
        | inl z ↦ inl (let q = ap one_if (ne_eqb b (item_arc i) n) in omega (arith, z, q))
        | inr z ↦ inr z
      ]
    ]

    real_arcs : (p : PartData S V) → IsGraph p.setup.diffusion.roads → (batch : List (Item V)) → All (FitsAlone A p) batch
        → All (λ i. (place_in p.setup (vertex_of (network_of p.setup) i) ≡ p.shard) × IsArc (network_of p.setup) (item_arc i)) batch
    real_arcs p R [] F = tt
    real_arcs p R (i ∷ is') F = (one i F.0, real_arcs p R is' F.1)
      where
        is_arc : (a : ℕ) → HasArc p.setup.diffusion.roads a → IsArc (network_of p.setup) a
        is_arc a h = (
          (λ e. let j = (R.ends a h).1.0 in let q = head-arc p.setup.diffusion.roads p.setup.diffusion.source a h.0 in
              omega (arith, j, q, e)),
          (λ _ e. let j = (R.ends a h).0.0 in let q = tail-arc p.setup.diffusion.roads a h.0 in omega (arith, j, q, e)),
        )

        one : (i : Item V) → FitsAlone A p i → (place_in p.setup (vertex_of (network_of p.setup) i) ≡ p.shard) × IsArc (network_of p.setup) (item_arc i)
        one (MessageOn a x) F = (F.2.0, is_arc a F.1)
        one (SignalOn a) F = (F.1.0, is_arc a F.0)

    -- a batch that fits joins the queue
    received_sound : (p : PartData S V) (batch : List (Item V)) → IsGraph p.setup.diffusion.roads
        → LocalInvariant (network_of p.setup) (place_in p.setup) p → Fits A p batch
        → LocalInvariant (network_of p.setup) (place_in p.setup) (record p { queue = p.queue ++ batch })
    received_sound p batch R D F = record {
      once = λ b. (let o = D.once b in let a = F.apart b in let t = total_append (λ j. is b (item_arc j)) p.queue batch in
          elim (batch_clear p batch b F.each) [ inl z ↦ (omega (arith, o, a, t, z)) | inr z ↦ (let x = z.0 in let y = z.1 in omega (arith, o, a, t, x, y)) ]);
      leads = D.leads;
      here = all_append (λ i. (place_in p.setup (vertex_of (network_of p.setup) i) ≡ p.shard) × IsArc (network_of p.setup) (item_arc i)) p.queue batch D.here (real_arcs p R batch F.each);
      gone = D.gone;
      wide = D.wide;
    }

    pub receive_leaves : (p old : PartData S V) (r : Rows V) (n : Room) (ns : List ℕ) (batch : List (Item V)) → p ≡ old → RepInvariant p r n ns
        → length old.queue + length batch ≤ queue_bound (network_of old.setup) (place_in old.setup) old.shard → Fits A old batch →
        (length p.queue + length batch ≤ n.capacity) × ((new : Line (Item V)) → new.items ≡ p.queue ++ batch → new.room ≡ n
        → RepInvariant (record p { queue = new.items }) r new.room ns
        × (record p { queue = new.items } ≡ record old { queue = old.queue ++ batch }))
    receive_leaves p old r n ns batch e D l F =
        let l2 : length p.queue + length batch ≤ queue_bound (network_of p.setup) (place_in p.setup) p.shard = subst
        (λ (u : PartData S V). length u.queue + length batch ≤ queue_bound (network_of u.setup) (place_in u.setup) u.shard) (sym e) l in
        let F2 : Fits A p batch = subst (λ (u : PartData S V). Fits A u batch) (sym e) F in (
          (let q = D.roomy.queue in omega (arith, q, l2)),
          λ new w k. (
            subst (λ m. RepInvariant (record p { queue = new.items }) r m ns) (sym k)
                (subst (λ xs. RepInvariant (record p { queue = xs }) r n ns) (sym w) (with_channels p r n ns (p.queue ++ batch) p.outs D refl (received_sound p batch D.planned.roads D.sound F2))),
            ap (λ xs. record p { queue = xs }) w ∙ ap (λ (u : PartData S V). record u { queue = u.queue ++ batch }) e,
          ),
        )

-- which arcs may bring an item
module _ {S V : Type 0} (p old : PartData S V) (r : Rows V) (n : Room) (ns : List ℕ) (a : ℕ) (e : p ≡ old) (D : RepInvariant p r n ns) (h : HasArc old.setup.diffusion.roads a) where
  ends_at : HasArc p.setup.diffusion.roads a
  ends_at = subst (λ (u : PartData S V). HasArc u.setup.diffusion.roads a) (sym e) h

  -- its ends are vertices
  pub ends_within : ((arc_of p.setup.diffusion.roads a).tail ≤ old.setup.diffusion.roads.vertices)
      × ((arc_of p.setup.diffusion.roads a).head ≤ old.setup.diffusion.roads.vertices) × (1 ≤ (arc_of p.setup.diffusion.roads a).tail)
      × (1 ≤ (arc_of p.setup.diffusion.roads a).head)
  ends_within = let j = D.planned.roads.ends a ends_at in (
    subst (λ (u : PartData S V). (arc_of p.setup.diffusion.roads a).tail ≤ u.setup.diffusion.roads.vertices) e j.0.1,
    subst (λ (u : PartData S V). (arc_of p.setup.diffusion.roads a).head ≤ u.setup.diffusion.roads.vertices) e j.1.1,
    j.0.0,
    j.1.0,
  )

  pub tail_is : (arc_of p.setup.diffusion.roads a).tail ≡ (network_of old.setup).tail a
  tail_is = sym (tail-arc p.setup.diffusion.roads a ends_at.0) ∙ ap (λ (u : PartData S V). (network_of u.setup).tail a) e

  pub head_is : (arc_of p.setup.diffusion.roads a).head ≡ (network_of old.setup).head a
  head_is = sym (head-arc p.setup.diffusion.roads p.setup.diffusion.source a ends_at.0) ∙ ap (λ (u : PartData S V). (network_of u.setup).head a) e

  pub arc_is : IsArc (network_of old.setup) a
  arc_is = let w = ends_within in ((λ z. let q = head_is in let l = w.3 in omega (arith, z, q, l)), (λ _ z. let q = tail_is in let l = w.2 in omega (arith, z, q, l)))

module _ {S V : Type 0} (p : PartData S V) (a : ℕ) where
  abbrev Here : ℕ → ℕ → Type 0
  Here to from = (place_in p.setup to ≡ p.shard) × (place_in p.setup from ≢ p.shard)

  pub engage_then : (h t : ℕ) (x y : Bool) → h ≡ (network_of p.setup).head a → t ≡ (network_of p.setup).tail a → (IsTrue x ↔ Here h t) → x ≡ true
      → y ≡ names ((state_in p).engager h) a → IsTrue (not y) ↔ MayEngage p a
  engage_then h t x y eh et l k q =
      let H : Here ((network_of p.setup).head a) ((network_of p.setup).tail a) = subst (λ u. Here u ((network_of p.setup).tail a)) eh (subst (Here h) et (l.0 k)) in
      let q2 : y ≡ names ((state_in p).engager ((network_of p.setup).head a)) a = q ∙ ap (λ u. names ((state_in p).engager u) a) eh in (
        (λ n. (H.0, H.1, unnamed ((state_in p).engager ((network_of p.setup).head a)) y q2 n)),
        (λ m. named ((state_in p).engager ((network_of p.setup).head a)) y q2 m.2),
      )
    where
      unnamed : (o : Option ℕ) (y : Bool) → y ≡ names o a → not y ≡ true → o ≢ Some a
      unnamed o true q n z = absurd (false≢true n)
      unnamed o false q n z = absurd (false≢true (q ∙ ap (λ u. names u a) z ∙ eq-eqb a a refl))

      named : (o : Option ℕ) (y : Bool) → y ≡ names o a → o ≢ Some a → not y ≡ true
      named o false q n = refl
      named None true q n = absurd (false≢true (sym q))
      named (Some e) true q n = absurd (n (ap Some (sym (eqb-true a e (sym q)))))

  pub engage_else : (h t : ℕ) (x : Bool) → h ≡ (network_of p.setup).head a → t ≡ (network_of p.setup).tail a → (IsTrue x ↔ Here h t) → x ≡ false → IsTrue x ↔ MayEngage p a
  engage_else h t x eh et l k = (
    (λ y. absurd (false≢true (sym k ∙ y))),
    (λ m. l.1 (subst (λ u. Here u t) (sym eh) (subst (Here ((network_of p.setup).head a)) (sym et) (m.0, m.1)))),
  )

  pub await_then : (h t : ℕ) (x y : Bool) → h ≡ (network_of p.setup).head a → t ≡ (network_of p.setup).tail a → (IsTrue x ↔ Here t h) → x ≡ true → y ≡ get_or p.busy a false → IsTrue y ↔ Awaits p a
  await_then h t x y eh et l k q =
      let H : Here ((network_of p.setup).tail a) ((network_of p.setup).head a) = subst (λ u. Here u ((network_of p.setup).head a)) et (subst (Here t) eh (l.0 k)) in (
        (λ n. (H.0, H.1, sym q ∙ n)),
        (λ m. q ∙ m.2),
      )

  pub await_else : (h t : ℕ) (x : Bool) → h ≡ (network_of p.setup).head a → t ≡ (network_of p.setup).tail a → (IsTrue x ↔ Here t h) → x ≡ false → IsTrue x ↔ Awaits p a
  await_else h t x eh et l k = (
    (λ y. absurd (false≢true (sym k ∙ y))),
    (λ m. l.1 (subst (λ u. Here u h) (sym et) (subst (Here ((network_of p.setup).tail a)) (sym eh) (m.0, m.1)))),
  )
