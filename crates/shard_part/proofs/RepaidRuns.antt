-- An item is taken, and messages that it makes are repaid: these are items taken one after the other.
use Rattle.shard_part.proofs.Words.{◌≡◌, ◌≢◌, ℕ, zero, suc, ◌+◌, ◌<◌, ◌≤◌, Bool, cond, List, [], ◌∷◌, length, refl, sym, ap, ◌∙◌, subst, arith, Algebra, Lawful, Item, MessageOn, SignalOn, improves, SetupData, network_of, place_in, IsPlanned, outgoing, counted_on, top, BestFirst, PartData, state_in, IsArc, HandledItem, RepInvariant, IsPopped, IsPlace, offered_all, rested, with_taken, OwnIdleIsTold, arc_of, Room, Rows, engaged_or_answered, labelled, valued, all_busy, AreVoid, more, IsFit, Owes, OwesMany, RestsRepaid, TakenRepaid, HandledAtOnce, HandledRun}
use Rattle.std.proofs.Common.{◌*◌}
use Rattle.shard_part.specs.Repaying.{repaid}
use Rattle.shard_part.proofs.Graphs.{head_told}
use Rattle.shard_part.proofs.ItemIsTaken.{head_within, popped_taken}
use Rattle.shard_part.proofs.Moves.{formed}
use Rattle.shard_part.proofs.OffersArePumped.{counted_top}
use Rattle.shard_part.proofs.Pumping.{engaged_or_answered_same, improve_same, place_same, pumped_same}
use Rattle.shard_part.proofs.Repaying.{repayments, rests_not, waits, all_repaid}
use Rattle.shard_part.proofs.RepayingOffers.{owed_same}
use Rattle.shard_part.proofs.Showing.{AllLawful}
use Rattle.shard_part.proofs.ToldKept.{told_kept}

more_top : (k n : ℕ) → n ≤ top → more k n ≤ top
more_top zero n h = h
more_top (suc k) n h = counted_top (suc k) n

two_each : {V : Type 0} (ms : List (ℕ × V)) → length (repayments ms) ≡ 2 * length ms
two_each [] = refl
two_each (m ∷ ms) = let r = two_each ms in omega (arith, r)

module _ {S V : Type 0} (A : Algebra V) where
  valued_same : (a : ℕ) (x : V) (v : ℕ) (p : PartData S V) → ((valued A a x v p).setup ≡ p.setup) × ((valued A a x v p).shard ≡ p.shard)
  valued_same a x v p =
      let l = improve_same A x v p in
      let g = engaged_or_answered_same A a v ((state_in p).engager v) (labelled A x v p) in
      let o = pumped_same A (improves A x ((state_in p).label v)) v (outgoing (network_of p.setup) v) (engaged_or_answered a v ((state_in p).engager v) (labelled A x v p)) in
      (o.0 ∙ g.0 ∙ l.0, o.1 ∙ g.1 ∙ l.1)

-- the head of an arc, as a road tells it
pub head_low : {S V : Type 0} (p old : PartData S V) (r : Rows V) (n : Room) (ns : List ℕ) (b w : ℕ) → p ≡ old → RepInvariant p r n ns → IsArc (network_of old.setup) b → b ≢ 0
    → w ≡ (arc_of old.setup.diffusion.roads b).head → (w ≡ (network_of old.setup).head b) × (w ≤ old.setup.diffusion.roads.vertices)
head_low {S} {V} p old r n ns b w e D ar nz is =
    let t = (head_told p old r n ns b w e D ar nz is).0 in
    let h = head_within old (subst (λ (u : PartData S V). IsPlanned u.setup u.shard) e D.planned) b ar in (t, omega (arith, t, h))

module _ {S V : Type 0} (meaning : S → Algebra V) where
  -- a message, step by step, up to what it owes
  module _ (p p1 p2 p3 : PartData S V) (a v n : ℕ) (x : V) (t : Bool) (e1 : p1 ≡ labelled (meaning p.setup.diffusion.algebra) x v p) (e2 : p2 ≡ engaged_or_answered a v ((state_in p1).engager v) p1)
      (O : OwesMany (meaning p2.setup.diffusion.algebra) v n (cond t (offered_all (meaning p2.setup.diffusion.algebra) v (outgoing (network_of p2.setup) v) p2) p2) p3) where
    abbrev A : Algebra V
    A = meaning p.setup.diffusion.algebra

    second_same : (p2.setup ≡ p.setup) × (p2.shard ≡ p.shard)
    second_same = let l = improve_same A x v p in let g = engaged_or_answered_same A a v ((state_in p1).engager v) p1 in (
      ap (λ (u : PartData S V). u.setup) e2 ∙ g.0 ∙ ap (λ (u : PartData S V). u.setup) e1 ∙ l.0,
      ap (λ (u : PartData S V). u.shard) e2 ∙ g.1 ∙ ap (λ (u : PartData S V). u.shard) e1 ∙ l.1,
    )

    third_same : (p3.setup ≡ p.setup) × (p3.shard ≡ p.shard)
    third_same =
        let B = meaning p2.setup.diffusion.algebra in
        let o = owed_same B v n (cond t (offered_all B v (outgoing (network_of p2.setup) v) p2) p2) p3 O in
        let m = pumped_same B t v (outgoing (network_of p2.setup) v) p2 in (o.0 ∙ m.0 ∙ second_same.0, o.1 ∙ m.1 ∙ second_same.1)

    pub counted_place : (p4 : PartData S V) (j : ℕ) → p4 ≡ repaid n p3 → IsPlace p v j → IsPlace p4 v j
    counted_place p4 j e P = place_same A p p4 v j (ap (λ (u : PartData S V). u.setup) e ∙ third_same.0) (ap (λ (u : PartData S V). u.shard) e ∙ third_same.1) P

    pub message_rests : (p4 p5 : PartData S V) (w : ℕ) → v ≡ w → t ≡ improves A x ((state_in p).label v) → p4 ≡ repaid n p3 → p5 ≡ rested (meaning p4.setup.diffusion.algebra) v p4
        → RestsRepaid A w n (valued A a x w p) p5
    message_rests p4 p5 w vw et e4 e5 =
        let g1 : (state_in p1).engager v ≡ (state_in p).engager v = ap (λ (u : PartData S V). (state_in u).engager v) e1 ∙ ap (λ f. f v) (improve_same A x v p).2 in
        let q2 : p2 ≡ engaged_or_answered a v ((state_in p).engager v) (labelled A x v p) = e2 ∙ (λ i. engaged_or_answered a v (g1 i) (e1 i)) in
        let s2 = second_same.0 in
        let offers : cond t (offered_all (meaning p2.setup.diffusion.algebra) v (outgoing (network_of p2.setup) v) p2) p2 ≡ valued A a x v p =
        (λ i. cond (et i) (offered_all (meaning (s2 i).diffusion.algebra) v (outgoing (network_of (s2 i)) v) (q2 i)) (q2 i)) in
        let s4 : p4.setup ≡ p.setup = ap (λ (u : PartData S V). u.setup) e4 ∙ third_same.0 in
        subst (λ z. RestsRepaid A z n (valued A a x z p) p5) vw (
          p3,
          subst (λ u. OwesMany A v n u p3) offers
              (subst (λ (s : SetupData S). OwesMany (meaning s.diffusion.algebra) v n (cond t (offered_all (meaning p2.setup.diffusion.algebra) v (outgoing (network_of p2.setup) v) p2) p2) p3) s2 O),
          e5 ∙ (λ i. rested (meaning (s4 i).diffusion.algebra) v (e4 i)),
        )

  -- an item with what was repaid of it
  module _ (L : AllLawful meaning) (p : PartData S V) (P : IsPlanned p.setup p.shard) (F : IsFit p) (T : OwnIdleIsTold p) (zs : List (Item V)) (q : PartData S V) where
    abbrev A1 : Algebra V
    A1 = meaning p.setup.diffusion.algebra

    abbrev m : PartData S V
    m = record p { queue = zs }

    alone : (i : Item V) (k : ℕ) → k ≡ 0 → IsPopped A1 p m i → q ≡ with_taken A1 i m → HandledRun meaning p (1 + 2 * k) q × OwnIdleIsTold q
    alone i k z O e = let H = popped_taken A1 (L p.setup.diffusion.algebra) p m q i P F T O e in (
      (q, (i, H), ([], omega (arith, z), refl)),
      told_kept A1 (L p.setup.diffusion.algebra) p i q (formed p p.shard P) T H,
    )

    -- with some of its messages
    module _ (a : ℕ) (x : V) (k : ℕ) (pop : IsPopped A1 p m (MessageOn a x)) (B : 0 < k → p.setup.order ≡ BestFirst) (n : ℕ × V) (ms : List (ℕ × V)) (len : length (n ∷ ms) ≡ k) (stored : PartData S V)
        (O : Owes A1 ((network_of p.setup).head a) (n ∷ ms) (valued A1 a x ((network_of p.setup).head a) (record m { delivered = counted_on 1 p.delivered })) stored)
        (e : q ≡ rested A1 ((network_of p.setup).head a) (repaid k stored)) where
      abbrev v : ℕ
      v = (network_of p.setup).head a

      abbrev u : PartData S V
      u = valued A1 a x v (record m { delivered = counted_on 1 p.delivered })

      abbrev o : PartData S V
      o = record stored { sent = more (suc (length ms)) stored.sent }

      abbrev owed : PartData S V
      owed = record o { busy = all_busy (n ∷ ms) stored.busy; queue = u.queue }

      su : stored.setup ≡ p.setup
      su = ap (λ (w : PartData S V). w.setup) (sym O.rest) ∙ (valued_same A1 a x v (record m { delivered = counted_on 1 p.delivered })).0

      sh : stored.shard ≡ p.shard
      sh = ap (λ (w : PartData S V). w.shard) (sym O.rest) ∙ (valued_same A1 a x v (record m { delivered = counted_on 1 p.delivered })).1

      abbrev A2 : Algebra V
      A2 = meaning stored.setup.diffusion.algebra

      one : A1 ≡ A2
      one = ap (λ (t : SetupData S). meaning t.diffusion.algebra) (sym su)

      planned : IsPlanned stored.setup stored.shard
      planned = subst (λ (t : SetupData S). IsPlanned t stored.shard) (sym su) (subst (λ s. IsPlanned p.setup s) (sym sh) P)

      order : stored.setup.order ≡ BestFirst
      order = ap (λ (t : SetupData S). t.order) su ∙ B (omega (arith, len))

      real : v ≢ 0
      real = pop.arc.0

      mine : place_in stored.setup v ≡ stored.shard
      mine = ap (λ (t : SetupData S). place_in t v) su ∙ pop.here ∙ sym sh

      fit : IsFit o
      fit = record { labels = O.fit.labels; engagers = O.fit.engagers; busy = O.fit.busy; told = O.fit.told; sent = more_top (suc (length ms)) stored.sent O.fit.sent; delivered = O.fit.delivered; signalled = O.fit.signalled; accepted = O.fit.accepted }

      void : AreVoid A2 (network_of stored.setup) (place_in stored.setup) stored.shard (state_in stored) v (n ∷ ms)
      void = subst (λ B. AreVoid B (network_of stored.setup) (place_in stored.setup) stored.shard (state_in stored) v (n ∷ ms)) one O.void

      lawful : Lawful A2
      lawful = L stored.setup.diffusion.algebra

      stays : rested A1 v u ≡ u
      stays = subst (λ w. rested A1 v w ≡ w) (sym O.rest) (subst (λ B. rested B v owed ≡ owed) (sym one)
          (rests_not A2 v owed (waits meaning o v lawful planned order real mine fit n ms u.queue stored.delivered stored.signalled stored.accepted void)))

      first : HandledItem meaning p (MessageOn a x) u
      first = subst (HandledItem meaning p (MessageOn a x)) stays (popped_taken A1 (L p.setup.diffusion.algebra) p m (rested A1 v u) (MessageOn a x) P F T pop refl)

      told : OwnIdleIsTold owed
      told = subst OwnIdleIsTold O.rest (told_kept A1 (L p.setup.diffusion.algebra) p (MessageOn a x) u (formed p p.shard P) T first)

      ends : rested A2 v (repaid (suc (length ms)) stored) ≡ q
      ends = (λ i. rested (sym one i) v (repaid (len i) stored)) ∙ sym e

      with_others : HandledRun meaning p (1 + 2 * k) q × OwnIdleIsTold q
      with_others =
          let R = all_repaid meaning o v lawful planned order real mine fit n ms u.queue stored.delivered stored.signalled stored.accepted O.fit.delivered O.fit.signalled O.fit.accepted void O.items told in (
            (
              u,
              (MessageOn a x, first),
              (
                repayments (n ∷ ms),
                (let t = two_each (n ∷ ms) in omega (arith, t, len)),
                subst (λ w. HandledAtOnce meaning w (repayments (n ∷ ms)) q) (sym O.rest) (subst (HandledAtOnce meaning owed (repayments (n ∷ ms))) ends R.0),
              ),
            ),
            subst OwnIdleIsTold ends R.1,
          )

    run : (i : Item V) (k : ℕ) → IsPopped A1 p m i → (0 < k → p.setup.order ≡ BestFirst) → TakenRepaid A1 i k m q → HandledRun meaning p (1 + 2 * k) q × OwnIdleIsTold q
    run (SignalOn a) k O B (z, e) = alone (SignalOn a) k z O e
    run (MessageOn a x) k O B (stored, ([], len, W), e) = alone (MessageOn a x) k (sym len) O
        (e ∙ ap (λ j. rested A1 ((network_of p.setup).head a) (repaid j stored)) (sym len)
        ∙ ap (rested A1 ((network_of p.setup).head a)) (sym (W.rest ∙ ap (λ xs. record stored { queue = xs }) (W.none refl))))
    run (MessageOn a x) k O B (stored, (n ∷ ms, len, W), e) = with_others a x k O B n ms len stored W e

  -- so it is with what was popped from a part
  pub popped_run : AllLawful meaning → (p m q : PartData S V) (i : Item V) (k : ℕ) → IsPlanned p.setup p.shard → IsFit p → OwnIdleIsTold p → IsPopped (meaning p.setup.diffusion.algebra) p m i
      → (0 < k → p.setup.order ≡ BestFirst) → TakenRepaid (meaning m.setup.diffusion.algebra) i k m q → HandledRun meaning p (1 + 2 * k) q × OwnIdleIsTold q
  popped_run L p w q i k P F T O B R = run L p P F T w.queue q i k (subst (λ u. IsPopped (meaning p.setup.diffusion.algebra) p u i) O.same O) B
      (subst (λ (u : PartData S V). TakenRepaid (meaning u.setup.diffusion.algebra) i k u q) O.same R)
