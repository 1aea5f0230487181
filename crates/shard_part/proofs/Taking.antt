-- How a part finds the item whose turn it is: none that is ranked goes before the newest has been
-- looked at.
use Rattle.shard_part.proofs.Words.{◌≡◌, ◌⊎◌, ℕ, ◌+◌, ◌-◌, ◌<◌, ◌≤◌, Option, Some, None, List, [], ◌∷◌, ◌++◌, length, get_or, refl, sym, ap, ◌∙◌, subst, arith, inl, inr, Contains, Bool, length-append, IfSome, IfNone, IsPermutation, IsStrictlyIncreasing, Algebra, Item, MessageOn, SignalOn, improves, item_arc, Rows, network_of, place_in, BestFirst, PartData, state_in, vertex_of, IsArc, GoesAtOnce}
use Rattle.std.proofs.lemmas.List.Sorted.{IsPermutation-to_front, IsPermutation-trans}
use Rattle.shard_store.specs.Queue.{Room, Line, IsNewest, IsBestMessage}
use Rattle.shard_store.proofs.Ranking.{newest_same}
use Rattle.shard_store.proofs.Totals.{length_permutation}
use Rattle.shard_part.specs.Moves.{RepInvariant, IsPopped, IsSettledIn}
use Rattle.shard_part.proofs.Graphs.{arc_within, own_rising, place_leaves}
use Rattle.shard_part.proofs.ItemIsTaken.{head_within, tail_within}
use Rattle.shard_part.proofs.Moves.{label_read}
use Rattle.shard_part.proofs.Rings.{all_permuted, best_turn, turn_best, permuted, popped}

module _ {S V : Type 0} (A : Algebra V) where
  -- what the rows say of an item, the part does
  pub settled_once : (p : PartData S V) (r : Rows V) (n : Room) (ns : List ℕ) (i : Item V) → RepInvariant p r n ns → IsSettledIn A (network_of p.setup) r.own r.labels i → GoesAtOnce A (network_of p.setup) (state_in p) i
  settled_once p r n ns (MessageOn a x) D s =
      let P = place_leaves p p r n ns r.own ((network_of p.setup).head a) s.0 refl D refl s.1 s.2 in
      sym (ap (improves A x) (label_read p p r n ns ((network_of p.setup).head a) s.0 (get_or r.labels s.0 None) refl D P refl)) ∙ s.3
  settled_once p r n ns (SignalOn a) D s = tt

module _ {S V : Type 0} (p : PartData S V) (r : Rows V) (n : Room) (ns : List ℕ) (D : RepInvariant p r n ns) where
  vertex_within : (i : Item V) → IsArc (network_of p.setup) (item_arc i) → vertex_of (network_of p.setup) i ≤ p.setup.diffusion.roads.vertices
  vertex_within (MessageOn a x) h = head_within p D.planned a h
  vertex_within (SignalOn a) h = tail_within p D.planned a h

  module _ (l : Line (Item V)) (i : Item V) (q : IsPermutation p.queue l.items) (w : IsNewest l i) where
    newest_first : IsPermutation p.queue (i ∷ w.0)
    newest_first = IsPermutation-trans _ _ _ (subst (IsPermutation p.queue) w.1 q) (IsPermutation-to_front w.0 i)

    newest_here : (place_in p.setup (vertex_of (network_of p.setup) i) ≡ p.shard) × IsArc (network_of p.setup) (item_arc i)
    newest_here = (all_permuted (λ j. (place_in p.setup (vertex_of (network_of p.setup) j) ≡ p.shard) × IsArc (network_of p.setup) (item_arc j)) p.queue (i ∷ w.0) newest_first D.sound.here).0

    -- the vertex of the newest item is among those of the part
    pub newest_found : IsStrictlyIncreasing r.own × Contains r.own (vertex_of (network_of p.setup) i)
    newest_found = own_rising p p r n ns r.own (vertex_of (network_of p.setup) i) refl D refl (vertex_within i newest_here.1) (λ _. newest_here.0)

    pub newest_arc : item_arc i ≤ length p.setup.diffusion.roads.arcs
    newest_arc = arc_within p p (item_arc i) refl newest_here.1

module _ {X : Type 0} where
  none_left : (xs : List X) → length xs ≡ 0 → xs ≡ []
  none_left [] e = refl
  none_left (x ∷ xs) e = absurd (omega (arith, e))

  -- one more is ranked
  pub ranked_fewer : (l m : Line X) (i : X) → IsNewest l i → IsPermutation l.items m.items → m.ranked ≡ l.ranked + 1 → length m.items - m.ranked < length l.items - l.ranked
  ranked_fewer l m i w q e =
      let a = length_permutation l.items m.items q in let b = ap length w.1 in let c = length-append w.0 (i ∷ []) in let d = w.2 in omega (arith, a, b, c, d, e)

  -- a newest item is there to be taken
  pub newest_given : (l : Line X) (i : X) (o : Option X) (P : Type 0) → IsNewest l i → IfNone o (l.ranked ≡ length l.items) → IfNone o P
  newest_given l i (Some x) P w e = tt
  newest_given l i None P w e = absurd (let b = ap length w.1 in let c = length-append w.0 (i ∷ []) in let d = w.2 in omega (arith, b, c, d, e))

  -- of all that wait, one leaves from the end
  pub end_leaves : (xs zs : List X) (o : Option X) → IfSome o (λ i. xs ≡ zs ++ i ∷ []) → IfSome o (λ i. IsPermutation xs (i ∷ zs))
  end_leaves xs zs None h = tt
  end_leaves xs zs (Some i) h = subst (λ ys. IsPermutation ys (i ∷ zs)) (sym h) (IsPermutation-to_front zs i)

-- what a part that found nothing is
pub none_taken : {S V : Type 0} (p old : PartData S V) (xs : List (Item V)) (o : Option (Item V)) → p ≡ old → IfNone o ((p.queue ≡ []) × (xs ≡ [])) → o ≡ None → (old.queue ≡ []) × (record p { queue = xs } ≡ old)
none_taken p old xs None e h n = (ap (λ u. u.queue) (sym e) ∙ h.0, ap (λ ys. record p { queue = ys }) (h.1 ∙ sym h.0) ∙ e)
none_taken p old xs (Some i) e h n = absurd (cc)

-- the part p is old with its items in another order
module _ {S V : Type 0} (meaning : S → Algebra V) (p old : PartData S V) (r : Rows V) (n : Room) (ns : List ℕ) (D : RepInvariant p r n ns)
    (e : p ≡ record old { queue = p.queue }) (q : IsPermutation old.queue p.queue) where
  -- more of them in another order
  pub more_reordered : (l new : Line (Item V)) → l.items ≡ p.queue → IsPermutation l.items new.items → new.room ≡ n →
      (record p { queue = new.items } ≡ record old { queue = new.items }) × IsPermutation old.queue new.items × RepInvariant (record p { queue = new.items }) r new.room ns
  more_reordered l new f h k =
      let m = subst (λ xs. IsPermutation xs new.items) f h in (
        ap (λ (u : PartData S V). record u { queue = new.items }) e,
        IsPermutation-trans _ _ _ q m,
        subst (λ x. RepInvariant (record p { queue = new.items }) r x ns) (sym k) (permuted p r n ns new.items D m),
      )

  -- nothing waits
  pub none_waits : (xs : List (Item V)) (o : Option (Item V)) → IfNone o ((p.queue ≡ []) × (xs ≡ [])) → o ≡ None → (old.queue ≡ []) × (record p { queue = xs } ≡ old)
  none_waits xs (Some i) h k = absurd (cc)
  none_waits xs None h k =
      let z = none_left old.queue (let a = length_permutation old.queue p.queue q in let b = ap length h.0 in omega (arith, a, b)) in
      (z, ap (λ (u : PartData S V). record u { queue = xs }) e ∙ ap (λ ys. record old { queue = ys }) (h.1 ∙ sym z))

  module _ (o : old.setup.order ≡ BestFirst) where
    -- what is popped from p is popped from old
    popped_old : (m : PartData S V) (i : Item V) → IsPopped (meaning old.setup.diffusion.algebra) p m i → IsPopped (meaning old.setup.diffusion.algebra) old m i
    popped_old m i O = record {
      left = IsPermutation-trans _ _ _ q O.left;
      in_turn = best_turn (meaning old.setup.diffusion.algebra) (network_of old.setup) old.setup.order (state_in old) old.queue m.queue i o
          (subst (λ (u : PartData S V). GoesAtOnce (meaning old.setup.diffusion.algebra) (network_of u.setup) (state_in u) i ⊎ IsBestMessage (meaning old.setup.diffusion.algebra).no_worse i m.queue) e
          (turn_best (meaning old.setup.diffusion.algebra) (network_of p.setup) p.setup.order (state_in p) p.queue m.queue i (ap (λ (u : PartData S V). u.setup.order) e ∙ o) O.in_turn));
      same = O.same ∙ ap (λ (u : PartData S V). record u { queue = m.queue }) e;
      arc = O.arc;
      here = O.here;
      clear = O.clear;
    }

    one_popped : (xs : List (Item V)) (i : Item V) → IsPermutation p.queue (i ∷ xs)
        → GoesAtOnce (meaning old.setup.diffusion.algebra) (network_of p.setup) (state_in p) i ⊎ IsBestMessage (meaning old.setup.diffusion.algebra).no_worse i xs →
        IsPopped (meaning old.setup.diffusion.algebra) old (record p { queue = xs }) i
    one_popped xs i l t = popped_old (record p { queue = xs }) i (popped (meaning old.setup.diffusion.algebra) p p r n ns i xs refl D l
        (best_turn (meaning old.setup.diffusion.algebra) (network_of p.setup) p.setup.order (state_in p) p.queue xs i (ap (λ (u : PartData S V). u.setup.order) e ∙ o) t))

    -- the newest item, which is settled
    pub newest_popped : (l : Line (Item V)) (xs : List (Item V)) (i : Item V) (x : Option (Item V)) → l.items ≡ p.queue → IsNewest l i →
        IsSettledIn (meaning p.setup.diffusion.algebra) (network_of p.setup) r.own r.labels i → IfSome x (λ j. l.items ≡ xs ++ j ∷ []) →
        IfSome x (λ j. IsPopped (meaning old.setup.diffusion.algebra) old (record p { queue = xs }) j)
    newest_popped l xs i None f w s h = tt
    newest_popped l xs i (Some j) f w s h =
        let once : GoesAtOnce (meaning old.setup.diffusion.algebra) (network_of p.setup) (state_in p) i =
        subst (λ (u : PartData S V). GoesAtOnce (meaning u.setup.diffusion.algebra) (network_of p.setup) (state_in p) i) e (settled_once (meaning p.setup.diffusion.algebra) p r n ns i D s) in
        one_popped xs j (subst (λ ys. IsPermutation ys (j ∷ xs)) (sym h ∙ f) (IsPermutation-to_front xs j))
        (inl (subst (GoesAtOnce (meaning old.setup.diffusion.algebra) (network_of p.setup) (state_in p)) (newest_same w.0 xs i j (sym w.1 ∙ h)) once))

    -- the best message
    pub best_popped : (xs : List (Item V)) (x : Option (Item V)) (no_worse : V → V → Bool) → (meaning old.setup.diffusion.algebra).no_worse ≡ no_worse → IfSome x (λ j. IsPermutation p.queue (j ∷ xs)) →
        IfSome x (λ j. IsBestMessage no_worse j xs) → IfSome x (λ j. IsPopped (meaning old.setup.diffusion.algebra) old (record p { queue = xs }) j)
    best_popped xs None w f l b = tt
    best_popped xs (Some j) w f l b = one_popped xs j l (inr (subst (λ v. IsBestMessage v j xs) (sym f) b))
