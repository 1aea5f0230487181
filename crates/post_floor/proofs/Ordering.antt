-- The slots between each two shards stay in order when one view makes a step.
use Rattle.post_floor.proofs.Words.{◌≡◌, ◌≢◌, ◌⊎◌, ℕ, zero, suc, ◌+◌, ◌*◌, ◌/◌, ◌%◌, ◌<◌, List, [], ◌∷◌, length, set, get_or, sym, ap, ◌∙◌, subst, inl, inr, arith, get_or-set_other, get_or-set_same, cases_eq, div-lt_iff_lt-mul, some, some-injective, some-ne-none, get_elem?, at_set, PartData, total, is, is_self, View, box_count, mailbox, dest, origin, AreInOrder, flat, IsSeatOf, words_between, AreAllInOrder, IsNextFill, IsNextRead}
use Rattle.std.proofs.lemmas.Nat.{div-mul-add, mod-mul-add}
use Rattle.post_floor.proofs.Totals.{total_at, total_two}
use Rattle.post_floor.proofs.Parts.{flat_total}
use Rattle.post_floor.proofs.Order.{Elsewhere, order_same}

pub only : {A : Type 0} (v : A) (id : ℕ) (u : A) → get_elem? (v ∷ []) id ≡ some u → v ≡ u
only v zero u a = some-injective v u a
only v (suc id) u a = absurd (some-ne-none u (sym a))

module _ (n f g x : ℕ) (lt : g < n) (low : x < 4) where
  pair_is : mailbox n f g x / 4 ≡ f * n + g
  pair_is = div-mul-add (f * n + g) 4 x low

  pub origin_is : origin n (mailbox n f g x) ≡ f
  unfolding origin
  origin_is = ap (λ z. z / n) pair_is ∙ div-mul-add f n g lt

  pub dest_is : dest n (mailbox n f g x) ≡ g
  unfolding dest
  dest_is = ap (λ z. z % n) pair_is ∙ mod-mul-add f n g lt

  pub box_below : f < n → mailbox n f g x < box_count n
  box_below fl =
      let a : (f * n + g) / n < n = subst (λ z. z < n) (sym (div-mul-add f n g lt)) fl in
      let b : f * n + g < n * n = (div-lt_iff_lt-mul {k = n} {x = f * n + g} {y = n} (omega (arith, lt))).0 a in
      (div-lt_iff_lt-mul {k = 4} {x = mailbox n f g x} {y = n * n} (omega arith)).0 (subst (λ z. z < n * n) (sym pair_is) b)

-- two slots of one pair are different mailboxes
slots_apart : (n f g x y : ℕ) → x ≢ y → mailbox n f g x ≢ mailbox n f g y
slots_apart n f g x y ne e = ne (let m : ℕ = f * n + g in omega (arith, e))

module _ {S V : Type 0} (n : ℕ) (ws : List ℕ) (views : List (View S V)) (id : ℕ) (v w : View S V) (b e : PartData S V)
    (at : get_elem? views id ≡ some v) (one : v.parts ≡ b ∷ []) (now : w.parts ≡ e ∷ []) (shard : e.shard ≡ b.shard)
    (whole : (j : ℕ) → j < n → total (λ (p : PartData S V). is j p.shard) (flat views) ≡ 1)
    (long_fill : length w.next_fill ≡ length v.next_fill) (long_read : length w.next_read ≡ length v.next_read) (old : AreAllInOrder n ws views) where
  -- the part is no other view's
  elsewhere : (i : ℕ) (u : View S V) (p : PartData S V) → b.shard < n → i ≢ id → get_elem? views i ≡ some u → IsSeatOf n u p → p.shard ≢ b.shard
  elsewhere i u p lt ne a P q =
      let f : PartData S V → ℕ = λ y. is b.shard y.shard in
      let two = total_two (λ (y : View S V). total f y.parts) views i id u v ne a at in let sum = flat_total f views in let w1 = whole b.shard lt in
      let mine : total f v.parts ≡ is b.shard b.shard + 0 = ap (total f) one in let its = total_at f u.parts P.place p P.has in let self = is_self b.shard in
      let same : is b.shard p.shard ≡ is b.shard b.shard = ap (is b.shard) q in omega (arith, two, sum, w1, mine, its, self, same)

  -- the view after the step has the part e alone
  is_e : (u : View S V) (p : PartData S V) → w ≡ u → IsSeatOf n u p → e ≡ p
  is_e u p z P = only e P.place p (ap (λ l. get_elem? l P.place) (sym now) ∙ ap (λ (y : View S V). get_elem? y.parts P.place) z ∙ P.has)

  before : (u : View S V) (p : PartData S V) → w ≡ u → IsSeatOf n u p → IsSeatOf n v b
  before u p z P = record {
    place = 0;
    has = ap (λ l. get_elem? l 0) one;
    below = subst (λ k. k < n) (ap (λ (y : PartData S V). y.shard) (sym (is_e u p z P)) ∙ shard) P.below;
    fills = sym long_fill ∙ ap (λ (y : View S V). length y.next_fill) z ∙ P.fills;
    reads = sym long_read ∙ ap (λ (y : View S V). length y.next_read) z ∙ P.reads;
  }

  pub ordered_after : (ws' : List ℕ)
      → ((g r : ℕ) → b.shard < n → g < n → g ≢ b.shard → length v.next_fill ≡ n → AreInOrder (words_between n ws b.shard g) r (get_or v.next_fill g 0) → AreInOrder (words_between n ws' b.shard g) r (get_or w.next_fill g 0))
      → ((f a : ℕ) → b.shard < n → f < n → f ≢ b.shard → length v.next_read ≡ n → AreInOrder (words_between n ws f b.shard) (get_or v.next_read f 0) a → AreInOrder (words_between n ws' f b.shard) (get_or w.next_read f 0) a)
      → ((f g x : ℕ) → f < n → g < n → f ≢ b.shard → g ≢ b.shard → x < 4 → words_between n ws' f g x ≡ words_between n ws f g x)
      → (b.shard < n) → AreAllInOrder n ws' (set views id w)
  ordered_after ws' sends gets others lt i j u y p q ai aj P Q ne = elim (at_set views id i w u ai) [
    | inl z ↦ elim (at_set views id j w y aj) [
      | inl z' ↦ absurd (ne (ap (λ (x : PartData S V). x.shard) (sym (is_e u p z.1 P) ∙ is_e y q z'.1 Q)))
      | inr z' ↦ (
          let is_p : p.shard ≡ b.shard = ap (λ (x : PartData S V). x.shard) (sym (is_e u p z.1 P)) ∙ shard in
          let B = before u p z.1 P in
          let ne' : b.shard ≢ q.shard = λ s. ne (is_p ∙ s) in
          let new = sends q.shard (get_or y.next_read b.shard 0) B.below Q.below (λ s. ne' (sym s)) B.fills (old id j v y b q at z'.1 B Q ne') in
          subst (λ (x : ℕ × View S V). AreInOrder (words_between n ws' x.0 q.shard) (get_or y.next_read x.0 0) (get_or x.1.next_fill q.shard 0)) (λ k. (sym is_p k, z.1 k)) new)
    ]
    | inr z ↦ elim (at_set views id j w y aj) [
      | inl z' ↦ (
          let is_q : q.shard ≡ b.shard = ap (λ (x : PartData S V). x.shard) (sym (is_e y q z'.1 Q)) ∙ shard in
          let B = before y q z'.1 Q in
          let ne' : p.shard ≢ b.shard = λ s. ne (s ∙ sym is_q) in
          let new = gets p.shard (get_or u.next_fill b.shard 0) B.below P.below ne' B.reads (old i id u v p b z.1 at P B ne') in
          subst (λ (x : ℕ × View S V). AreInOrder (words_between n ws' p.shard x.0) (get_or x.1.next_read p.shard 0) (get_or u.next_fill x.0 0)) (λ k. (sym is_q k, z'.1 k)) new)
      | inr z' ↦ order_same (words_between n ws p.shard q.shard) (words_between n ws' p.shard q.shard) (get_or y.next_read p.shard 0) (get_or u.next_fill q.shard 0) (old i j u y p q z.1 z'.1 P Q ne)
          (λ x l. others p.shard q.shard x P.below Q.below (elsewhere i u p lt z.0 z.1 P) (elsewhere j y q lt z'.0 z'.1 Q) l)
    ]
  ]

  -- a step that changes no mailbox's word and no next slot
  pub looked_on : (ws' : List ℕ) → ((j : ℕ) → j < box_count n → get_or ws' j 0 ≡ get_or ws j 0) → w.next_fill ≡ v.next_fill → w.next_read ≡ v.next_read → b.shard < n → AreAllInOrder n ws' (set views id w)
  looked_on ws' same fill read lt =
      let at' : (f g x : ℕ) → f < n → g < n → x < 4 → words_between n ws' f g x ≡ words_between n ws f g x = λ f g x fl gl l. same (mailbox n f g x) (box_below n f g x gl l fl) in
      ordered_after ws'
      (λ g r bl gl ne long o. subst (λ z. AreInOrder (words_between n ws' b.shard g) r z) (ap (λ z. get_or z g 0) (sym fill))
      (order_same (words_between n ws b.shard g) (words_between n ws' b.shard g) r (get_or v.next_fill g 0) o (λ x l. at' b.shard g x bl gl l)))
      (λ f a bl fl ne long o. subst (λ z. AreInOrder (words_between n ws' f b.shard) z a) (ap (λ z. get_or z f 0) (sym read))
      (order_same (words_between n ws f b.shard) (words_between n ws' f b.shard) (get_or v.next_read f 0) a o (λ x l. at' f b.shard x fl bl l)))
      (λ f g x fl gl nf ng l. at' f g x fl gl l) lt

  module _ (k n' : ℕ) (wide : k < length ws) where
    -- another mailbox
    pub apart_from : (f g x : ℕ) → g < n → x < 4 → (f ≢ origin n k) ⊎ (g ≢ dest n k) → words_between n (set ws k n') f g x ≡ words_between n ws f g x
    apart_from f g x gl l c = get_or-set_other ws k (mailbox n f g x) n' 0 (λ s. elim c [
      | inl ne ↦ ne (sym (origin_is n f g x gl l) ∙ ap (origin n) s)
      | inr ne ↦ ne (sym (dest_is n f g x gl l) ∙ ap (dest n) s)
    ])

    pub same_pair : (f g a : ℕ) → k ≡ mailbox n f g a → Elsewhere a (words_between n ws f g) (words_between n (set ws k n') f g)
    same_pair f g a is x l ne = get_or-set_other ws k (mailbox n f g x) n' 0 (λ s. slots_apart n f g x a ne (s ∙ is))

    pub this_box : (f g a : ℕ) → k ≡ mailbox n f g a → words_between n (set ws k n') f g a ≡ n'
    this_box f g a is = ap (λ z. get_or (set ws k n') z 0) (sym is) ∙ get_or-set_same ws k n' 0 wide

    pub was_box : (f g a : ℕ) → k ≡ mailbox n f g a → words_between n ws f g a ≡ get_or ws k 0
    was_box f g a is = ap (λ z. get_or ws z 0) (sym is)

    -- the sender's step on the mailbox that it fills next
    pub sender : (to : ℕ) → IsNextFill n b.shard to k v → w.next_read ≡ v.next_read → ((g : ℕ) → g ≢ to → get_or w.next_fill g 0 ≡ get_or v.next_fill g 0)
        → ((word word' : ℕ → ℕ) (r : ℕ) → length v.next_fill ≡ n → AreInOrder word r (get_or v.next_fill to 0) → word (get_or v.next_fill to 0) ≡ get_or ws k 0 → word' (get_or v.next_fill to 0) ≡ n'
        → Elsewhere (get_or v.next_fill to 0) word word' → AreInOrder word' r (get_or w.next_fill to 0))
        → b.shard < n → AreAllInOrder n (set ws k n') (set views id w)
    sender to I read fill step lt = ordered_after (set ws k n')
        (λ g r bl gl ne long o. elim (cases_eq g to) [
          | inl s ↦ (let a : ℕ = get_or v.next_fill to 0 in
              subst (λ z. AreInOrder (words_between n (set ws k n') b.shard z) r (get_or w.next_fill z 0)) (sym s)
              (step (words_between n ws b.shard to) (words_between n (set ws k n') b.shard to) r long (subst (λ z. AreInOrder (words_between n ws b.shard z) r (get_or v.next_fill z 0)) s o)
              (was_box b.shard to a I.slot) (this_box b.shard to a I.slot) (same_pair b.shard to a I.slot)))
          | inr other ↦ subst (λ z. AreInOrder (words_between n (set ws k n') b.shard g) r z) (sym (fill g other))
              (order_same (words_between n ws b.shard g) (words_between n (set ws k n') b.shard g) r (get_or v.next_fill g 0) o
              (λ x l. apart_from b.shard g x gl l (inr (λ s. other (s ∙ I.between.leads_to)))))
        ])
        (λ f a bl fl ne long o. subst (λ z. AreInOrder (words_between n (set ws k n') f b.shard) z a) (ap (λ z. get_or z f 0) (sym read))
        (order_same (words_between n ws f b.shard) (words_between n (set ws k n') f b.shard) (get_or v.next_read f 0) a o
        (λ x l. apart_from f b.shard x bl l (inl (λ s. ne (s ∙ I.between.comes_from))))))
        (λ f g x fl gl nf ng l. apart_from f g x gl l (inl (λ s. nf (s ∙ I.between.comes_from)))) lt

    -- the receiver's step on the mailbox that it reads next
    pub receiver : (from : ℕ) → IsNextRead n from b.shard k v → w.next_fill ≡ v.next_fill → ((f : ℕ) → f ≢ from → get_or w.next_read f 0 ≡ get_or v.next_read f 0)
        → ((word word' : ℕ → ℕ) (a : ℕ) → length v.next_read ≡ n → AreInOrder word (get_or v.next_read from 0) a → word (get_or v.next_read from 0) ≡ get_or ws k 0 → word' (get_or v.next_read from 0) ≡ n'
        → Elsewhere (get_or v.next_read from 0) word word' → AreInOrder word' (get_or w.next_read from 0) a)
        → b.shard < n → AreAllInOrder n (set ws k n') (set views id w)
    receiver from I fill read step lt = ordered_after (set ws k n')
        (λ g r bl gl ne long o. subst (λ z. AreInOrder (words_between n (set ws k n') b.shard g) r z) (ap (λ z. get_or z g 0) (sym fill))
        (order_same (words_between n ws b.shard g) (words_between n (set ws k n') b.shard g) r (get_or v.next_fill g 0) o
        (λ x l. apart_from b.shard g x gl l (inr (λ s. ne (s ∙ I.between.leads_to))))))
        (λ f a bl fl ne long o. elim (cases_eq f from) [
          | inl s ↦ (let r : ℕ = get_or v.next_read from 0 in
              subst (λ z. AreInOrder (words_between n (set ws k n') z b.shard) (get_or w.next_read z 0) a) (sym s)
              (step (words_between n ws from b.shard) (words_between n (set ws k n') from b.shard) a long (subst (λ z. AreInOrder (words_between n ws z b.shard) (get_or v.next_read z 0) a) s o)
              (was_box from b.shard r I.slot) (this_box from b.shard r I.slot) (same_pair from b.shard r I.slot)))
          | inr other ↦ subst (λ z. AreInOrder (words_between n (set ws k n') f b.shard) z a) (sym (read f other))
              (order_same (words_between n ws f b.shard) (words_between n (set ws k n') f b.shard) (get_or v.next_read f 0) a o
              (λ x l. apart_from f b.shard x bl l (inl (λ s. other (s ∙ I.between.comes_from)))))
        ])
        (λ f g x fl gl nf ng l. apart_from f g x gl l (inr (λ s. ng (s ∙ I.between.leads_to)))) lt
