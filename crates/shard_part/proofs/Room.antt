-- A queue with a place for each arc of its shard, and a ring with one for each arc of its pair of
-- shards, are never too small.
use Rattle.shard_part.proofs.Words.{◌≡◌, ◌≢◌, ℕ, zero, suc, ◌+◌, ◌≤◌, Bool, true, false, ◌||◌, eqb, Some, List, [], ◌∷◌, length, get_or, refl, sym, ap, ◌∙◌, inl, inr, arith, ne_eqb, cases_eq, Token, Idle, Message, Held, Signal, Item, Algebra, Network, CoreState, is_idle, sum_below, one_if, item_arc, item_of, PartData, state_in, mine, total, is, outs_weight, part_weight, at_place, HoldsShareIn, HoldsTables, touches, queue_bound, CoreInvariant, sum_most}
use Rattle.shard_part.proofs.Showing.{is_self}

pub sum_none_of : (f : ℕ → ℕ) (a n : ℕ) → n ≤ a → ((b : ℕ) → b ≢ a → f b ≡ 0) → sum_below f n ≡ 0
sum_none_of f a zero l h = refl
sum_none_of f a (suc n) l h = let p = sum_none_of f a n (omega (arith, l)) h in let q = h n (λ e. omega (arith, e, l)) in omega (arith, p, q)

pub sum_of_one : (f : ℕ → ℕ) (a n : ℕ) → ((b : ℕ) → b ≢ a → f b ≡ 0) → f a ≤ 1 → sum_below f n ≤ 1
sum_of_one f a zero h one = omega arith
sum_of_one f a (suc n) h one = elim (cases_eq n a) [
  | inl e ↦ (let p = sum_none_of f a n (omega (arith, e)) h in let q = ap f e in omega (arith, p, q, one))
  | inr ne ↦ (let p = sum_of_one f a n h one in let q = h n ne in omega (arith, p, q))
]

one_or_left : (s t : Bool) → one_if s ≤ one_if (s || t)
one_or_left true t = omega arith
one_or_left false t = go t
  where
    go : (t : Bool) → one_if false ≤ one_if t
    go true = omega arith
    go false = omega arith

one_or_right : (s t : Bool) → one_if t ≤ one_if (s || t)
one_or_right true true = omega arith
one_or_right true false = omega arith
one_or_right false t = omega arith

pub each_one : {X : Type 0} (f : X → ℕ) (xs : List X) → ((x : X) → f x ≡ 1) → total f xs ≡ length xs
each_one f [] h = refl
each_one f (x ∷ xs) h = let p = each_one f xs h in let q = h x in omega (arith, p, q)

pub outs_member : {V : Type 0} (h : ℕ → Item V → ℕ) (k t : ℕ) (os : List (List (Item V))) → total (h (k + t)) (get_or os t []) ≤ outs_weight h k os
outs_member h k t [] = omega arith
outs_member h k zero (o ∷ os) = let q : total (h (k + 0)) o ≡ total (h k) o = ap (λ z. total (h z) o) (let e : k + 0 ≡ k = omega arith in e) in omega (arith, q)
outs_member h k (suc t) (o ∷ os) = let p = outs_member h (suc k) t os in
    let q : total (h (k + suc t)) (get_or os t []) ≡ total (h (suc k + t)) (get_or os t []) = ap (λ z. total (h z) (get_or os t []))
    (let e : k + suc t ≡ suc k + t = omega arith in e) in omega (arith, p, q)

module _ {V : Type 0} (N : Network) (place : ℕ → ℕ) where
  abbrev at_shard : ℕ → ℕ → Item V → ℕ
  at_shard s r j = one_if (eqb r s)

  shard_most : (s b : ℕ) (t : Token V) → total (at_place N place (at_shard s)) (item_of b t) ≤ touches N place s b
  shard_most s b Idle = omega arith
  shard_most s b Held = omega arith
  shard_most s b (Message x) = let p = one_or_left (eqb (place (N.head b)) s) (eqb (place (N.tail b)) s) in omega (arith, p)
  shard_most s b Signal = let p = one_or_right (eqb (place (N.head b)) s) (eqb (place (N.tail b)) s) in omega (arith, p)

  abbrev pub on_arc : ℕ → ℕ → Item V → ℕ
  on_arc a r j = is a (item_arc j)

module _ {S V : Type 0} (A : Algebra V) (N : Network) (place : ℕ → ℕ) where
  -- the queue never outgrows its capacity. With the queue joined by a batch: what `receive` asks as
  -- room
  pub queue_fits : (c : CoreState V) (p : PartData S V) → HoldsShareIn A N place c p → length p.queue ≤ queue_bound N place p.shard
  queue_fits c p H =
      let w = H.weighs (at_shard N place p.shard) in
      let n = each_one (at_shard N place p.shard p.shard) p.queue (λ i. is_self p.shard) in
      let m = sum_most (λ b. total (at_place N place (at_shard N place p.shard)) (item_of b (c.token b))) (touches N place p.shard) (suc N.arcs) (λ b. shard_most N place p.shard b (c.token b)) in
      omega (arith, w, n, m)

  -- no arc twice
  pub arc_once : (c : CoreState V) (p : PartData S V) (a : ℕ) → HoldsShareIn A N place c p → part_weight (on_arc N place a) p ≤ 1
  arc_once c p a H =
      let w = H.weighs (on_arc N place a) in
      let m = sum_of_one (λ b. total (at_place N place (on_arc N place a)) (item_of b (c.token b))) a (suc N.arcs) (λ b n. off b (λ e. n (sym e)) (c.token b)) (here (c.token a)) in
      omega (arith, w, m)
    where
      off : (b : ℕ) → a ≢ b → (t : Token V) → total (at_place N place (on_arc N place a)) (item_of b t) ≡ 0
      off b n Idle = refl
      off b n Held = refl
      off b n (Message x) = let q = ap one_if (ne_eqb a b n) in omega (arith, q)
      off b n Signal = let q = ap one_if (ne_eqb a b n) in omega (arith, q)

      here : (t : Token V) → total (at_place N place (on_arc N place a)) (item_of a t) ≤ 1
      here Idle = omega arith
      here Held = omega arith
      here (Message x) = let q = is_self a in omega (arith, q)
      here Signal = let q = is_self a in omega (arith, q)

  -- a message's arc engages nothing here, a signal's arc is busy here
  pub message_free : (c : CoreState V) (p : PartData S V) (a : ℕ) (x : V) → CoreInvariant A N 0 c → HoldsTables A N place c p → c.token a ≡ Message x
      → mine place p.shard (N.head a) ≡ true → (state_in p).engager (N.head a) ≢ Some a
  message_free c p a x K H q m e = let h = (K.engager_held (N.head a) a (sym (H.agree.engager (N.head a) m) ∙ e)).0 in let g = sym q ∙ h in cc

  pub signal_busy : (c : CoreState V) (p : PartData S V) (a : ℕ) → HoldsTables A N place c p → c.token a ≡ Signal → mine place p.shard (N.tail a) ≡ true → is_idle ((state_in p).token a) ≡ false
  signal_busy c p a H q m = H.agree.idle a m ∙ ap is_idle q
