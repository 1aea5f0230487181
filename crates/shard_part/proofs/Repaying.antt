-- A message that improves nothing is taken at once, and then its signal: the part is as it was.
use Rattle.shard_part.proofs.Words.{◌≡◌, ◌≢◌, ℕ, zero, suc, ◌+◌, ◌<◌, ◌≤◌, Bool, true, false, not, ◌&&◌, cond, eqb, Option, Some, None, List, [], ◌∷◌, ◌++◌, length, set, get_or, refl, sym, ap, ◌∙◌, subst, inl, inr, arith, length-set, get_or-set_same, get_or-set_other, eq-eqb, ne_eqb, cases_Bool, cond-false, IsPermutation, IsPermutation-refl, Algebra, Lawful, Item, MessageOn, SignalOn, Idle, Network, WellFormed, CoreState, is_idle, is_due, improves, out_idle, same_label, extend_label, network_of, place_in, IsPlanned, counted_on, top, outgoing, BestFirst, PartData, state_in, token_if, IsArc, Channels, HandledItemIn, HandledItem, with_message, offered_all, rested, rested_by, OwnIdleIsTold, IsPermutation-to_front, deficit, with_item, with_value, with_free, engaged_or_answered, as_items, all_busy, IsOff, AnswersAtOnce, IsVoid, AreVoid, more, IsFit, HandledAtOnce}
use Rattle.scholten_core.proofs.Basics.{out_idle-at, same_self}
use Rattle.scholten_core.proofs.Quick.{out_idle_counted}
use Rattle.shard_part.proofs.Busy.{busy_other}
use Rattle.shard_part.proofs.ItemIsTaken.{handled, head_within}
use Rattle.shard_part.proofs.Moves.{formed}
use Rattle.shard_part.proofs.OffersArePumped.{counted_top}
use Rattle.shard_part.proofs.Rings.{best_turn}
use Rattle.shard_part.proofs.ToldKept.{told_kept}

-- what was written is written back
set_back : {X : Type 0} (xs : List X) (k : ℕ) (x y d : X) → get_or xs k d ≡ x → set (set xs k y) k x ≡ xs
set_back [] k x y d e = refl
set_back (z ∷ zs) zero x y d e = ap (λ w. w ∷ zs) (sym e)
set_back (z ∷ zs) (suc k) x y d e = ap (λ ws. z ∷ ws) (set_back zs k x y d e)

-- one more of a counter
pub more_after : (k n : ℕ) → more k (counted_on 1 n) ≡ more (suc k) n
more_after zero n = refl
more_after (suc k) n = omega arith

pub more_before : (k n : ℕ) → counted_on 1 (more k n) ≡ more (suc k) n
more_before zero n = refl
more_before (suc k) n = omega arith

module _ {V : Type 0} where
  pub long_busy : (ms : List (ℕ × V)) (f : List Bool) → length (all_busy ms f) ≡ length f
  long_busy [] f = refl
  long_busy (m ∷ ms) f = length-set (all_busy ms f) m.0 true ∙ long_busy ms f

  pub busy_off : (ms : List (ℕ × V)) (f : List Bool) (b : ℕ) → IsOff b ms → get_or (all_busy ms f) b false ≡ get_or f b false
  busy_off [] f b h = refl
  busy_off (m ∷ ms) f b h = get_or-set_other (all_busy ms f) m.0 b true false h.0 ∙ busy_off ms f b h.1

and_no : (s t : Bool) → t ≡ true → (s && not t) ≡ false
and_no true true e = refl
and_no false true e = refl
and_no true false e = absurd (cc)
and_no false false e = refl

-- what was told its tail's label is not due
pub told_quiet : {V : Type 0} (A : Algebra V) (N : Network) → Lawful A → (v : ℕ) (d : CoreState V) (b : ℕ) → d.told b ≡ d.label v → is_due A N v d b ≡ false
unfolding is_due
told_quiet A N L v d b e = and_no (eqb (N.tail b) v && is_idle (d.token b)) (same_label A (d.told b) (d.label v))
    (ap (λ o. same_label A o (d.label v)) e ∙ same_self A N L (d.label v))

module _ {S V : Type 0} (A : Algebra V) where
  -- a vertex with a busy arc does not rest
  pub rests_not : (v : ℕ) (p : PartData S V) → out_idle A (network_of p.setup) v (state_in p) ≡ false → rested A v p ≡ p
  rests_not v p h = ap (λ t. rested_by v ((state_in p).engager v) t p) h ∙ go ((state_in p).engager v)
    where
      go : (o : Option ℕ) → rested_by v o false p ≡ p
      go None = refl
      go (Some e) = refl

  signal_put : (b : ℕ) (p : PartData S V) → place_in p.setup ((network_of p.setup).tail b) ≡ p.shard
      → with_item (SignalOn b) p ≡ record p { queue = p.queue ++ SignalOn b ∷ []; signalled = counted_on 1 p.signalled }
  signal_put b p here = let t = eq-eqb _ _ here in λ i. record p {
    queue = (cond {A = Channels V} (t i) (record { queue = p.queue ++ SignalOn b ∷ []; outs = p.outs })
        (record { queue = p.queue; outs = set p.outs (place_in p.setup ((network_of p.setup).tail b)) (get_or p.outs (place_in p.setup ((network_of p.setup).tail b)) [] ++ SignalOn b ∷ []) })).queue;
    outs = (cond {A = Channels V} (t i) (record { queue = p.queue ++ SignalOn b ∷ []; outs = p.outs })
        (record { queue = p.queue; outs = set p.outs (place_in p.setup ((network_of p.setup).tail b)) (get_or p.outs (place_in p.setup ((network_of p.setup).tail b)) [] ++ SignalOn b ∷ []) })).outs;
    signalled = counted_on 1 p.signalled;
  }

  -- a message that changes nothing is answered
  answered : (p : PartData S V) (b : ℕ) (y : V) → improves A y ((state_in p).label ((network_of p.setup).head b)) ≡ false → place_in p.setup ((network_of p.setup).tail b) ≡ p.shard
      → (network_of p.setup).head b < length p.engagers → AnswersAtOnce (network_of p.setup) (state_in p) ((network_of p.setup).head b)
      → with_value A b y ((network_of p.setup).head b) p ≡ record p { queue = p.queue ++ SignalOn b ∷ []; signalled = counted_on 1 p.signalled }
  answered p b y worse mine long at_once = stays ∙ elim at_once [
    | inl h ↦ (let p2 : PartData S V = record p { engagers = set p.engagers w (Some b) } in
        let e : (state_in p2).engager w ≡ Some b = get_or-set_same p.engagers w (Some b) None long in
        let f : out_idle A N w (state_in p2) ≡ true = out_idle_counted A N w (state_in p2) ∙ ap (λ n. eqb n 0) h.1 in
        let p3 : PartData S V = record p { engagers = set (set p.engagers w (Some b)) w None } in
        ap (λ o. rested A w (engaged_or_answered b w o p)) h.0
        ∙ (λ i. rested_by w (e i) (f i) p2)
        ∙ signal_put b p3 mine
        ∙ ap (λ (es : List (Option ℕ)). record p { engagers = es; queue = p.queue ++ SignalOn b ∷ []; signalled = counted_on 1 p.signalled }) (set_back p.engagers w None (Some b) None h.0))
    | inr h ↦ (let p2 : PartData S V = record p { queue = p.queue ++ SignalOn b ∷ []; signalled = counted_on 1 p.signalled } in
        let f : out_idle A N w (state_in p2) ≡ false = out_idle_counted A N w (state_in p2) ∙ ne_eqb _ 0 h.1 in
        ap (λ o. rested A w (engaged_or_answered b w o p)) h.0.1 ∙ ap (rested A w) (signal_put b p mine) ∙ rests_not w p2 f)
  ]
    where
      N : Network
      N = network_of p.setup

      w : ℕ
      w = (network_of p.setup).head b

      stays : with_value A b y w p ≡ rested A w (engaged_or_answered b w ((state_in p).engager w) p)
      stays = λ i. rested A w (cond (worse i)
          (offered_all A w (outgoing N w) (engaged_or_answered b w ((state_in p).engager w) (cond (worse i) (record p { labels = set p.labels w (Some y) }) p)))
          (engaged_or_answered b w ((state_in p).engager w) (cond (worse i) (record p { labels = set p.labels w (Some y) }) p)))

  -- its signal frees the arc, which is not due
  freed_again : Lawful A → (p : PartData S V) (b v : ℕ) → WellFormed (network_of p.setup) → (network_of p.setup).tail b ≡ v → v ≢ 0 → (state_in p).told b ≡ (state_in p).label v
      → with_free A b v p ≡ rested A v (record p { busy = set p.busy b false })
  freed_again L p zero v W t nz e = absurd (nz (sym t ∙ W.tail_zero))
  freed_again L p (suc k) v W t nz e = let p1 : PartData S V = record p { busy = set p.busy (suc k) false } in
      ap (rested A v) (cond-false (is_due A (network_of p.setup) v (state_in p1) (suc k))
      (with_message (suc k) (extend_label A ((state_in p1).label v) ((network_of p.setup).weight (suc k))) (record p1 { told = set p1.told (suc k) ((state_in p1).label v) })) p1
      (told_quiet A (network_of p.setup) L v (state_in p1) (suc k) e))

-- with each message its signal
abbrev pub repayments : {V : Type 0} → List (ℕ × V) → List (Item V)
repayments [] = []
repayments (m ∷ ms) = MessageOn m.0 m.1 ∷ SignalOn m.0 ∷ repayments ms

module _ {S V : Type 0} (meaning : S → Algebra V) (o : PartData S V) (v : ℕ) (L : Lawful (meaning o.setup.diffusion.algebra)) (P : IsPlanned o.setup o.shard)
    (B : o.setup.order ≡ BestFirst) (nz : v ≢ 0) (mine : place_in o.setup v ≡ o.shard) (F : IsFit o) where
  abbrev A : Algebra V
  A = meaning o.setup.diffusion.algebra

  abbrev N : Network
  N = network_of o.setup

  W : WellFormed N
  W = formed o o.shard P

  -- o while these messages are on their way, with another queue and other counters
  abbrev owing : List (ℕ × V) → List (Item V) → (d g a : ℕ) → PartData S V
  owing ms xs d g a = record o { busy = all_busy ms o.busy; queue = xs; delivered = d; signalled = g; accepted = a }

  fit : (ms : List (ℕ × V)) (xs : List (Item V)) (d g a : ℕ) → d ≤ top → g ≤ top → a ≤ top → IsFit (owing ms xs d g a)
  fit ms xs d g a ld lg la = record { labels = F.labels; engagers = F.engagers; busy = long_busy ms o.busy ∙ F.busy; told = F.told; sent = F.sent; delivered = ld; signalled = lg; accepted = la }

  abbrev Void : List (ℕ × V) → Type 0
  Void ms = AreVoid A N (place_in o.setup) o.shard (state_in o) v ms

  -- they are busy out of v, not out of any other vertex
  still_busy : (ms : List (ℕ × V)) (w : ℕ) → w ≢ v → Void ms → deficit N w (state_in (record o { busy = all_busy ms o.busy })) ≡ deficit N w (state_in o)
  still_busy [] w ne h = refl
  still_busy (m ∷ ms) w ne h = busy_other (record o { busy = all_busy ms o.busy }) w m.0 true (suc N.arcs) (λ e. ne (sym e ∙ h.0.tail)) ∙ still_busy ms w ne h.2

  arc : (b : ℕ) (x : V) → IsVoid A N (place_in o.setup) o.shard (state_in o) v b x → IsArc N b
  arc b x h = let t : N.tail b ≢ 0 = λ z. nz (sym h.tail ∙ z) in (W.head_in b t, λ _. t)

  in_busy : (b : ℕ) (x : V) → IsVoid A N (place_in o.setup) o.shard (state_in o) v b x → b < length o.busy
  in_busy b x h = let r : b ≤ length o.setup.diffusion.roads.arcs = W.real b (λ z. nz (sym h.tail ∙ z)) in let l = F.busy in omega (arith, r, l)

  at_once : (ms : List (ℕ × V)) (w : ℕ) → w ≢ v → Void ms → AnswersAtOnce N (state_in o) w → AnswersAtOnce N (state_in (record o { busy = all_busy ms o.busy })) w
  at_once ms w ne h k = let e = still_busy ms w ne h in elim k [
    | inl q ↦ inl (q.0, e ∙ q.1)
    | inr q ↦ inr (q.0, λ z. q.1 (sym e ∙ z))
  ]

  -- the message is taken, and then its signal
  module _ (b : ℕ) (x : V) (ms : List (ℕ × V)) (xs : List (Item V)) (d g a : ℕ) (ld : d ≤ top) (lg : g ≤ top) (la : a ≤ top) (h : Void ((b, x) ∷ ms))
      (q : IsPermutation xs (as_items ((b, x) ∷ ms) ++ o.queue)) (T : OwnIdleIsTold (owing ((b, x) ∷ ms) xs d g a)) where
    abbrev zs : List (Item V)
    zs = as_items ms ++ o.queue

    abbrev u : PartData S V
    u = owing ((b, x) ∷ ms) xs d g a

    abbrev d1 : PartData S V
    d1 = owing ((b, x) ∷ ms) (zs ++ SignalOn b ∷ []) (counted_on 1 d) (counted_on 1 g) a

    abbrev p3 : PartData S V
    p3 = owing ms zs (counted_on 1 d) (counted_on 1 g) (counted_on 1 a)

    tail_mine : place_in o.setup (N.tail b) ≡ o.shard
    tail_mine = ap (place_in o.setup) h.0.tail ∙ mine

    message_goes : HandledItem meaning u (MessageOn b x) d1
    message_goes = subst (HandledItemIn A N (place_in o.setup) u (MessageOn b x))
        (answered A (record u { queue = zs; delivered = counted_on 1 d }) b x h.0.nothing tail_mine
        (let w = head_within o P b (arc b x h.0) in let l = F.engagers in omega (arith, w, l)) (at_once ((b, x) ∷ ms) (N.head b) h.0.other h h.0.at_once))
        (handled A L u (MessageOn b x) zs P (fit ((b, x) ∷ ms) xs d g a ld lg la) T q (best_turn A N o.setup.order (state_in u) xs zs (MessageOn b x) B (inl h.0.nothing)) (arc b x h.0) h.0.here)

    told_between : OwnIdleIsTold d1
    told_between = told_kept A L u (MessageOn b x) d1 W T message_goes

    freed : set (all_busy ((b, x) ∷ ms) o.busy) b false ≡ all_busy ms o.busy
    freed = set_back (all_busy ms o.busy) b false true false (busy_off ms o.busy b h.1 ∙ idle_flag (get_or o.busy b false) h.0.idle)
      where
        idle_flag : (t : Bool) → token_if {V = V} t ≡ Idle → t ≡ false
        idle_flag false e = refl
        idle_flag true e = absurd (cc)

    signal_goes : HandledItem meaning d1 (SignalOn b) (rested A v p3)
    signal_goes = subst (HandledItemIn A N (place_in o.setup) d1 (SignalOn b))
        (ap (λ w. with_free A b w (record d1 { queue = zs; accepted = counted_on 1 a })) h.0.tail
        ∙ freed_again A L (record d1 { queue = zs; accepted = counted_on 1 a }) b v W h.0.tail nz h.0.told
        ∙ ap (λ (f : List Bool). rested A v (record p3 { busy = f })) freed)
        (handled A L d1 (SignalOn b) zs P (fit ((b, x) ∷ ms) (zs ++ SignalOn b ∷ []) (counted_on 1 d) (counted_on 1 g) a (counted_top 1 d) (counted_top 1 g) la) told_between
        (IsPermutation-to_front zs (SignalOn b)) (best_turn A N o.setup.order (state_in d1) (zs ++ SignalOn b ∷ []) zs (SignalOn b) B (inl tt)) (arc b x h.0) tail_mine)

    told_after : OwnIdleIsTold (rested A v p3)
    told_after = told_kept A L d1 (SignalOn b) (rested A v p3) W told_between signal_goes

  -- the first of them keeps v from resting
  pub waits : (m : ℕ × V) (ms : List (ℕ × V)) (xs : List (Item V)) (d g a : ℕ) → Void (m ∷ ms) → out_idle A N v (state_in (owing (m ∷ ms) xs d g a)) ≡ false
  waits m ms xs d g a h = elim (cases_Bool (out_idle A N v (state_in (owing (m ∷ ms) xs d g a)))) [
    | inr f ↦ f
    | inl t ↦ absurd (let r = W.real m.0 (λ z. nz (sym h.0.tail ∙ z)) in let i = out_idle-at A N v (state_in (owing (m ∷ ms) xs d g a)) t m.0 r h.0.tail in
        let l = long_busy ms o.busy in let n = in_busy m.0 m.1 h.0 in
        held (get_or (set (all_busy ms o.busy) m.0 true) m.0 false) (get_or-set_same (all_busy ms o.busy) m.0 true false (omega (arith, l, n))) i)
  ]
    where
      held : (t : Bool) → t ≡ true → token_if {V = V} t ≡ Idle → ⊥
      held true e i = cc
      held false e i = cc

  -- all of them are repaid, and then v rests
  pub all_repaid : (m : ℕ × V) (ms : List (ℕ × V)) (xs : List (Item V)) (d g a : ℕ) → d ≤ top → g ≤ top → a ≤ top → Void (m ∷ ms) → IsPermutation xs (as_items (m ∷ ms) ++ o.queue)
      → OwnIdleIsTold (owing (m ∷ ms) xs d g a) →
      let k = suc (length ms) in
      HandledAtOnce meaning (owing (m ∷ ms) xs d g a) (repayments (m ∷ ms)) (rested A v (owing [] o.queue (more k d) (more k g) (more k a)))
      × OwnIdleIsTold (rested A v (owing [] o.queue (more k d) (more k g) (more k a)))
  all_repaid m [] xs d g a ld lg la h q T = (
    (d1 m.0 m.1 [] xs d g a ld lg la h q T, message_goes m.0 m.1 [] xs d g a ld lg la h q T, h.0.nothing, (rested A v (p3 m.0 m.1 [] xs d g a ld lg la h q T), signal_goes m.0 m.1 [] xs d g a ld lg la h q T, tt, refl)),
    told_after m.0 m.1 [] xs d g a ld lg la h q T,
  )
  all_repaid m (n ∷ ms) xs d g a ld lg la h q T =
      let k = suc (length ms) in
      let after = p3 m.0 m.1 (n ∷ ms) xs d g a ld lg la h q T in
      let still : rested A v after ≡ after = rests_not A v after (waits n ms (as_items (n ∷ ms) ++ o.queue) (counted_on 1 d) (counted_on 1 g) (counted_on 1 a) h.2) in
      let R = all_repaid n ms (as_items (n ∷ ms) ++ o.queue) (counted_on 1 d) (counted_on 1 g) (counted_on 1 a) (counted_top 1 d) (counted_top 1 g) (counted_top 1 a) h.2
      (IsPermutation-refl (as_items (n ∷ ms) ++ o.queue)) (subst OwnIdleIsTold still (told_after m.0 m.1 (n ∷ ms) xs d g a ld lg la h q T)) in
      let same : rested A v (owing [] o.queue (more k (counted_on 1 d)) (more k (counted_on 1 g)) (more k (counted_on 1 a)))
      ≡ rested A v (owing [] o.queue (more (suc k) d) (more (suc k) g) (more (suc k) a)) = λ i. rested A v (owing [] o.queue (more_after k d i) (more_after k g i) (more_after k a i)) in (
        (
          d1 m.0 m.1 (n ∷ ms) xs d g a ld lg la h q T,
          message_goes m.0 m.1 (n ∷ ms) xs d g a ld lg la h q T,
          h.0.nothing,
          (
            after,
            subst (HandledItem meaning (d1 m.0 m.1 (n ∷ ms) xs d g a ld lg la h q T) (SignalOn m.0)) still (signal_goes m.0 m.1 (n ∷ ms) xs d g a ld lg la h q T),
            tt,
            subst (HandledAtOnce meaning after (repayments (n ∷ ms))) same R.0,
          ),
        ),
        subst OwnIdleIsTold same R.1,
      )
