-- A reached state has ended exactly where no item waits; until then one waits in a queue, an outbox
-- or a mailbox.
use Rattle.std.proofs.Common.{◌≡◌, ◌≢◌, ℕ, zero, suc, ◌-◌, ◌<◌, Bool, true, false, List, [], ◌∷◌, ◌++◌, get_or, refl, sym, ap, ◌∙◌, subst, arith, append_assoc, length-append, eq-eqb, ◌≤◌, ◌↔◌, ◌⊎◌, length, inl, inr}
use Rattle.shard_part.proofs.Words.{Token, Idle, Message, Held, Signal, Item, MessageOn, SignalOn, Algebra, Lawful, IsLawful, HasArc, WellFormed, Network, item_arc, item_of, CoreInvariant, PartData, token_if, maker_of, SetupData, network_of, place_in, total, is, All, at_place, in_flight, outs_weight, part_weight, HoldsShareIn, FitsAlone, total_append, cases_lt, false≢true, IsPermutation-refl, Event, Deliver, Accept, here, later}
use Rattle.scholten_core.specs.Diffusion.{CoreState, is_idle, state_after, is_enabled, is_message, is_signal, HasEnded, IsQuiet}
use Rattle.scholten_core.proofs.Walks.{walk_value_is_value}
use Rattle.shard_part.proofs.Room.{queue_fits, arc_once, message_free, signal_busy}
use Rattle.shard_part.proofs.TakenIsEvent.{item_stands}
use Rattle.shard_part.specs.Arriving.{MadeAt, joined, MayReceive}
use Rattle.scholten_core.proofs.Ended.{ended, reached_kept}
use Rattle.scholten_core.proofs.Busy.{never_stuck}
use Rattle.scholten_core.proofs.Basics.{sum_term, sum_zero}
use Rattle.shard_part.specs.Waiting.{items_waiting, QueueWaits, OutboxWaits, MailWaits}
use Rattle.shard_part.proofs.InFlight.{past_idle}

message_of_item : {V : Type 0} (b : ℕ) (k : Token V) (x : V) → item_of b k ≡ MessageOn b x ∷ [] → k ≡ Message x
message_of_item b Idle x e = absurd cc
message_of_item b (Message y) x e = cc
message_of_item b Held x e = absurd cc
message_of_item b Signal x e = absurd cc

signal_of_item : {V : Type 0} (b : ℕ) (k : Token V) → item_of b k ≡ SignalOn b ∷ [] → k ≡ Signal
signal_of_item b Idle e = absurd cc
signal_of_item b (Message y) e = absurd cc
signal_of_item b Held e = absurd cc
signal_of_item b Signal e = refl

is_busy : (V : Type 0) (z : Bool) → is_idle (token_if {V = V} z) ≡ false → z ≡ true
is_busy V true e = refl
is_busy V false e = absurd cc

-- the environment has the place of the source
entry_place : {S : Type 0} (t : SetupData S) → t.diffusion.source ≢ 0 → place_in t 0 ≡ place_in t t.diffusion.source
unfolding place_in
entry_place t ne = go t.diffusion.source ne
  where
    go : (s : ℕ) → s ≢ 0 → get_or t.plan.list (s - 1) 0 ≡ get_or (get_or t.plan.list (s - 1) 0 ∷ t.plan.list) s 0
    go zero n = absurd (n refl)
    go (suc s) n = ap (λ z. get_or t.plan.list z 0) (let e : suc s - 1 ≡ s = omega arith in e)

module _ {S V : Type 0} (meaning : S → Algebra V) (p : PartData S V) (L : Lawful (meaning p.setup.diffusion.algebra))
    (W : WellFormed (network_of p.setup)) (c : CoreState V) (K : CoreInvariant (meaning p.setup.diffusion.algebra) (network_of p.setup) 0 c) where
  abbrev Share : List (Item V) → Type 0
  Share xs = HoldsShareIn (meaning p.setup.diffusion.algebra) (network_of p.setup) (place_in p.setup) c (record p { queue = xs })

  -- in whatever order the items stand
  reordered : (xs ys : List (Item V)) → ((f : Item V → ℕ) → total f ys ≡ total f xs) → Share xs → Share ys
  reordered xs ys e H = record {
    tables = record { agree = H.tables.agree; wide = H.tables.wide };
    weighs = λ h. let w = H.weighs h in let q = e (h p.shard) in omega (arith, w, q);
  }

  -- an arc between two shards is one of the graph's
  real_arc : (a : ℕ) → a < suc (network_of p.setup).arcs → place_in p.setup ((network_of p.setup).tail a) ≢ place_in p.setup ((network_of p.setup).head a) → HasArc p.setup.diffusion.roads a
  real_arc zero l ne = absurd (ne (ap (place_in p.setup) W.tail_zero ∙ entry_place p.setup W.source_in ∙ ap (place_in p.setup) (sym W.head_zero)))
  real_arc (suc a) l ne = (omega arith, omega (arith, l))

  one_fits : (i : Item V) (rest : List (Item V)) (j : ℕ) → j ≢ p.shard → place_in p.setup (maker_of (network_of p.setup) i) ≡ j → Share (i ∷ rest) → FitsAlone (meaning p.setup.diffusion.algebra) p i
  one_fits (MessageOn a x) rest j ne made H =
      let A = meaning p.setup.diffusion.algebra in let N = network_of p.setup in
      let T = item_stands A N (place_in p.setup) L c (record p { queue = MessageOn a x ∷ rest }) (MessageOn a x) rest H (IsPermutation-refl _) in
      let tok : c.token a ≡ Message x = message_of_item a (c.token a) x T.token in
      let away : place_in p.setup (N.tail a) ≢ p.shard = λ q. ne (sym made ∙ q) in (
        walk_value_is_value A N L W (N.head a) x (K.message_walk a x tok),
        real_arc a T.real (λ q. away (q ∙ T.here)),
        (T.here, away, message_free A N (place_in p.setup) c (record p { queue = MessageOn a x ∷ rest }) a x K H.tables tok (eq-eqb _ _ T.here)),
      )
  one_fits (SignalOn a) rest j ne made H =
      let A = meaning p.setup.diffusion.algebra in let N = network_of p.setup in
      let T = item_stands A N (place_in p.setup) L c (record p { queue = SignalOn a ∷ rest }) (SignalOn a) rest H (IsPermutation-refl _) in
      let tok : c.token a ≡ Signal = signal_of_item a (c.token a) T.token in
      let away : place_in p.setup (N.head a) ≢ p.shard = λ q. ne (sym made ∙ q) in (
        real_arc a T.real (λ q. away (sym q ∙ T.here)),
        (T.here, away, is_busy V (get_or p.busy a false) (signal_busy A N (place_in p.setup) c (record p { queue = SignalOn a ∷ rest }) a H.tables tok (eq-eqb _ _ T.here))),
      )

  each_fits : (before xs : List (Item V)) (j : ℕ) → j ≢ p.shard → MadeAt p.setup j xs → Share (before ++ xs) → All (FitsAlone (meaning p.setup.diffusion.algebra) p) xs
  each_fits before [] j ne made H = tt
  each_fits before (i ∷ xs) j ne made H = (
    one_fits i (before ++ xs) j ne made.0 (reordered (before ++ i ∷ xs) (i ∷ before ++ xs) (λ f. let a = total_append f before (i ∷ xs) in let b = total_append f before xs in omega (arith, a, b)) H),
    each_fits (before ++ i ∷ []) xs j ne made.1 (subst Share (sym (append_assoc before (i ∷ []) xs)) H),
  )

  -- the queue as it is with the batch
  pub arrives : (xs : List (Item V)) (j : ℕ) → j ≢ p.shard → MadeAt p.setup j xs
      → HoldsShareIn (meaning p.setup.diffusion.algebra) (network_of p.setup) (place_in p.setup) c (joined p xs) → MayReceive meaning p xs
  arrives xs j ne made H =
      let A = meaning p.setup.diffusion.algebra in let N = network_of p.setup in (
        (let q = queue_fits A N (place_in p.setup) c (joined p xs) H in let l = length-append p.queue xs in omega (arith, q, l)),
        record {
          apart = λ b. let o = arc_once A N (place_in p.setup) c (joined p xs) b H in let a = total_append (λ j. is b (item_arc j)) p.queue xs in omega (arith, o, a);
          each = each_fits p.queue xs j ne made H;
        },
      )

module _ {V : Type 0} (A : Algebra V) (N : Network) (place : ℕ → ℕ) where
  -- how many items stand on the arc b
  abbrev items_on : CoreState V → ℕ → ℕ
  items_on c b = total (at_place N place (λ _ _. 1)) (item_of b (c.token b))

  message_stands : (b : ℕ) (t : Token V) → is_message t ≡ true → total (at_place N place (λ _ _. 1)) (item_of b t) ≡ 1
  message_stands b Idle h = absurd (false≢true h)
  message_stands b (Message x) h = omega arith
  message_stands b Held h = absurd (false≢true h)
  message_stands b Signal h = absurd (false≢true h)

  signal_stands : (b : ℕ) (t : Token V) → is_signal t ≡ true → total (at_place N place (λ _ _. 1)) (item_of b t) ≡ 1
  signal_stands b Idle h = absurd (false≢true h)
  signal_stands b (Message x) h = absurd (false≢true h)
  signal_stands b Held h = absurd (false≢true h)
  signal_stands b Signal h = omega arith

  enabled_stands : (c : CoreState V) (e : Event) → is_enabled c e ≡ true → (b : ℕ) × (items_on c b ≡ 1)
  enabled_stands c (Deliver b) h = (b, message_stands b (c.token b) h)
  enabled_stands c (Accept b) h = (b, signal_stands b (c.token b) h)

  item_inside : IsLawful A → WellFormed N → (es : List Event) (b : ℕ) → items_on (state_after A N es) b ≡ 1 → 1 ≤ in_flight N place (state_after A N es) (λ _ _. 1)
  item_inside L W es b o = elim (cases_lt b (suc N.arcs)) [
    | inl l ↦ (let s = sum_term (items_on (state_after A N es)) b (suc N.arcs) l in omega (arith, s, o))
    | inr l ↦ absurd (let i = past_idle A N W (state_after A N es) (reached_kept A N L W es) b l in let z = ap (λ t. total (at_place N place (λ _ _. 1)) (item_of b t)) i in omega (arith, z, o))
  ]

  quiet_weighs : (c : CoreState V) → IsQuiet c → in_flight N place c (λ _ _. 1) ≡ 0
  quiet_weighs c Q = sum_zero (items_on c) (suc N.arcs) (λ b. ap (λ t. total (at_place N place (λ _ _. 1)) (item_of b t)) (Q.0 b))

  pub ended_empty : IsLawful A → WellFormed N → (es : List Event) → HasEnded (state_after A N es) ↔ (in_flight N place (state_after A N es) (λ _ _. 1) ≡ 0)
  ended_empty L W es = (
    (λ q. quiet_weighs (state_after A N es) (ended A N L W es q).0),
    (λ z. elim (never_stuck A N L W es) [
      | inl q ↦ q
      | inr e ↦ absurd (let s = enabled_stands (state_after A N es) e.0 e.1 in let m = item_inside L W es s.0 s.1 in omega (arith, z, m))
    ]),
  )

  -- the same, until the end
  pub ended_or_waits : IsLawful A → WellFormed N → (es : List Event) → HasEnded (state_after A N es) ⊎ (1 ≤ in_flight N place (state_after A N es) (λ _ _. 1))
  ended_or_waits L W es = elim (never_stuck A N L W es) [
    | inl q ↦ inl q
    | inr e ↦ inr (let s = enabled_stands (state_after A N es) e.0 e.1 in item_inside L W es s.0 s.1)
  ]

-- each item weighs one
count_is_length : {X : Type 0} (xs : List X) → total (λ _. 1) xs ≡ length xs
count_is_length [] = omega arith
count_is_length (x ∷ xs) = let h = count_is_length xs in omega (arith, h)

module _ {V : Type 0} where
  outbox_waits : (k : ℕ) (os : List (List (Item V))) → 1 ≤ outs_weight (λ _ _. 1) k os → (to : ℕ) × (0 < length (get_or os to []))
  outbox_waits k [] h = absurd (omega (arith, h))
  outbox_waits k (o ∷ os) h = elim (cases_lt 0 (length o)) [
    | inl l ↦ (0, l)
    | inr z ↦ (let c = count_is_length o in let r = outbox_waits (suc k) os (omega (arith, c, h, z)) in (suc r.0, r.1))
  ]

module _ {S V : Type 0} where
  part_waits : (p : PartData S V) → 1 ≤ part_weight (λ _ _. 1) p → (0 < length p.queue) ⊎ ((to : ℕ) × (0 < length (get_or p.outs to [])))
  part_waits p h = elim (cases_lt 0 (length p.queue)) [
    | inl l ↦ inl l
    | inr z ↦ inr (let c = count_is_length p.queue in outbox_waits 0 p.outs (omega (arith, c, h, z)))
  ]

  parts_wait : (parts : List (PartData S V)) → 1 ≤ total (part_weight (λ _ _. 1)) parts → QueueWaits parts ⊎ OutboxWaits parts
  parts_wait [] h = absurd (omega (arith, h))
  parts_wait (p ∷ parts) h = elim (cases_lt 0 (part_weight (λ _ _. 1) p)) [
    | inl l ↦ elim (part_waits p l) [ inl q ↦ inl (p, here p parts, q) | inr o ↦ inr (p, here p parts, o) ]
    | inr z ↦ elim (parts_wait parts (omega (arith, h, z))) [
      | inl q ↦ inl (q.0, later p q.0 parts q.1, q.2)
      | inr o ↦ inr (o.0, later p o.0 parts o.1, o.2)
    ]
  ]

  -- where items wait, one waits in a queue, in an outbox or in a mailbox
  pub one_waits : (parts : List (PartData S V)) (mail : (ℕ → Item V → ℕ) → ℕ) → 1 ≤ items_waiting parts mail → QueueWaits parts ⊎ (OutboxWaits parts ⊎ MailWaits mail)
  one_waits parts mail h = elim (cases_lt 0 (mail (λ _ _. 1))) [
    | inl l ↦ inr (inr l)
    | inr z ↦ elim (parts_wait parts (omega (arith, h, z))) [ inl q ↦ inl q | inr o ↦ inr (inl o) ]
  ]
