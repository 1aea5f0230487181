-- The diffusing computation after Dijkstra and Scholten: its state, and what each event does to it.
use Rattle.std.specs.Prelude.{◌≡◌, ℕ, zero, suc, ◌+◌, Bool, true, false, cond, not, ◌&&◌, ◌||◌, eqb, Option, Some, None, List, [], ◌∷◌}
use Rattle.scholten_core.specs.declared.token.Token.{Token}
use Rattle.scholten_core.specs.declared.token.Token.TheVariants.{Idle, Message, Held, Signal}
use Rattle.scholten_core.specs.declared.event.Event.{Event}
use Rattle.scholten_core.specs.declared.event.Event.TheVariants.{Deliver, Accept}
use Rattle.path_algebra.specs.Algebra.{Algebra}
use Rattle.scholten_core.specs.Network.{Network}

-- labels and engagers by the vertex's number, tokens and the labels last offered by the arc's; a
-- vertex without an engager is neutral
pub record CoreState (V : Type 0) : Type 0 where
  pub label : ℕ → Option V
  pub engager : ℕ → Option ℕ
  pub token : ℕ → Token V
  pub told : ℕ → Option V

-- nothing is on the arc
abbrev pub is_idle : {V : Type 0} → Token V → Bool
is_idle Idle = true
is_idle (Message x) = false
is_idle Held = false
is_idle Signal = false

-- a message is on the arc
abbrev pub is_message : {V : Type 0} → Token V → Bool
is_message Idle = false
is_message (Message x) = true
is_message Held = false
is_message Signal = false

-- a signal is on the arc
abbrev pub is_signal : {V : Type 0} → Token V → Bool
is_signal Idle = false
is_signal (Message x) = false
is_signal Held = false
is_signal Signal = true

-- a delivery is enabled if a message is on the arc, an acceptance if a signal is
abbrev pub is_enabled : {V : Type 0} → CoreState V → Event → Bool
is_enabled c (Deliver a) = is_message (c.token a)
is_enabled c (Accept a) = is_signal (c.token a)

-- the environment's arc is idle
abbrev pub HasEnded : {V : Type 0} → CoreState V → Type 0
HasEnded c = c.token 0 ≡ Idle

-- every arc is idle and every vertex neutral
abbrev pub IsQuiet : {V : Type 0} → CoreState V → Type 0
IsQuiet c = ((b : ℕ) → c.token b ≡ Idle) × ((v : ℕ) → c.engager v ≡ None)

-- f with x at k
unfoldable pub put : {X : Type 0} → (ℕ → X) → ℕ → X → ℕ → X
put f k x j = cond (eqb j k) x (f j)

-- a test passes at each number below n
abbrev pub all_below : (ℕ → Bool) → ℕ → Bool
all_below p zero = true
all_below p (suc n) = p n && all_below p n

-- the engager after a message on arc a: the arc that engaged first stays
abbrev pub engaged_by : Option ℕ → ℕ → Option ℕ
engaged_by None a = Some a
engaged_by (Some e) a = Some e

-- what the message's arc then holds: a neutral vertex is engaged by it, any other answers at once
abbrev pub answer_to : {V : Type 0} → Option ℕ → Token V
answer_to None = Held
answer_to (Some e) = Signal

-- what is sent along an arc: nothing if the extension is refused
abbrev pub sent : {V : Type 0} → Option V → Token V
sent None = Idle
sent (Some y) = Message y

module _ {V : Type 0} (A : Algebra V) where
  -- there is no label yet, or the value is strictly better
  abbrev pub improves : V → Option V → Bool
  improves x None = true
  improves x (Some y) = A.no_worse x y && not (A.no_worse y x)

  abbrev pub better_of : V → Option V → Option V
  better_of x o = cond (improves x o) (Some x) o

  abbrev pub same_label : Option V → Option V → Bool
  same_label None None = true
  same_label None (Some y) = false
  same_label (Some x) None = false
  same_label (Some x) (Some y) = A.no_worse x y && A.no_worse y x

  abbrev pub extend_label : Option V → ℕ → Option V
  extend_label None w = None
  extend_label (Some x) w = A.extend x w

module _ {V : Type 0} (A : Algebra V) (N : Network) where
  -- a message with the origin is on arc 0, and nothing else has happened
  abbrev pub opening : CoreState V
  opening = record {
    label = λ _. None;
    engager = λ _. None;
    token = put (λ _. Idle) 0 (Message A.origin);
    told = λ _. None;
  }

  -- the value x comes along arc a: the head's label becomes the better one, and a neutral head is
  -- engaged
  abbrev pub arrive : ℕ → V → CoreState V → CoreState V
  arrive a x c = record {
    label = put c.label (N.head a) (better_of A x (c.label (N.head a)));
    engager = put c.engager (N.head a) (engaged_by (c.engager (N.head a)) a);
    token = put c.token a (answer_to (c.engager (N.head a)));
    told = c.told;
  }

  -- an idle arc out of v whose last offered label is not that of v
  unfoldable pub is_due : ℕ → CoreState V → ℕ → Bool
  is_due v c b = eqb (N.tail b) v && is_idle (c.token b) && not (same_label A (c.told b) (c.label v))

  -- each due arc out of v is offered the label of v, and is sent it extended
  abbrev pub pump : ℕ → CoreState V → CoreState V
  pump v c = record {
    label = c.label;
    engager = c.engager;
    token = λ b. cond (is_due v c b) (sent (extend_label A (c.label v) (N.weight b))) (c.token b);
    told = λ b. cond (is_due v c b) (c.label v) (c.told b);
  }

  -- the same at the arc b alone
  abbrev pub pump_one : ℕ → ℕ → CoreState V → CoreState V
  pump_one v b c = record {
    label = c.label;
    engager = c.engager;
    token = put c.token b ((pump v c).token b);
    told = put c.told b ((pump v c).told b);
  }

  -- all arcs out of v are idle
  unfoldable pub out_idle : ℕ → CoreState V → Bool
  out_idle v c = all_below (λ b. not (eqb (N.tail b) v) || is_idle (c.token b)) (suc N.arcs)

  -- v, with this engager, becomes neutral if the test holds, and its engager's arc gets a signal
  abbrev pub released : ℕ → CoreState V → Option ℕ → Bool → CoreState V
  released v c None t = c
  released v c (Some e) false = c
  released v c (Some e) true = record {
    label = c.label;
    engager = put c.engager v None;
    token = put c.token e Signal;
    told = c.told;
  }

  -- an engaged vertex with no busy arc out becomes neutral
  abbrev pub rest : ℕ → CoreState V → CoreState V
  rest v c = released v c (c.engager v) (out_idle v c)

  abbrev pub settle : ℕ → CoreState V → CoreState V
  settle v c = rest v (pump v c)

  -- the event of a delivery on arc a, whose token is given: the message arrives, then the head
  -- pumps and rests
  abbrev pub delivered : ℕ → CoreState V → Token V → CoreState V
  delivered a c Idle = c
  delivered a c (Message x) = settle (N.head a) (arrive a x c)
  delivered a c Held = c
  delivered a c Signal = c

  -- v is the tail of the arc, and settles unless the arc is the environment's
  abbrev pub settle_tail : ℕ → ℕ → CoreState V → CoreState V
  settle_tail zero v c = c
  settle_tail (suc a) v c = settle v c

  abbrev pub freed : ℕ → CoreState V → CoreState V
  freed a c = record { label = c.label; engager = c.engager; token = put c.token a Idle; told = c.told }

  -- the event of an acceptance on arc a, whose token is given: the arc is idle, then its tail pumps
  -- and rests
  abbrev pub accepted : ℕ → CoreState V → Token V → CoreState V
  accepted a c Idle = c
  accepted a c (Message x) = c
  accepted a c Held = c
  accepted a c Signal = settle_tail a (N.tail a) (freed a c)

  -- an event that is not enabled changes nothing
  abbrev pub step : CoreState V → Event → CoreState V
  step c (Deliver a) = delivered a c (c.token a)
  step c (Accept a) = accepted a c (c.token a)

  abbrev pub run_from : CoreState V → List Event → CoreState V
  run_from c [] = c
  run_from c (e ∷ es) = run_from (step c e) es

  -- how many of the events are enabled, each in its turn
  abbrev pub count_enabled : CoreState V → List Event → ℕ
  count_enabled c [] = 0
  count_enabled c (e ∷ es) = cond (is_enabled c e) 1 0 + count_enabled (step c e) es

  -- the state that a list of events leads to
  abbrev pub state_after : List Event → CoreState V
  state_after events = run_from opening events
