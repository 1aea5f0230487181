-- A diffusion with one shard: its station has all of it.
use Rattle.std.specs.Prelude.{◌≡◌, ◌⊎◌, ℕ, ◌+◌, ◌*◌, ◌≤◌, List, [], ◌∷◌, ◌++◌, length}
use Rattle.path_algebra.specs.Algebra.{Algebra}
use Rattle.scholten_core.specs.declared.event.Event.{Event}
use Rattle.scholten_core.specs.Diffusion.{opening, count_enabled}
use Rattle.scholten_core.specs.SimpleWalks.{message_bound}
use Rattle.shard_store.specs.declared.queue_order.QueueOrder.TheVariants.{BestFirst}
use Rattle.shard_store.specs.Setup.{SetupData, network_of, IsPlanned}
use Rattle.shard_part.specs.OnePart.{AreBestFirstIfOne, OwnOutboxIsEmpty}
use Rattle.shard_part.specs.Represents.{Represents, core_of}
use Rattle.station.specs.declared.turn.Report.{Report}
use Rattle.station.specs.Station.{StationData, ReportedEnd}

-- the plan has one shard
pub record HasOneShard {S : Type 0} (t : SetupData S) : Type 0 where
  pub planned : IsPlanned t 0
  pub one : t.plan.shards ≡ 1

-- a turn for each event that the diffusion may have, and one
abbrev pub turns_suffice : {S : Type 0} → SetupData S → ℕ
turns_suffice t = 2 * message_bound t.diffusion.roads t.diffusion.source + 1

-- the same best first, where a message goes along each arc at most once: two turns for each arc,
-- two for the message into the source, and one
abbrev pub best_first_turns_suffice : {S : Type 0} → SetupData S → ℕ
best_first_turns_suffice t = 2 * (length t.diffusion.roads.arcs + 1) + 1

-- so many turns are enough, by the one number or, best first, by the other
abbrev pub AreEnoughTurns : {S : Type 0} → SetupData S → ℕ → Type 0
AreEnoughTurns t turns = (turns_suffice t ≤ turns) ⊎ ((t.order ≡ BestFirst) × (best_first_turns_suffice t ≤ turns))

-- The station's part alone, without any mailbox, represents the state that these events lead to,
-- each of them enabled in its turn; and best first, they take the best waiting message first.
pub record HasAll {S V : Type 0} (meaning : S → Algebra V) (t : SetupData S) (events : List Event) (s : StationData S V) : Type 0 where
  pub shown : Represents meaning t (s.part ∷ []) (λ _. 0) (core_of meaning t events)
  pub enabled : count_enabled (meaning t.diffusion.algebra) (network_of t) (opening (meaning t.diffusion.algebra) (network_of t)) events ≡ length events
  pub best : AreBestFirstIfOne meaning t events
  pub own : OwnOutboxIsEmpty s.part
  pub shard : s.part.shard ≡ 0
  pub seat : s.seat.shard ≡ 0

-- What a turn comes to: more events, as many as items were handled, and it reported the end or used
-- up its budget.
pub record WentOn {S V : Type 0} (meaning : S → Algebra V) (t : SetupData S) (budget : ℕ) (events : List Event) (r : Report) (after : StationData S V) : Type 0 where
  pub more : List Event
  pub count : length more ≡ r.handled
  pub has_all : HasAll meaning t (events ++ more) after
  pub goes_on : ReportedEnd after ⊎ (r.handled ≡ budget)
