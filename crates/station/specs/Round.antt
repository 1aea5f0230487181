-- Rounds in which no station finds anything to do.
use Rattle.std.specs.Prelude.{◌≡◌, ◌≢◌, ◌⊎◌, ℕ, ◌<◌, Bool, false, List, [], ◌∷◌, ◌++◌, map, get_or, Contains}
use mathlib.Core.Option.{some}
use lib.ListN.{get_elem?}
use Rattle.atomic_table.specs.Table.{State}
use Rattle.path_algebra.specs.Algebra.{Algebra}
use Rattle.shard_part.specs.Weights.{All}
use Rattle.post_floor.specs.declared.view.View.{View}
use Rattle.post_floor.specs.declared.view.WordStep.{WordStep}
use Rattle.post_floor.specs.Boxes.{box_count}
use Rattle.post_floor.specs.Data.{FloorData, AreSlots}
use Rattle.post_floor.specs.Floor.{Slot, fill_claims, read_claims}
use Rattle.station.specs.declared.turn.Report.{Report}
use Rattle.station.specs.Station.{StationData, IsStation}
use Rattle.station.specs.Turn.{HoldsNothingBack, Turned}

-- nothing was handled, taken or published
abbrev pub nothing_done : (held ended : Bool) → Report
nothing_done held ended = record { handled = 0; taken = 0; published = 0; held = held; ended = ended }

-- each step at a mailbox found the number that is in its word
abbrev pub AreFound : ℕ → List ℕ → List WordStep → Type 0
AreFound n words steps = All (λ x. x.word < box_count n → get_or words x.word 0 ≡ x.number) steps

-- the words of the mailboxes between n shards are the same; the done word need not be
abbrev pub IsSameMail : ℕ → List ℕ → List ℕ → Type 0
IsSameMail n words now = (k : ℕ) → k < box_count n → get_or now k 0 ≡ get_or words k 0

module _ {S V : Type 0} where
  -- no seat is filling a mailbox or reading one
  pub record HasNoClaim (s : State (Slot V) (View S V)) : Type 0 where
    pub fills : (k id : ℕ) (v : View S V) → get_elem? s.views id ≡ some v → fill_claims k v ≡ 0
    pub reads : (k id : ℕ) (v : View S V) → get_elem? s.views id ≡ some v → read_claims k v ≡ 0

  -- the floor is as it was, but for the done word and one view, which is v now
  pub record IsSameBut (n id : ℕ) (v : View S V) (before after : State (Slot V) (View S V)) : Type 0 where
    pub words : IsSameMail n before.words after.words
    pub homes : after.homes ≡ before.homes
    pub others : (i : ℕ) → i ≢ id → get_elem? after.views i ≡ get_elem? before.views i
    pub own : get_elem? after.views id ≡ some v

-- a turn of the station whose view has this number, and the floor as it leaves it
pub record TurnAt (S V : Type 0) : Type 0 where
  pub id : ℕ
  pub before : StationData S V
  pub after : StationData S V
  pub left : State (Slot V) (View S V)

module _ {S V : Type 0} (meaning : S → Algebra V) (f : FloorData S) (budget : ℕ) where
  -- A quiet turn of a station that has not reported the end: it does nothing, its steps find the
  -- mailboxes as they are, and the floor stays the same, but for the station's view and the done
  -- word. Nothing is held back either, best first among several shards; otherwise nothing ever is.
  pub record IsQuietTurn (s : State (Slot V) (View S V)) (t : TurnAt S V) : Type 0 where
    pub view : get_elem? s.views t.id ≡ some t.before.seat.knows
    pub shard : t.before.part.shard < f.setup.plan.shards
    pub fills : AreSlots f.setup.plan.shards t.before.seat.knows.next_fill
    pub reads : AreSlots f.setup.plan.shards t.before.seat.knows.next_read
    pub was : IsStation meaning t.before
    pub unaware : t.before.ended ≡ false
    pub held : Bool
    pub unheld : (held ≡ false) ⊎ HoldsNothingBack f
    pub turned : Turned meaning f budget t.before (nothing_done held t.after.ended) t.after
    pub now : IsStation meaning t.after
    pub steps : List WordStep
    pub made : t.after.seat.knows.steps ≡ t.before.seat.knows.steps ++ steps
    pub found : AreFound f.setup.plan.shards s.words steps
    pub same : IsSameBut f.setup.plan.shards t.id t.after.seat.knows s t.left

  -- quiet turns, each from the floor as the one before left it
  abbrev pub AreQuietTurns : State (Slot V) (View S V) → List (TurnAt S V) → State (Slot V) (View S V) → Type 0
  AreQuietTurns s [] end = end ≡ s
  AreQuietTurns s (t ∷ turns) end = IsQuietTurn s t × AreQuietTurns t.left turns end

  -- A quiet round: quiet turns, one after the other, among them one of each view that has a part.
  pub record IsQuietRound (s end : State (Slot V) (View S V)) : Type 0 where
    pub turns : List (TurnAt S V)
    pub quiet : AreQuietTurns s turns end
    pub each : (id : ℕ) (v : View S V) → get_elem? s.views id ≡ some v → v.parts ≢ [] → Contains (map (λ t. t.id) turns) id
