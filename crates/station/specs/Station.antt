-- A station between two turns: a part with its seat on the floor.
use Rattle.std.specs.Prelude.{◌≡◌, ℕ, Bool, true, false, Option, None, List, [], ◌∷◌, get_or}
use Rattle.path_algebra.specs.Algebra.{Algebra}
use Rattle.path_algebra.specs.Walks.{IsBestLabel, AreBest}
use Rattle.shard_store.specs.Setup.{SetupData, network_of, place_in}
use Rattle.shard_part.specs.PartState.{PartData, state_in}
use Rattle.shard_part.specs.Readings.{IsOwn}
use Rattle.post_floor.specs.declared.view.View.{View}
use Rattle.post_floor.specs.Plays.{IsViewOf, HoldsReachedShare, HoldsEndedShare}
use Rattle.post_floor.specs.Data.{FloorData, SeatData}

-- a part, its seat, and whether its last turn reported the end
pub record StationData (S V : Type 0) : Type 0 where
  pub part : PartData S V
  pub seat : SeatData S V
  pub ended : Bool

-- the label is best for the vertex v of a diffusion: none if no walk to it has a value
abbrev pub IsBestFor : {S V : Type 0} → (S → Algebra V) → SetupData S → ℕ → Option V → Type 0
IsBestFor meaning t v o = IsBestLabel (meaning t.diffusion.algebra) t.diffusion.roads (t.diffusion.source ∷ []) v o

-- one label for each vertex of a diffusion, each of them best
abbrev pub AreBestFor : {S V : Type 0} → (S → Algebra V) → SetupData S → List (Option V) → Type 0
AreBestFor meaning t labels = AreBest (meaning t.diffusion.algebra) t.diffusion.roads (t.diffusion.source ∷ []) labels

-- the station was opened together with the floor
pub record BelongsTo {S V : Type 0} (f : FloorData S) (s : StationData S V) : Type 0 where
  pub floor : s.seat.floor ≡ f.id
  pub setup : s.part.setup ≡ f.setup

-- its last turn reported the end
abbrev pub ReportedEnd : {S V : Type 0} → StationData S V → Type 0
ReportedEnd s = s.ended ≡ true

-- it is filling no mailbox and reading none
abbrev pub IsFree : {S V : Type 0} → View S V → Type 0
IsFree v = (v.fills ≡ []) × (v.reads ≡ [])

module _ {S V : Type 0} (meaning : S → Algebra V) where
  -- nothing is under way in the part, and each label of its vertices is best: none exactly if no
  -- walk has a value
  pub record IsOverPart (p : PartData S V) : Type 0 where
    pub best : (v : ℕ) → IsOwn p v → IsBestFor meaning p.setup v ((state_in p).label v)
    pub neutral : (v : ℕ) → IsOwn p v → (state_in p).engager v ≡ None
    pub idle : (b : ℕ) → place_in p.setup ((network_of p.setup).tail b) ≡ p.shard → get_or p.busy b false ≡ false
    pub queue : p.queue ≡ []
    pub outs : (j : ℕ) → get_or p.outs j [] ≡ []

  -- The diffusion has ended, as the station knows: its view has seen the done word at 1, its part
  -- holds its share of an ended state, each label of its vertices is best, and nothing is under way
  -- in it.
  pub record IsOver (s : StationData S V) : Type 0 where
    pub seen : s.seat.knows.seen ≡ true
    pub ended : HoldsEndedShare meaning s.part
    pub part : IsOverPart s.part

  -- What holds of every station between two turns: its view has its part, it is filling no mailbox
  -- and reading none, the part holds its share of a state that some events lead to, and if the last
  -- turn reported the end, the diffusion is over.
  pub record IsStation (s : StationData S V) : Type 0 where
    pub shard : s.seat.shard ≡ s.part.shard
    pub shows : IsViewOf s.seat.knows s.part
    pub free : IsFree s.seat.knows
    pub known : HoldsReachedShare meaning s.part
    pub over : ReportedEnd s → IsOver s
