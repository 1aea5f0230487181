-- Diffusions that were run to their end, and those that were gathered.
use Rattle.std.specs.Prelude.{◌≡◌, ℕ, ◌+◌, ◌<◌, List, [], ◌∷◌, ◌++◌, length, map, get_or, drop, true, Option, Some, None}
use Rattle.std.specs.List.{All, flat_map}
use Rattle.road_graph.specs.GraphData.{GraphData}
use Rattle.road_files.specs.Asked.{FromSource, Question, sources_of}
use Rattle.road_files.specs.declared.questions.Kind.{Kind}
use Rattle.road_files.specs.declared.questions.Kind.TheVariants.{Sources, Pairs}
use Rattle.path_algebra.specs.Algebra.{Algebra}
use Rattle.path_algebra.specs.Walks.{AreBest}
use Rattle.shard_store.specs.Setup.{SetupData}
use Rattle.post_floor.specs.Data.{FloorData}
use Rattle.station.specs.Station.{StationData, BelongsTo}
use Rattle.worker_fleet.specs.Groups.{HasShard}
use Rattle.question_solvers.specs.Solved.{IsSolution}
use Rattle.question_solvers.specs.declared.solved.Solved.{Solved}
use Rattle.batch_run.specs.declared.solve.diffusion.GatheredDiffusion.{GatheredDiffusion}
use Rattle.batch_run.specs.declared.solve.diffusion.Labelling.{Labelling}
use Rattle.batch_run.specs.declared.solve.diffusion.Labelling.TheVariants as labelling
use Rattle.batch_run.specs.declared.solve.queue.DiffusionQueue.{DiffusionQueue}
use Rattle.batch_settings.specs.declared.settings.Settings.{Settings}
use Rattle.batch_run.specs.Cut.{IsCut, pace_of}
use Rattle.batch_run.specs.Reports.{IsAccount}

-- question i is one of them, and j the place of a source of it
pub record HasSource (questions : List Question) (i j : ℕ) : Type 0 where
  pub question : i < length questions
  pub source : (default : Question) → j < length (sources_of (get_or questions i default))

-- the sources that are still to come, from source j of question i on
unfoldable pub sources_to_come : List Question → ℕ → ℕ → List ℕ
sources_to_come questions i j = drop j (flat_map sources_of (drop i questions))

-- the next of them, which is source j of question i
abbrev pub IsNextSource : List Question → (i j source : ℕ) → Type 0
IsNextSource questions i j source = sources_to_come questions i j ≡ source ∷ sources_to_come questions i (j + 1)

-- a diffusion was run to its end on this floor: each of its stations is here, and has ended
pub record AreEnded {A V : Type 0} (t : SetupData A) (floor : FloorData A) (stations : List (StationData A V)) : Type 0 where
  pub setup : floor.setup ≡ t
  pub own : All (BelongsTo floor) stations
  pub ended : All (λ s. s.ended ≡ true) stations
  pub all : (k : ℕ) → k < t.plan.shards → HasShard k stations

-- each question has one source, the only one of these, and the one from there is solved
pub record IsSolvedAhead {V : Type 0} (A : Algebra V) (g : GraphData) (kind : Kind) (sources : List ℕ) (s : Solved V) : Type 0 where
  pub kind_is : kind ≡ Sources
  pub source : ℕ
  pub sources_are : sources ≡ source ∷ []
  pub solved : IsSolution A g kind (FromSource source) s

-- labels are best from these sources, or the question from there is solved
abbrev pub IsLabelling : {V : Type 0} → Algebra V → GraphData → Kind → List ℕ → Labelling V → Type 0
IsLabelling A g kind sources (labelling.Labels labels) = AreBest A g sources labels
IsLabelling A g kind sources (labelling.Solved s) = IsSolvedAhead A g kind sources s

-- its labels, if it is not solved
abbrev pub labels_in : {V : Type 0} → Labelling V → Option (List (Option V))
labels_in (labelling.Labels labels) = Some labels
labels_in (labelling.Solved s) = None

-- a diffusion over the graph, for a question of this kind, was gathered: its labels are best from
-- its source, or the question is solved, and its counts are its own
pub record IsGatheredOver {V : Type 0} (A : Algebra V) (how : Settings) (g : GraphData) (kind : Kind) (d : GatheredDiffusion V) : Type 0 where
  pub labelling : IsLabelling A g kind (d.source ∷ []) d.labelling
  pub account : IsAccount A how g d.source d.tally

-- the plan is the graph's, it and the pace are those that the settings choose, and pairs have the
-- graph by head
abbrev pub IsChosen : {V : Type 0} → Settings → GraphData → Kind → DiffusionQueue V → Type 0
IsChosen how g kind queue = IsCut how g queue.counted.plan × (queue.counted.roads ≡ g) × (queue.pace ≡ pace_of how g) × (kind ≡ Pairs → queue.by_head ≡ Some g)

-- the plan and the pace are those that the settings choose, those that wait were gathered, and
-- their sources are a prefix of those to come
pub record AreNext {V : Type 0} (A : Algebra V) (how : Settings) (g : GraphData) (kind : Kind) (to_come : List ℕ) (queue : DiffusionQueue V) : Type 0 where
  pub chosen : IsChosen how g kind queue
  pub gathered : All (IsGatheredOver A how g kind) queue.waiting.items
  pub rest : List ℕ
  pub sources_are : to_come ≡ map (λ d. d.source) queue.waiting.items ++ rest
