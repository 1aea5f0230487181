-- What contracts say of a batch, over a graph or with its solver, where `may_answer` says what its
-- gate may answer.
use Rattle.std.specs.Prelude.{◌≡◌, ℕ, ◌+◌, Bool, false, List, Option, Result, OnOk, Vec, get_or}
use Rattle.std.specs.declared.alloc.Global.{Global}
use Rattle.road_graph.specs.GraphData.{GraphData}
use Rattle.road_files.specs.Asked.{Asked, Question, asked_of}
use Rattle.road_files.specs.declared.questions.Kind.{Kind}
use Rattle.text_lines.specs.Streams.{Output}
use Rattle.path_algebra.specs.declared.algebra.PathAlgebra.{Ghosts}
use Rattle.path_algebra.specs.Algebra.{Algebra}
use Rattle.path_algebra.specs.declared.counted_sums.Cost.{Cost}
use Rattle.shard_store.specs.Plans.{PlanData}
use Rattle.shard_store.specs.Setup.{setup_of}
use Rattle.shard_store.specs.Tallies.{tally_of}
use Rattle.post_floor.specs.Data.{FloorData}
use Rattle.station.specs.Gather.{counts_in}
use Rattle.station.specs.Opened.{AreOpened}
use Rattle.station.specs.Station.{StationData}
use Rattle.worker_fleet.specs.declared.group.GroupFault.{GroupFault}
use Rattle.question_solvers.specs.Solved.{IsSolvedFor}
use Rattle.question_solvers.specs.declared.solved.Solved.{Solved}
use Rattle.batch_run.specs.declared.batch.Batch.{Batch}
use Rattle.batch_run.specs.declared.batch.BatchOver.{BatchOver}
use Rattle.batch_run.specs.declared.cause.Cause.{Cause}
use Rattle.batch_run.specs.declared.solve.Solver.{Solver}
use Rattle.batch_run.specs.declared.solve.diffusion.EndedDiffusion.{EndedDiffusion}
use Rattle.batch_run.specs.declared.solve.diffusion.GatheredDiffusion.{GatheredDiffusion}
use Rattle.batch_run.specs.declared.solve.diffusion.Labelling.{Labelling}
use Rattle.batch_run.specs.declared.solve.pace.Pace.{Pace}
use Rattle.batch_run.specs.declared.solve.queue.DiffusionQueue.{DiffusionQueue}
use Rattle.batch_run.specs.declared.watcher.Progress.{Progress}
use Rattle.batch_run.specs.Causes.{MayStop}
use Rattle.batch_run.specs.Cut.{IsCut, order_of}
use Rattle.batch_run.specs.Diffusions.{AreEnded, AreNext, IsGatheredOver, IsLabelling, sources_to_come}
use Rattle.batch_run.specs.Factored.{IsPreparedBy, MayTell}
use Rattle.batch_run.specs.Reports.{ReportedAllOrPrefix, ReportedFirst, accounts_due}
use Rattle.batch_run.specs.Solvers.{IsReady, IsSameSolver, graph_of, is_without_diffusions}
use Rattle.batch_run.specs.Stopping.{Stops}

module _ {S R T V : Type 0} {G : Ghosts S V} (batch : Batch S R T V G) where
  -- what is asked in it
  abbrev pub asked_in : Asked
  asked_in = asked_of batch.task.questions.now

  -- its question at a place
  abbrev pub question_at : ℕ → Question → Question
  question_at i default = get_or (asked_of batch.task.questions.now).questions i default

module _ {S R T V : Type 0} {G : Ghosts S V} (meaning : S → Algebra V) (batch : Batch S R T V G) where
  -- its diffusions for question i over this graph were reported, if it is answered by them; before a
  -- fault, the first of them
  abbrev pub ReportedAccounts : {X Y E : Type 0} → GraphData → (undiffused : Bool) → ℕ → (X → Progress → X → Type 0) → (old new : X) → Result Y E → Type 0
  ReportedAccounts g undiffused i may_become old new result =
      (default : Question) → ReportedAllOrPrefix (meaning batch.task.algebra) batch.settings.now g may_become (accounts_due undiffused (i + 1) (question_at batch i default)) old new result

-- after its question at this place it is the same solver, and after a success ready for the next
pub record IsAfter {S R T V Y E : Type 0} {G : Ghosts S V} (meaning : S → Algebra V) (batch : Batch S R T V G) (i : ℕ) (old new : Solver S V G) (outcome : Result Y E) : Type 0 where
  pub same : IsSameSolver old new
  pub ready : OnOk outcome (IsReady meaning batch (i + 1) new)

module _ {S R T V : Type 0} {G : Ghosts S V} (meaning : S → Algebra V) (may_answer : T → ℕ → ℕ → Bool → Type 0) (batch : Batch S R T V G) where
  -- this fault stops its diffusions over this graph
  abbrev pub StopsBatch : GraphData → GroupFault → Type 0
  StopsBatch g = Stops meaning batch.task.algebra g batch.settings.now (may_answer batch.gate.now)

  -- it may stop for this, if this solver answers
  abbrev pub MayStopBatch : Solver S V G → Cause → Type 0
  MayStopBatch s = MayStop (is_without_diffusions s) (StopsBatch (graph_of s))

-- the first reports that are due of it were made to a watcher, if this solver answers; if it is
-- whole, all
abbrev pub ReportedBatch : {S R T V X W : Type 0} {G : Ghosts S V} → (S → Algebra V) → (S → Option Cost) → Batch S R T V G → Solver S V G → (X → Progress → X → Type 0) → (old new : X) → (out out_after : Output W) → (whole : Bool) → Type 0
ReportedBatch meaning cost batch s =
    ReportedFirst (meaning batch.task.algebra) batch.settings.now (graph_of s) (asked_in batch) (is_without_diffusions s) (IsPreparedBy s)
    (MayTell meaning cost batch s)

-- of a batch over a graph
module _ {S R T V : Type 0} {G : Ghosts S V} (over : BatchOver S R T V G) where
  -- the kind of its questions
  abbrev pub kind_in : Kind
  kind_in = (asked_in over.batch.now).kind

  -- its questions
  abbrev pub questions_in : List Question
  questions_in = (asked_in over.batch.now).questions

  -- the plan has as many blocks as its settings say
  abbrev pub IsCutIn : PlanData → Type 0
  IsCutIn = IsCut over.batch.now.settings.now over.graph.now

  -- a diffusion was run to its end, over this plan and in the order that they choose
  abbrev pub IsEndedIn : PlanData → EndedDiffusion S V → Type 0
  IsEndedIn plan e = AreEnded (setup_of over.batch.now.task.algebra over.graph.now e.source plan (order_of over.batch.now.settings.now)) e.floor e.stations.items

  -- the counts of one that was gathered are what stations of this floor counted, on which it was run
  -- to its end
  abbrev pub IsCountedIn : PlanData → FloorData S → GatheredDiffusion V → Type 0
  IsCountedIn plan floor d = (e : EndedDiffusion S V) × (e.floor ≡ floor) × IsEndedIn plan e × (d.source ≡ e.source) × (d.tally ≡ tally_of (counts_in e.stations.items))

module _ {S R T V : Type 0} {G : Ghosts S V} (meaning : S → Algebra V) (over : BatchOver S R T V G) where
  -- a diffusion from this source was opened, over this plan and at this pace: a floor and stations
  abbrev pub IsOpenedIn : PlanData → Pace → ℕ → FloorData S × Vec (StationData S V) Global → Type 0
  IsOpenedIn plan pace source o = AreOpened meaning (setup_of over.batch.now.task.algebra over.graph.now source plan pace.order) pace.ahead o.0 o.1.items

  -- one was gathered
  abbrev pub IsGatheredIn : GatheredDiffusion V → Type 0
  IsGatheredIn = IsGatheredOver (meaning over.batch.now.task.algebra) over.batch.now.settings.now over.graph.now (kind_in over)

  -- it is what this ended one came to: it is from its source, and its counts are what its stations
  -- counted together
  abbrev pub IsGatheredFromIn : EndedDiffusion S V → GatheredDiffusion V → Type 0
  IsGatheredFromIn e d = IsGatheredIn d × (d.source ≡ e.source) × (d.tally ≡ tally_of (counts_in e.stations.items))

  -- labels are best from these sources, or the question from there is solved
  abbrev pub IsLabellingIn : List ℕ → Labelling V → Type 0
  IsLabellingIn = IsLabelling (meaning over.batch.now.task.algebra) over.graph.now (kind_in over)

  -- this solves the question at a place
  abbrev pub IsSolvedIn : ℕ → Solved V → Type 0
  IsSolvedIn = IsSolvedFor (meaning over.batch.now.task.algebra) over.graph.now (asked_in over.batch.now)

  -- what waits goes on with the diffusion from source j of question i
  abbrev pub AreNextAt : (i j : ℕ) → DiffusionQueue V → Type 0
  AreNextAt i j = AreNext (meaning over.batch.now.task.algebra) over.batch.now.settings.now over.graph.now (kind_in over) (sources_to_come (questions_in over) i j)

-- this fault stops its diffusions
abbrev pub StopsOver : {S R T V : Type 0} {G : Ghosts S V} → (S → Algebra V) → (T → ℕ → ℕ → Bool → Type 0) → BatchOver S R T V G → GroupFault → Type 0
StopsOver meaning may_answer over = StopsBatch meaning may_answer over.batch.now over.graph.now
