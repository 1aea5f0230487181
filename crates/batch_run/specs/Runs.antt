-- What a batch leaves, between two moments of its inputs and its output.
pub use Rattle.text_lines.specs.Streams.{Input, Output}
use Rattle.std.specs.Prelude.{◌≡◌, ◌≢◌, ℕ, ◌+◌, ◌≤◌, ◌<◌, ◌⊎◌, Bool, false, [], Result, OnOk, IfErr}
use Rattle.std.specs.Io.KnownBytes.{Keeps}
use Rattle.road_graph.specs.GraphData.{GraphData}
use Rattle.road_files.specs.Asked.{Asked}
use Rattle.path_algebra.specs.Algebra.{Algebra}
use Rattle.batch_run.specs.Stopping.{Stalls, Closes, HasEnoughTurns}
use Rattle.batch_inputs.specs.declared.faults.File.{File}
use Rattle.batch_inputs.specs.declared.faults.File.TheVariants.{NoFile}
use Rattle.batch_inputs.specs.declared.faults.RunFault.{RunFault}
use Rattle.batch_settings.specs.declared.settings.Settings.{Settings}
use Rattle.batch_run.specs.Answered.{IsPassedOn}
use Rattle.batch_settings.specs.Choice.{without_diffusions}
use Rattle.batch_inputs.specs.Inputs.{HasReadPair, HasReadBundle}
use Rattle.batch_inputs.specs.Spelled.{IsPairOf, IsBundleOf}
use Rattle.batch_inputs.specs.InputFaults.{IsPairFile, IsBundleFile}
use Rattle.batch_run.specs.Ran.{Done, Begun, BegunUnfinished, BegunWhole, IsRunFaultOf}

-- the questions of a batch were answered over its graph, or this fault stopped it
pub record Ran {V W : Type 0} (A : Algebra V) (how : Settings) (answers : ℕ → ℕ → Bool → Type 0) (IsRead : GraphData → Asked → Type 0) (inputs : File → Type 0) (out out_after : Output W) (outcome : Result (Unit {0}) RunFault) : Type 0 where
  -- the right answers to what the inputs spell were written, whole
  pub done : OnOk outcome (Done A IsRead out out_after)
  -- and the output holds nothing back
  pub passed_on : OnOk outcome (out_after.held ≡ [])
  -- no write failed
  pub sound : OnOk outcome (out_after.failures ≡ out.failures)
  -- 42 is reported only if a write failed
  pub write : IfErr outcome (λ f. f.number ≡ 42 → out.failures < out_after.failures)
  -- a fault is one of these inputs, with a number of theirs, or one of the run
  pub kinds : IfErr outcome (IsRunFaultOf inputs)
  -- 1 to 3 are in no line
  pub placed : IfErr outcome (λ f. f.number ≤ 3 → f.line ≡ 0)
  -- 40 is reported only if workers answer, and the gate may have let one make each turn allowed
  pub stalled : IfErr outcome (λ f. f.number ≡ 40 → (without_diffusions how ≡ false) × Stalls answers how.workers how.turns)
  -- with one shard, best first, it is not reported if the limit is enough for the arcs of the graph
  pub unstalled : HasEnoughTurns how IsRead → IfErr outcome (λ f. f.number ≢ 40)
  -- 41 is reported only if workers answer, and the gate answered some worker false before a turn up
  -- to the limit
  pub gated : IfErr outcome (λ f. f.number ≡ 41 → (without_diffusions how ≡ false) × Closes answers how.workers how.turns)
  -- after a fault of an input nothing was written
  pub nothing : IfErr outcome (λ f. f.file ≢ NoFile → Keeps out.written out_after.written)
  -- the output was not even touched
  pub unwritten : IfErr outcome (λ f. f.file ≢ NoFile → out_after ≡ out)
  -- settings are tested before anything is written
  pub untouched : IfErr outcome (λ f. f.number ≡ 43 → out_after ≡ out)
  -- a later fault leaves a prefix of the right text
  pub begun : IfErr outcome (λ f. f.file ≡ NoFile → f.number ≢ 43 → Begun A IsRead out out_after)
  -- want of memory leaves the first answers, each of them whole, and fewer than were asked, if any
  -- were
  pub whole : IfErr outcome (λ f. f.file ≡ NoFile → f.number ≡ 3 → BegunWhole A IsRead out out_after)
  -- and they are passed on, or passing them on failed
  pub flushed : IfErr outcome (λ f. f.file ≡ NoFile → f.number ≡ 3 → IsPassedOn out_after.held out.failures out_after.failures)
  -- at most that one write failed
  pub once : IfErr outcome (λ f. f.file ≡ NoFile → f.number ≡ 3 → out_after.failures ≤ out.failures + 1)
  -- a limit of turns or a gate leaves the first answers, each of them whole, fewer than were asked,
  -- and passed on
  pub stopped : IfErr outcome (λ f. (f.number ≡ 40) ⊎ (f.number ≡ 41) → BegunUnfinished A IsRead out out_after × IsPassedOn out_after.held out.failures out_after.failures)

-- the questions of one input were answered over the graph of another, or this fault stopped it
pub record RanPair {V G Q W : Type 0} (A : Algebra V) (how : Settings) (answers : ℕ → ℕ → Bool → Type 0) (first first_after : Input G) (second second_after : Input Q) (out out_after : Output W) (outcome : Result (Unit {0}) RunFault) : Type 0 where
  -- how the inputs were read
  pub read : HasReadPair first first_after second second_after outcome
  -- and what became of the answers to what they spell
  pub run : Ran A how answers (IsPairOf first.left second.left) IsPairFile out out_after outcome

-- the questions of a bundle were answered, or this fault stopped it
pub record RanBundle {V B W : Type 0} (A : Algebra V) (how : Settings) (answers : ℕ → ℕ → Bool → Type 0) (text text_after : Input B) (out out_after : Output W) (outcome : Result (Unit {0}) RunFault) : Type 0 where
  -- how the bundle was read
  pub read : HasReadBundle text text_after outcome
  -- and what became of the answers to what it spells
  pub run : Ran A how answers (IsBundleOf text.left) IsBundleFile out out_after outcome
