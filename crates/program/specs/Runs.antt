-- What answering leaves under the algebra that was chosen, between two moments of its inputs and
-- its output.
use Rattle.std.specs.Prelude.{◌≡◌, ◌≢◌, ◌≤◌, ℕ, Bool, true, Result, IfErr}
use Rattle.road_graph.specs.GraphData.{GraphData}
use Rattle.road_files.specs.Asked.{Asked}
use Rattle.path_algebra.specs.declared.choice.AlgebraChoice.{AlgebraChoice}
use Rattle.path_algebra.specs.Choices.{OfChosen, Under, arc_cost_of}
use Rattle.batch_inputs.specs.declared.faults.File.{File}
use Rattle.batch_inputs.specs.declared.faults.RunFault.{RunFault}
use Rattle.batch_settings.specs.declared.settings.Settings.{Settings}
use Rattle.batch_run.specs.Runs.{Output, Ran}
use Rattle.batch_run.specs.Stopping.{Stopped}
use Rattle.batch_run.specs.Unsuited.{IsRefusedUnsuited}

-- the gate of the program is always open: whichever worker asks before whichever turn, its answer
-- is true
abbrev pub gate_is_open : ℕ → ℕ → Bool → Type 0
gate_is_open worker turn answer = answer ≡ true

-- what a command that answers was given: its algebra, its settings, and of its input which graph
-- and questions it spells, which files have its faults, and what a run with an outcome did to it
pub record Given : Type 1 where
  pub chosen : AlgebraChoice
  pub settings : Settings
  pub is_read : GraphData → Asked → Type 0
  pub is_own : File → Type 0
  pub has_read : Result (Unit {0}) RunFault → Type 0

abbrev pub given_of : AlgebraChoice → Settings → (GraphData → Asked → Type 0) → (File → Type 0) → (Result (Unit {0}) RunFault → Type 0) → Given
given_of chosen settings is_read is_own has_read = record { chosen = chosen; settings = settings; is_read = is_read; is_own = is_own; has_read = has_read }

-- the questions of an input were answered over its graph, or this fault stopped it
pub record RanUnder {W : Type 0} (given : Given) (out out_after : Output W) (outcome : Result (Unit {0}) RunFault) : Type 0 where
  -- all that a batch leaves under the algebra that was chosen
  pub run : Under given.chosen (λ V A. Ran A given.settings gate_is_open given.is_read given.is_own out out_after outcome)
  -- 43 is reported exactly of settings that are out of range, or choose factors for an algebra
  -- without a cost
  pub suited : IsRefusedUnsuited (arc_cost_of given.chosen) given.settings outcome
  -- 40 is reported only if workers drove a group of diffusions over what was read, and the first of
  -- them that stopped was at its limit of turns
  pub stopped : OfChosen given.chosen (λ S V meaning algebra. Stopped meaning algebra given.settings gate_is_open given.is_read outcome)
  -- how the input was read
  pub read : given.has_read outcome
  -- and no gate stopped it
  pub ungated : IfErr outcome (λ f. f.number ≢ 41)
  -- with one shard, best first, a limit of turns that is enough for every graph stopped none
  -- either; the usual one, 1,000,000,000,000, is
  pub unstalled : given.settings.shards ≡ 1 → given.settings.best_first ≡ true → 17179869376 ≤ given.settings.turns → IfErr outcome (λ f. f.number ≢ 40)
