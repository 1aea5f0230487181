-- How a run read its inputs, between two moments of them.
use Rattle.std.specs.Prelude.{◌≡◌, ◌≢◌, ◌+◌, ◌≤◌, ◌↔◌, None, Result, Err, OnOk, IfErr}
use Rattle.std.specs.Io.KnownBytes.{IsAtEnd}
use Rattle.road_graph.specs.GraphData.{GraphData}
use Rattle.text_lines.specs.Reads.{BreaksNone, RunsOutAfter}
use Rattle.graph_text.specs.GraphFiles.{gr_rules}
use Rattle.road_files.specs.QuestionFiles.{question_rules}
use Rattle.road_files.specs.BundleFiles.{bundle_rules}
use Rattle.batch_inputs.specs.declared.faults.File.TheVariants.{Graph, Questions, Bundle}
use Rattle.batch_inputs.specs.declared.faults.RunFault.{RunFault}
use Rattle.batch_inputs.specs.Spelled.{IsReadAs}
use Rattle.batch_inputs.specs.InputFaults.{IsGraphFault, IsQuestionsFault, IsBundleFault}
use Rattle.text_lines.specs.Streams.{Input}

-- a graph was read from one input and questions from another, or this fault stopped the run
pub record HasReadPair {G Q : Type 0} (first first_after : Input G) (second second_after : Input Q) (outcome : Result (Unit {0}) RunFault) : Type 0 where
  -- without a fault no read failed
  pub sound : OnOk outcome ((first_after.failures ≡ first.failures) × (second_after.failures ≡ second.failures))
  -- a fault of the graph is its first one
  pub graph : IfErr outcome (λ f. f.file ≡ Graph → IsGraphFault first.left f)
  -- a fault of the questions is their first one, over a graph that has none
  pub questions : IfErr outcome (λ f. f.file ≡ Questions → IsQuestionsFault first.left second.left f)
  -- 1 is reported of the graph exactly if a read of it failed
  pub read_graph : (outcome ≡ Err (record { number = 1; file = Graph; line = 0 })) ↔ (first_after.failures ≢ first.failures)
  -- and of the questions exactly if one of them did
  pub read_questions : (outcome ≡ Err (record { number = 1; file = Questions; line = 0 })) ↔ (second_after.failures ≢ second.failures)
  -- 3 is reported of the graph only of bytes that fit, after those of all reads but the last, which
  -- break no rule
  pub memory : IfErr outcome (λ f. f.file ≡ Graph → f.number ≡ 3 → RunsOutAfter (BreaksNone gr_rules) first.left first_after.left)
  -- and so it is of the questions, over a graph that has no fault
  pub memory_questions : IfErr outcome (λ f. f.file ≡ Questions → f.number ≡ 3 →
      (g : GraphData) × IsReadAs gr_rules first.left g × RunsOutAfter (BreaksNone (question_rules g.vertices None)) second.left second_after.left)
  -- settings are tested before anything is read
  pub untouched : IfErr outcome (λ f. f.number ≡ 43 → (first_after ≡ first) × (second_after ≡ second))
  -- both inputs were read to their end
  pub ends : OnOk outcome (IsAtEnd first_after.left × IsAtEnd second_after.left)
  -- at most 2 ^ 32 + 1 reads of the graph were asked for
  pub asked : first_after.asked ≤ first.asked + 4294967297
  -- and of the questions
  pub asked_questions : second_after.asked ≤ second.asked + 4294967297

-- a bundle was read, or this fault stopped the run
pub record HasReadBundle {B : Type 0} (text text_after : Input B) (outcome : Result (Unit {0}) RunFault) : Type 0 where
  -- without a fault no read failed
  pub sound : OnOk outcome (text_after.failures ≡ text.failures)
  -- a fault of the bundle is its first one
  pub bundle : IfErr outcome (λ f. f.file ≡ Bundle → IsBundleFault text.left f)
  -- 1 is reported exactly if a read failed
  pub read_bundle : (outcome ≡ Err (record { number = 1; file = Bundle; line = 0 })) ↔ (text_after.failures ≢ text.failures)
  -- 3 is reported only of bytes that fit, after those of all reads but the last, which break no
  -- rule
  pub memory : IfErr outcome (λ f. f.file ≡ Bundle → f.number ≡ 3 → RunsOutAfter (BreaksNone bundle_rules) text.left text_after.left)
  -- settings are tested before anything is read
  pub untouched : IfErr outcome (λ f. f.number ≡ 43 → text_after ≡ text)
  -- the bundle was read to its end
  pub end : OnOk outcome (IsAtEnd text_after.left)
  -- at most 2 ^ 32 + 1 reads were asked for
  pub asked : text_after.asked ≤ text.asked + 4294967297
