-- How a service read its graph, between two moments of its input.
use Rattle.std.proofs.Common.{◌≡◌, ◌≢◌, ◌↔◌, ◌+◌, ◌≤◌, Result, Ok, Err, refl, arith}
use Rattle.std.specs.Prelude.{◌⊎◌, Option, OnOk, IfErr}
use Rattle.std.specs.Io.KnownBytes.{IsAtEnd}
use Rattle.text_lines.specs.Reads.{BreaksNone, RunsOutAfter}
use Rattle.text_lines.specs.Streams.{Input}
use Rattle.graph_text.specs.GraphFiles.{gr_rules}
use Rattle.batch_inputs.specs.declared.faults.File.TheVariants.{Graph, Questions, NoFile}
use Rattle.batch_inputs.specs.declared.faults.File.{File}
use Rattle.batch_inputs.specs.declared.faults.RunFault.{RunFault}
use Rattle.batch_inputs.specs.InputLaws.{not_failed}
use Rattle.batch_inputs.specs.Orders.{HasReadOrdered}
use Rattle.batch_inputs.specs.Spelled.{IsReadAs}
use Rattle.batch_inputs.specs.InputFaults.{IsGraphFault}

-- a graph was read, or this fault stopped the service
pub record HasReadGraph {G : Type 0} (graph graph_after : Input G) (outcome : Result (Unit {0}) RunFault) : Type 0 where
  -- without a fault no read of it failed
  pub sound : OnOk outcome (graph_after.failures ≡ graph.failures)
  -- a fault of the graph is its first one
  pub fault : IfErr outcome (λ f. f.file ≡ Graph → IsGraphFault graph.left f)
  -- 1 is reported of the graph exactly if a read of it failed
  pub failed : (outcome ≡ Err (record { number = 1; file = Graph; line = 0 })) ↔ (graph_after.failures ≢ graph.failures)
  -- 3 is reported of the graph only of bytes that fit, after those of all reads but the last, which
  -- break no rule
  pub memory : IfErr outcome (λ f. f.file ≡ Graph → f.number ≡ 3 → RunsOutAfter (BreaksNone gr_rules) graph.left graph_after.left)
  -- settings are tested before anything is read
  pub untouched : IfErr outcome (λ f. f.number ≡ 43 → graph_after ≡ graph)
  -- it was read to its end
  pub end : OnOk outcome (IsAtEnd graph_after.left)
  -- at most 2 ^ 32 + 1 reads were asked for
  pub asked : graph_after.asked ≤ graph.asked + 4294967297

-- the file of the graph, and those of which a fault is reported after all that a service reads first:
-- the requests, and none
abbrev pub IsGraphFile : File → Type 0
IsGraphFile file = file ≡ Graph

abbrev pub IsServingFile : File → Type 0
IsServingFile file = (file ≡ Questions) ⊎ (file ≡ NoFile)

-- the graph was read, and then an order of its vertices, if there is one
abbrev pub HasReadGraphOrdered : {G O : Type 0} → (graph graph_after : Input G) → (order order_after : Option (Input O)) → Result (Unit {0}) RunFault → Type 0
HasReadGraphOrdered graph graph_after = HasReadOrdered (λ g _. IsReadAs gr_rules graph.left g) IsGraphFile IsServingFile (HasReadGraph graph graph_after)

module _ {G : Type 0} (graph graph_after : Input G) where
  -- what a success says of it stays true at a fault of another file
  pub graph_later : (f : RunFault) → f.file ≢ Graph → f.number ≢ 43 → HasReadGraph graph graph_after (Ok tt) → HasReadGraph graph graph_after (Err f)
  graph_later f other number h = record {
    sound = tt;
    fault = λ e. absurd (other e);
    failed = not_failed f Graph graph.failures graph_after.failures other h.sound (Err f) refl;
    memory = λ e. absurd (other e);
    untouched = λ e. absurd (number e);
    end = tt;
    asked = h.asked;
  }

-- a fault of the settings leaves it as it was
pub graph_unread : {G : Type 0} (graph : Input G) → HasReadGraph graph graph (Err (record { number = 43; file = NoFile; line = 0 }))
graph_unread graph = record {
  sound = tt;
  fault = λ e. cc;
  failed = not_failed (record { number = 43; file = NoFile; line = 0 }) Graph graph.failures graph.failures (λ e. cc) refl _ refl;
  memory = λ e. cc;
  untouched = λ e. refl;
  end = tt;
  asked = omega arith;
}
