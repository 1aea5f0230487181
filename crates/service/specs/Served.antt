-- What a service does, between two states of its inputs and its output.
use Rattle.std.specs.Prelude.{◌≡◌, ◌≢◌, ℕ, ◌≤◌, ◌↔◌, ◌⊎◌, Bool, true, List, [], Option, Result, Err, OnOk, IfErr}
use Rattle.std.specs.Io.KnownBytes.{IsAtEnd}
use Rattle.road_graph.specs.GraphData.{GraphData}
use Rattle.graph_text.specs.GraphFiles.{gr_rules}
use Rattle.path_algebra.specs.Algebra.{Algebra}
use Rattle.batch_inputs.specs.declared.faults.File.TheVariants.{Graph, Questions, Order, NoFile}
use Rattle.batch_inputs.specs.declared.faults.RunFault.{RunFault}
use Rattle.batch_settings.specs.declared.settings.Settings.{Settings}
use Rattle.batch_inputs.specs.Spelled.{IsReadAs}
use Rattle.batch_inputs.specs.InputFaults.{IsOrderNumber, IsRoadNumber}
use Rattle.text_lines.specs.Streams.{Input, Output}
use Rattle.service.specs.Fed.{Served, ServedPart, ServedSoFar, ServedUntilTooLong}
use Rattle.service.specs.Answering.{MayAnswer}
use Rattle.service.specs.GraphInput.{HasReadGraph, HasReadGraphOrdered}

-- the text of an input is a graph, and P holds of it
abbrev pub OverGraph : Option (List ℕ) → (GraphData → Type 0) → Type 0
OverGraph text P = (g : GraphData) × IsReadAs gr_rules text g × P g

-- the input of requests stops a service: a read failed, or a request has too many bytes
abbrev pub IsStopOfInput : RunFault → Type 0
IsStopOfInput f = ((f.number ≡ 1) ⊎ (f.number ≡ 2)) × (f.line ≡ 0)

-- the requests of one input were replied to over the graph of another, factored by the order of a
-- third, if there is one; or this fault stopped it
pub record RanService {V G O Q W : Type 0} (A : Algebra V) (how : Settings) (gate : ℕ → ℕ → Bool → Type 0) (graph graph_after : Input G) (order order_after : Option (Input O)) (input input_after : Input Q) (out out_after : Output W) (outcome : Result (Unit {0}) RunFault) : Type 0 where
  -- all requests were replied to, over the graph that was read
  pub done : OnOk outcome (OverGraph graph.left (λ g.
      Served (MayAnswer A how gate g) g.vertices input.left
      out out_after))
  -- and nothing is left buffered in the output
  pub passed_on : OnOk outcome (out_after.held ≡ [])
  -- no read of requests and no write failed
  pub sound : OnOk outcome ((input_after.failures ≡ input.failures) × (out_after.failures ≡ out.failures))
  -- the requests were read to their end
  pub ends : OnOk outcome (IsAtEnd input_after.left)
  -- at a failed read just the requests that the bytes consumed make whole were replied to
  pub stopped : IfErr outcome (λ f. f.file ≡ Questions → f.number ≡ 1 → OverGraph graph.left (λ g.
      ServedSoFar (MayAnswer A how gate g) g.vertices input.left input_after.left
      out out_after))
  -- 2 is reported of the requests only of one that has more than 2^32 bytes, or of such a line:
  -- just the requests before it were replied to
  pub too_long : IfErr outcome (λ f. f.file ≡ Questions → f.number ≡ 2 → OverGraph graph.left (λ g.
      ServedUntilTooLong (MayAnswer A how gate g) g.vertices input.left input_after.left
      out out_after))
  -- and nothing is left buffered in the output after either
  pub nothing_held : IfErr outcome (λ f. f.file ≡ Questions → out_after.held ≡ [])
  -- a failed write leaves a prefix of the replies to the requests that a prefix of the input makes
  -- whole, or to all of them
  pub fell : IfErr outcome (λ f. f.number ≡ 42 → OverGraph graph.left (λ g.
      ServedPart (MayAnswer A how gate g) g.vertices input.left
      out out_after))
  -- how the graph was read
  pub read : HasReadGraph graph graph_after outcome
  -- and how after it the order was, if there is one
  pub ordered : HasReadGraphOrdered graph graph_after order order_after outcome
  -- 1 is reported of the requests exactly if a read of them failed
  pub read_input : (outcome ≡ Err (record { number = 1; file = Questions; line = 0 })) ↔ (input_after.failures ≢ input.failures)
  -- a fault is one of the graph or of the order, with a number of its own, one of the input of
  -- requests, or one of no input: memory that was refused while the graph was factored, a failed
  -- write, or a setting
  pub kinds : IfErr outcome (λ f.
      ((f.file ≡ Graph) × IsRoadNumber f.number)
      ⊎ (((f.file ≡ Order) × IsOrderNumber f.number)
      ⊎ (((f.file ≡ Questions) × IsStopOfInput f)
      ⊎ ((f.file ≡ NoFile) × (f.line ≡ 0) × ((f.number ≡ 3) ⊎ ((f.number ≡ 42) ⊎ (f.number ≡ 43)))))))
  -- 3 is reported of no input only if factors are chosen, once the graph was read to its end, and
  -- before anything of the requests is read, and before anything is written
  pub unfactored : IfErr outcome (λ f. f.file ≡ NoFile → f.number ≡ 3 → (how.factors ≡ true)
      × OverGraph graph.left (λ g. Unit {0}) × IsAtEnd graph_after.left × (input_after ≡ input) × (out_after ≡ out))
  -- faults 1 to 3 are in no line
  pub placed : IfErr outcome (λ f. f.number ≤ 3 → f.line ≡ 0)
  -- a fault of the graph or of the order is reported before anything of the requests is read, and
  -- before anything is written
  pub before_requests : IfErr outcome (λ f. (f.file ≡ Graph) ⊎ (f.file ≡ Order) → (input_after ≡ input) × (out_after ≡ out))
  -- settings are tested before anything is read or written
  pub untouched : IfErr outcome (λ f. f.number ≡ 43 → (graph_after ≡ graph) × (order_after ≡ order) × (input_after ≡ input) × (out_after ≡ out))
