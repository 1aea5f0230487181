-- What a service does over a graph that was read, between two states of its input of requests and
-- its output.
use Rattle.std.specs.Prelude.{◌≡◌, ◌≢◌, ℕ, ◌↔◌, ◌⊎◌, Bool, true, [], Result, Err, OnOk, IfErr}
use Rattle.std.specs.Io.KnownBytes.{IsAtEnd}
use Rattle.road_graph.specs.GraphData.{GraphData}
use Rattle.path_algebra.specs.Algebra.{Algebra}
use Rattle.batch_inputs.specs.declared.faults.File.TheVariants.{Questions, NoFile}
use Rattle.batch_inputs.specs.declared.faults.RunFault.{RunFault}
use Rattle.batch_settings.specs.declared.settings.Settings.{Settings}
use Rattle.text_lines.specs.Streams.{Input, Output}
use Rattle.service.specs.declared.serving.Stopped.{Stopped}
use Rattle.service.specs.declared.serving.Stopped.TheVariants.{Read, Write, TooLong}
use Rattle.service.specs.Fed.{Served, ServedPart, ServedSoFar, ServedUntilTooLong}
use Rattle.service.specs.Answering.{MayAnswer}
use Rattle.service.specs.Served.{IsStopOfInput}

-- the fault that reports why serving stopped
abbrev pub fault_of_stop : Stopped → RunFault
fault_of_stop Read = record { number = 1; file = Questions; line = 0 }
fault_of_stop TooLong = record { number = 2; file = Questions; line = 0 }
fault_of_stop Write = record { number = 42; file = NoFile; line = 0 }

-- it is one of the input of requests; or of no input, in no line: memory that was refused while the
-- graph was factored, or a failed write
abbrev pub IsOverFault : RunFault → Type 0
IsOverFault f = ((f.file ≡ Questions) × IsStopOfInput f) ⊎ ((f.file ≡ NoFile) × (f.line ≡ 0) × ((f.number ≡ 3) ⊎ (f.number ≡ 42)))

-- the requests of an input were replied to over this graph, or this fault stopped it
pub record RanOver {V Q W : Type 0} (A : Algebra V) (how : Settings) (gate : ℕ → ℕ → Bool → Type 0) (g : GraphData) (input input_after : Input Q) (out out_after : Output W) (outcome : Result (Unit {0}) RunFault) : Type 0 where
  -- all requests were replied to
  pub done : OnOk outcome (Served (MayAnswer A how gate g) g.vertices input.left out out_after)
  -- nothing is left buffered in the output
  pub passed_on : OnOk outcome (out_after.held ≡ [])
  -- no read and no write failed
  pub sound : OnOk outcome ((input_after.failures ≡ input.failures) × (out_after.failures ≡ out.failures))
  -- the input was read to its end
  pub ends : OnOk outcome (IsAtEnd input_after.left)
  -- at a failed read just the requests that the bytes consumed make whole were replied to
  pub stopped : IfErr outcome (λ f. f.file ≡ Questions → f.number ≡ 1 → ServedSoFar (MayAnswer A how gate g) g.vertices input.left input_after.left out out_after)
  -- at a request with more than 2^32 bytes, or such a line, just those before it
  pub too_long : IfErr outcome (λ f. f.file ≡ Questions → f.number ≡ 2 → ServedUntilTooLong (MayAnswer A how gate g) g.vertices input.left input_after.left out out_after)
  -- nothing is left buffered in the output after either
  pub nothing_held : IfErr outcome (λ f. f.file ≡ Questions → out_after.held ≡ [])
  -- a failed write leaves a prefix of the replies
  pub fell : IfErr outcome (λ f. f.number ≡ 42 → ServedPart (MayAnswer A how gate g) g.vertices input.left out out_after)
  -- 1 is reported of the requests exactly if a read of them failed
  pub read_input : (outcome ≡ Err (record { number = 1; file = Questions; line = 0 })) ↔ (input_after.failures ≢ input.failures)
  pub kinds : IfErr outcome IsOverFault
  -- 3 is reported of no input only if factors are chosen, before anything is read or written
  pub unfactored : IfErr outcome (λ f. f.file ≡ NoFile → f.number ≡ 3 → (how.factors ≡ true) × (input_after ≡ input) × (out_after ≡ out))
