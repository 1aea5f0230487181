-- The words and lemmas that many proofs of this crate use.
pub use Rattle.batch_inputs.specs.declared.faults.File.TheVariants.{NoFile, Questions}
pub use Rattle.batch_inputs.specs.declared.faults.RunFault.{RunFault}
pub use Rattle.batch_run.specs.Solvers.{IsSameSolver, graph_of, is_without_diffusions}
pub use Rattle.batch_settings.specs.declared.settings.Settings.{Settings}
pub use Rattle.path_algebra.specs.Algebra.{Algebra}
pub use Rattle.road_files.specs.Asked.{Asked, asked_of}
pub use Rattle.road_files.specs.QuestionFiles.{AskedSoFar, question_end, question_rules}
pub use Rattle.road_files.specs.RequestTakes.{RequestSoFar, ended_list, parser_state}
pub use Rattle.road_files.specs.ServiceText.{Gives, LinesMay, Passes, Request, ServiceState, Step, begins_request, given, requests, requests_of, service_line, state_after_lines, whole_or_on}
pub use Rattle.road_graph.specs.GraphData.{GraphData}
pub use Rattle.service.specs.Answering.{MayAnswer}
pub use Rattle.service.specs.Fed.{Fed, FedLong, FedPart, Finished, FinishedPart, HasServed, LineEnded, Served, ServedPart, ServedSoFar, ServedUntilTooLong, fault_text}
pub use Rattle.service.specs.Giving.{MayGive, MayGiveOver}
pub use Rattle.service.specs.Over.{RanOver, fault_of_stop}
pub use Rattle.service.specs.Reading.{ToldReads}
pub use Rattle.service.specs.declared.service.Service.{Service}
pub use Rattle.service.specs.declared.serving.Stopped.{Stopped}
pub use Rattle.std.proofs.Common.{Bool, Err, List, None, Ok, Option, Result, Some, [], ap, append-nil, append_assoc, arith, cond, drop, false, inl, inr, length, length-append, length-drop, map, min, nat_lt, not, refl, subst, sym, take, take-append-drop, true, ℕ, ◌++◌, ◌+◌, ◌-◌, ◌<◌, ◌∙◌, ◌∷◌, ◌≡◌, ◌≢◌, ◌≤◌}
pub use Rattle.std.specs.Io.KnownBytes.{Appends, Consumes, IsAtEnd}
pub use Rattle.std.specs.List.{AllByRecursion}
pub use Rattle.std.specs.Str.Lines.{strip_carriage_return}
pub use Rattle.text_lines.proofs.TextLaws.{lines_cut, lines_first}
pub use Rattle.text_lines.specs.Cuts.{EndsLine, IsLine, IsPresent, StaysInLine}
pub use Rattle.text_lines.specs.Lines.{fields, lines}
pub use Rattle.text_lines.specs.Rules.{Rules, at_line, fault_at, unless, ◌>>=◌}
pub use Rattle.text_lines.specs.Streams.{Input, Output}
pub use Rattle.text_lines.specs.Written.{FailedAfterPrefix, WritesText}
