-- The words and lemmas that many proofs of this crate use.
pub use Rattle.batch_inputs.specs.Orders.{IsRunFile}
pub use Rattle.batch_inputs.specs.declared.faults.File.{File}
pub use Rattle.batch_inputs.specs.declared.faults.RunFault.{RunFault}
pub use Rattle.batch_settings.specs.declared.settings.Settings.{Settings}
pub use Rattle.command_files.specs.Inputs.{opened_input}
pub use Rattle.command_files.specs.Opening.{IsChosen}
pub use Rattle.fault_reports.specs.Reports.{EndsAs}
pub use Rattle.path_algebra.proofs.Chosen.{under_any}
pub use Rattle.path_algebra.specs.Choices.{Under}
pub use Rattle.path_algebra.specs.declared.choice.AlgebraChoice.{AlgebraChoice}
pub use Rattle.program.specs.Accounts.{accounts_text}
pub use Rattle.program.specs.Runs.{gate_is_open}
pub use Rattle.program.specs.Watching.{HasAccounts, IsAddedIf, Notes}
pub use Rattle.road_files.specs.Asked.{Asked}
pub use Rattle.road_graph.specs.GraphData.{GraphData}
pub use Rattle.std.proofs.Common.{List, ap, arith, false, inl, inr, refl, rules, subst, sym, true, ◌∙◌, ◌≡◌, ◌≤◌}
pub use Rattle.std.proofs.lemmas.Grind.{common_steps}
pub use Rattle.std.specs.Option.{option_map}
pub use Rattle.std.specs.Prelude.{IfErr, Result, is_some}
pub use Rattle.text_lines.specs.Streams.{Output}
unfoldable pub use Rattle.text_lines.specs.Texts.{spelled}
