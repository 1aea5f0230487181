-- The words and lemmas that many proofs of this crate use.
pub use Rattle.clap.proofs.WalkLemmas.{first_value-rows, one_text-rows}
pub use Rattle.clap.specs.Matches.{found_of}
pub use Rattle.clap.specs.Simple.{app_of, app_of_fields, subcommand_rows_of, with_rule}
pub use Rattle.clap.specs.Values.{kind_of}
pub use Rattle.clap.specs.Walk.{rows_of}
pub use Rattle.command_args.specs.Asked.{IsFaultNumber, IsNamed, Reads}
pub use Rattle.command_args.specs.CommandLine.{settings, watching, with_rules}
pub use Rattle.std.proofs.Common.{None, Some, [], ap, ap₂, codes, inl, inr, map, refl, rules, string_bytes, subst, sym, take, true, unwrap_or, ◌+◌, ◌∙◌, ◌≡◌}
pub use Rattle.std.proofs.lemmas.Result.{IfOk-weaker}
pub use Rattle.std.specs.List.{AllZip}
pub use Rattle.std.specs.Option.{option_map}
pub use Rattle.std.specs.Str.Parse.{ExplainsUnsignedError, HasUnsignedDigitsIfOk}
