-- The words and lemmas that many proofs of this crate use.
pub use Rattle.std.proofs.Common.{All, Bool, Err, IfSome, List, None, Ok, Option, Result, Some, [], add-one, ap, append-nil, append_assoc, arith, cond, drop, drop-cons, drop_of_length-le, eqb, false, filter, get_or, inl, inr, length, length-append, map, min, nat_lt, option_map, refl, subst, suc, sym, take, take-append-drop, true, zero, ℕ, ◌&&◌, ◌++◌, ◌+◌, ◌-◌, ◌<◌, ◌==◌, ◌^◌, ◌||◌, ◌∙◌, ◌∷◌, ◌≡◌, ◌≢◌, ◌≤◌, ◌⊎◌}
pub use Rattle.std.proofs.KnownBytes.{Appends-trans}
pub use Rattle.std.proofs.Math.Seq.{take-append_seam}
pub use Rattle.std.proofs.lemmas.Bool.{cases_lt, eqb-true, le-ltb, lt-ltb, ne_eqb}
pub use Rattle.std.proofs.lemmas.Grind.{common_steps}
pub use Rattle.std.proofs.lemmas.List.{length-take-le, map-append, take_all, take_more, take_rest}
pub use Rattle.std.proofs.lemmas.List.Elements.{All-append, All-more}
pub use Rattle.std.proofs.lemmas.List.Splits.{length-slice_split, slice_split_at, slice_split_none}
pub use Rattle.std.proofs.lemmas.Result.{IfErr-weaker, IfOk-weaker}
pub use Rattle.std.specs.Bool.{MatchBool}
pub use Rattle.std.specs.Char.{is_ascii_digit}
pub use Rattle.std.specs.Io.KnownBytes.{Appends, Consumes, IsAtEnd, Keeps}
pub use Rattle.std.specs.List.{join_with_byte, prefix_len, slice_split}
pub use Rattle.std.specs.Str.{all_ascii_digits}
pub use Rattle.std.specs.Str.Lines.{strip_carriage_return}
pub use Rattle.std.specs.Str.Parse.{digits_value}
pub use Rattle.text_lines.specs.Cuts.{EndsLine, Holds, IsLine, IsPresent, StaysInLine}
pub use Rattle.text_lines.specs.Lines.{has_bytes, is_gap, is_line_end}
unfoldable pub use Rattle.text_lines.specs.Lines.{fields, lines, number}
pub use Rattle.text_lines.specs.Meaning.{Meaning}
pub use Rattle.text_lines.specs.Reading.{HasRead, RestGives, SoFarOf}
pub use Rattle.text_lines.specs.Reads.{FailsAfter, RunsOutAfter}
pub use Rattle.text_lines.specs.Rules.{too_long, ◌>>=◌}
pub use Rattle.text_lines.specs.Scans.{Scan, Shows, is_plain, number_on, number_with, scan_of}
unfoldable pub use Rattle.text_lines.specs.Scans.{past, scan_on, word_on, word_with}
pub use Rattle.text_lines.specs.Slots.{word_in}
pub use Rattle.text_lines.specs.Streams.{Output}
pub use Rattle.text_lines.specs.Texts.{IsWord, text_of}
unfoldable pub use Rattle.text_lines.specs.Texts.{spelled}
pub use Rattle.text_lines.specs.Words.{Word, held_word, no_word, number_up_to, word_of}
pub use Rattle.text_lines.specs.Written.{FailedAfterPrefix, WritesText, WrotePrefix}
pub use Rattle.text_lines.specs.declared.faults.Halt.{Halt}
pub use Rattle.text_lines.specs.declared.faults.Halt.TheVariants.{Broken, Memory, Read, TooLong}
pub use Rattle.text_lines.specs.declared.faults.ReadFault.{ReadFault}
pub use Rattle.text_lines.specs.declared.fields_of.FieldsOf.{FieldsOf}
pub use Rattle.text_lines.specs.declared.line_cutter.LineCutter.{LineCutter}
pub use Rattle.text_lines.specs.declared.reader.LineReader.{LineReader}
pub use lib.Seq.{take-add}
