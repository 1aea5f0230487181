-- The words and lemmas that many proofs of this crate use.
pub use Rattle.answer_text.specs.AnswerData.{AnswerData, AnswerList, FoundData, PairAnswer, SourceAnswer, SourcesAnswer, answer_data, answer_list}
pub use Rattle.answer_text.specs.AnswerFiles.{answer_number, answer_rules, numbers_in}
unfoldable pub use Rattle.answer_text.specs.AnswerFiles.{line_given, reached_line, route_line}
pub use Rattle.answer_text.specs.AnswerTakes.{NumbersSoFar, begins_numbers, begins_route, numbers_given, one_number_more}
pub use Rattle.answer_text.specs.AnswerText.{answers_text, blocks_text, vertex_lines, vertex_words}
unfoldable pub use Rattle.answer_text.specs.AnswerText.{answer_text, header_text}
pub use Rattle.answer_text.specs.IsAnswer.{AreAnswers, AreVertexLines, IsAnswer, IsAnswerList, IsBestCode, IsPairAnswer, IsParentOrZero, IsRouteBetween, IsVertexLine}
pub use Rattle.answer_text.specs.Writable.{AreLinesWritable, AreSmall, AreWritable, IsAnswerWritable, IsLineWritable}
pub use Rattle.answer_text.specs.declared.answers.Answers.{Answers}
pub use Rattle.answer_text.specs.declared.answers.Reached.{Reached}
pub use Rattle.answer_text.specs.declared.present_numbers.PresentNumbers.{PresentNumbers}
pub use Rattle.path_algebra.specs.Algebra.{Algebra, IsLawful}
pub use Rattle.path_algebra.specs.Names.{name_of_text}
pub use Rattle.path_algebra.specs.Walks.{AreHops, IsParent, IsParentChain}
pub use Rattle.path_algebra.specs.declared.name.AlgebraName.{AlgebraName}
pub use Rattle.road_files.specs.declared.questions.Kind.{Kind}
pub use Rattle.road_files.specs.declared.questions.Kind.TheVariants.{Multi, Pairs, Sources}
pub use Rattle.road_files.specs.declared.questions.Questions.{Questions}
pub use Rattle.road_graph.specs.GraphData.{GraphData, HasVertex, IsGraph}
pub use Rattle.std.proofs.Common.{Bool, Err, List, None, Ok, Option, Result, Some, [], add-one, ap, append-nil, append_assoc, arith, codes, decimal, drop, drop-cons, drop_of_length-le, false, get_or, inl, inr, length, length-append, map, min, refl, subst, suc, sym, true, ℕ, ◌++◌, ◌+◌, ◌-◌, ◌<◌, ◌^◌, ◌∙◌, ◌∷◌, ◌≡◌, ◌≤◌, ◌⊎◌}
pub use Rattle.std.proofs.lemmas.Grind.{common_steps}
pub use Rattle.std.proofs.lemmas.List.{length-map}
pub use Rattle.std.specs.List.{AllByRecursion}
pub use Rattle.std.specs.Prelude.{All}
pub use Rattle.text_lines.proofs.WordLaws.{number_held}
pub use Rattle.text_lines.proofs.WriteLaws.{fell_first, fell_out, fell_step, left_step, wrote_then}
pub use Rattle.text_lines.specs.Lines.{fields}
pub use Rattle.text_lines.specs.Rules.{text_read, ◌>>=◌}
pub use Rattle.text_lines.specs.Slots.{word_in}
pub use Rattle.text_lines.specs.Streams.{Output}
pub use Rattle.text_lines.specs.Takes.{ShowsLine}
pub use Rattle.text_lines.specs.Texts.{spelled, text_of}
pub use Rattle.text_lines.specs.Words.{Word, word_at, word_of}
pub use Rattle.text_lines.specs.Written.{FailedAfterPrefix, WrotePrefix}
pub use Rattle.text_lines.specs.declared.faults.ReadFault.{ReadFault}
pub use Rattle.text_lines.specs.declared.slots.Slot.{Slot}
