-- The words and lemmas that many proofs of this crate use.
pub use Rattle.graph_text.proofs.RuleLaws.{vertex_held}
pub use Rattle.graph_text.specs.GraphFiles.{RoadsSoFar, gr_line}
pub use Rattle.graph_text.specs.GraphTakes.{taken_of}
pub use Rattle.graph_text.specs.Numbers.{vertex_in}
pub use Rattle.road_files.specs.Asked.{AreQuestionsOf, Asked, Question, asked_of, of_list, of_pair, of_source}
pub use Rattle.road_files.specs.BundleFiles.{InGraph, InQuestions, bundle_end, bundle_line, bundle_rules, bundle_with}
unfoldable pub use Rattle.road_files.specs.BundleFiles.{begins_questions}
pub use Rattle.road_files.specs.BundleTakes.{bundle_so_far}
pub use Rattle.road_files.specs.QuestionFiles.{AskedSoFar, begins_list, may_be, one_vertex_more, question_end, question_line, question_rules, vertices_in}
unfoldable pub use Rattle.road_files.specs.QuestionFiles.{pair_of_line, question_line_of, question_problem, source_of_line, sources_of_line}
pub use Rattle.road_files.specs.QuestionTakes.{ListSoFar, questions_begun, sources_given}
pub use Rattle.road_files.specs.WrittenQuestions.{problem_words, question_lines, question_words}
unfoldable pub use Rattle.road_files.specs.WrittenQuestions.{questions_text}
pub use Rattle.road_files.specs.declared.present_list.PresentList.{PresentList}
pub use Rattle.road_files.specs.declared.question_parser.QuestionParser.{QuestionParser}
pub use Rattle.road_files.specs.declared.questions.Kind.{Kind}
pub use Rattle.road_files.specs.declared.questions.Kind.TheVariants.{Multi, Pairs, Sources}
pub use Rattle.road_files.specs.declared.questions.Questions.{Questions}
pub use Rattle.road_graph.specs.GraphData.{GraphData}
pub use Rattle.std.proofs.Common.{Bool, Err, Global, List, None, Ok, Option, Result, Some, Vec, [], ap, arith, codes, drop, false, inl, length, length-append, lit<, map, refl, subst, sym, true, ℕ, ◌*◌, ◌++◌, ◌+◌, ◌<◌, ◌∙◌, ◌∷◌, ◌≡◌, ◌≢◌, ◌≤◌}
pub use Rattle.std.proofs.lemmas.Bool.{le-ltb}
pub use Rattle.std.proofs.lemmas.Grind.{common_steps}
pub use Rattle.std.proofs.lemmas.List.{length-map}
pub use Rattle.std.proofs.lemmas.Result.{err_from_is_err_and}
pub use Rattle.std.specs.List.{AllByRecursion}
pub use Rattle.text_lines.proofs.ParserLaws.{gives_broken, gives_taken, reads_no_part, reads_part, reads_sure, reads_text}
pub use Rattle.text_lines.proofs.WordLaws.{Keeps, keeps, short_word}
pub use Rattle.text_lines.proofs.WriteLaws.{fell_out, lines_from, lines_start, made_end, made_fell, made_left}
pub use Rattle.text_lines.specs.Lines.{fields}
pub use Rattle.text_lines.specs.Rules.{text_read, text_value, value_of_lines, ◌>>=◌}
pub use Rattle.text_lines.specs.Slots.{word_in}
pub use Rattle.text_lines.specs.Takes.{ShowsLine}
pub use Rattle.text_lines.specs.Texts.{AreLines, list_words, spaced, text_of}
unfoldable pub use Rattle.text_lines.specs.Texts.{spelled}
pub use Rattle.text_lines.specs.Words.{Word, held_word, word_at, word_of}
pub use Rattle.text_lines.specs.Written.{WrotePrefix}
pub use Rattle.text_lines.specs.declared.faults.ReadFault.{ReadFault}
pub use Rattle.text_lines.specs.declared.slots.Slot.{Slot}
