-- The words and lemmas that many proofs of this crate use.
pub use Rattle.graph_text.specs.GraphFiles.{RoadsSoFar, gr_arc, gr_end, gr_rules}
unfoldable pub use Rattle.graph_text.specs.GraphFiles.{gr_line, gr_problem, one_arc}
pub use Rattle.graph_text.specs.GraphTakes.{roads_so_far, taken_of}
pub use Rattle.graph_text.specs.Numbers.{up_to, vertex_in}
pub use Rattle.graph_text.specs.WrittenGraphs.{arc_words, graph_words}
pub use Rattle.graph_text.specs.declared.graph_builder.GraphBuilder.{GraphBuilder}
pub use Rattle.road_graph.specs.GraphData.{GraphData}
pub use Rattle.road_graph.specs.declared.RoadArc.{RoadArc}
pub use Rattle.std.proofs.Common.{Bool, Err, List, None, Ok, Option, Some, [], ap, arith, length, map, option_map, refl, subst, sym, take, ℕ, ◌++◌, ◌<◌, ◌∙◌, ◌∷◌, ◌≡◌, ◌≤◌}
pub use Rattle.std.proofs.lemmas.Bool.{le-ltb, lt-ltb, ne_eqb}
pub use Rattle.std.proofs.lemmas.Grind.{common_steps}
pub use Rattle.text_lines.proofs.ParserLaws.{gives_taken}
pub use Rattle.text_lines.proofs.WriteLaws.{fell_out}
pub use Rattle.text_lines.specs.Lines.{fields}
pub use Rattle.text_lines.specs.Rules.{text_read, unless, value_of_lines, ◌>>=◌}
pub use Rattle.text_lines.specs.Texts.{text_of}
unfoldable pub use Rattle.text_lines.specs.Texts.{spelled}
pub use Rattle.text_lines.specs.Words.{Word, held_word, word_at, word_of}
pub use Rattle.text_lines.specs.Written.{WrotePrefix}
