use Rattle.road_files.proofs.Words.{map, text_of, WrotePrefix, lines_from, of_source, question_words}
use Rattle.road_files.proofs.writing.write_sources.Given as goal

abbrev pub invariant-loop-source : goal.invariant-loop-source
invariant-loop-source g l = WrotePrefix (g.W.RoadWrite.seen l.fn.to) (g.W.RoadWrite.seen l.to)
    (text_of (map question_words (map of_source l.sources))) (lines_from question_words l.source-index (map of_source l.sources))
