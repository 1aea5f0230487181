use Rattle.road_files.proofs.Words.{map, text_of, WrotePrefix, lines_from, of_pair, question_words}
use Rattle.road_files.proofs.writing.write_pairs.Given as goal

abbrev pub invariant-loop-pair : goal.invariant-loop-pair
invariant-loop-pair g l = WrotePrefix (g.W.RoadWrite.seen l.fn.to) (g.W.RoadWrite.seen l.to)
    (text_of (map question_words (map of_pair l.pairs))) (lines_from question_words l.pair-index (map of_pair l.pairs))
