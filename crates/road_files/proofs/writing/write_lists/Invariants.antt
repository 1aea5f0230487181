use Rattle.road_files.proofs.Words.{map, text_of, WrotePrefix, lines_from, of_list, question_words}
use Rattle.road_files.proofs.writing.write_lists.Given as goal

abbrev pub invariant-loop-list : goal.invariant-loop-list
invariant-loop-list g l = WrotePrefix (g.W.RoadWrite.seen l.fn.to) (g.W.RoadWrite.seen l.to)
    (text_of (map question_words (map of_list l.lists))) (lines_from question_words l.list-index (map of_list l.lists))
