use Rattle.answer_text.proofs.Words.{drop, map, WrotePrefix, blocks_text, answer_data}
use Rattle.answer_text.proofs.writing.write_blocks.Given as goal

abbrev pub invariant-loop-answer : goal.invariant-loop-answer
invariant-loop-answer g l = WrotePrefix (g.W.RoadWrite.seen l.fn.to) (g.W.RoadWrite.seen l.to)
    (blocks_text (map answer_data l.answers)) (blocks_text (map answer_data (drop l.answer-index l.answers)))
