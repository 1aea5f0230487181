use Rattle.answer_lists.proofs.Words.{take, IsSearcherOf, AreRowCodes}
use Rattle.answer_lists.proofs.table_rows.searched_row.Given as goal

abbrev pub invariant-loop-target : goal.invariant-loop-target
invariant-loop-target g l = record {
  searcher : IsSearcherOf l.fn.algebra l.shared.roads l.searcher;
  row : AreRowCodes (g.A.PathAlgebra.meaning l.fn.algebra) l.shared.roads (take l.target-index l.ends.targets.now) l.ends.source l.row.items;
}
