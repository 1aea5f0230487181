use Rattle.answer_lists.proofs.Words.{take, ◌≡◌, IfSome, IsSearcherOf, AreTableCodes}
use Rattle.answer_lists.proofs.table.table.Given as goal

abbrev pub invariant-loop-source : goal.invariant-loop-source
invariant-loop-source g l = record {
  same : l.shared ≡ l.initial.shared;
  kept : IfSome l.kept (IsSearcherOf l.algebra l.shared.roads);
  table : AreTableCodes (g.A.PathAlgebra.meaning l.algebra) l.shared.roads (take l.source-index l.ends.sources.now) l.ends.targets.now l.codes.items;
}
