use Rattle.answer_lists.specs.Tree.{AreSameLists}
use Rattle.answer_lists.proofs.Filling.{AreWantedUpTo}
use Rattle.answer_lists.proofs.tree_lists.write_found.Given as goal

abbrev pub invariant-loop-i : goal.invariant-loop-i
invariant-loop-i g l = record {
  same : AreSameLists l.initial.lists l.lists;
  written : AreWantedUpTo (g.A.PathAlgebra.meaning l.algebra) l.graph l.sources l.i l.lists.codes.now l.lists.hops.now l.lists.parents.now;
}
