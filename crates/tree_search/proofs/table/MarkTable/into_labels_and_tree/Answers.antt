use Rattle.std.proofs.Common.{arith}
use Rattle.tree_search.proofs.Rows.{values_are, hops_are, parents_are}
use Rattle.tree_search.proofs.table.MarkTable.into_labels_and_tree.Goals as goal

pub from_parts-requires : goal.from_parts-requires
from_parts-requires g c = grind (arith, hops_are, parents_are)

pub returns-clause-labels : goal.returns-clause-labels
returns-clause-labels g c = grind (arith, values_are)

pub returns-clause-tree : goal.returns-clause-tree
returns-clause-tree g c = grind (arith, hops_are, parents_are)
