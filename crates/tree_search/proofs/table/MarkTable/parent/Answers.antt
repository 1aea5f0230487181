use Rattle.tree_search.proofs.Words.{arith, None, get_or_default}
use Rattle.tree_search.proofs.Rows.{counts, parents_are}
use Rattle.tree_search.proofs.table.MarkTable.parent.Goals as goal

pub returns : goal.returns
returns g c = grind (arith, counts, parents_are, get_or_default c.self.inside.parents.items c.args.i c.index.result.now None)
