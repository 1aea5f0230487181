use Rattle.tree_search.proofs.Words.{arith, None, get_or_default}
use Rattle.tree_search.proofs.Rows.{counts, hops_are}
use Rattle.tree_search.proofs.table.MarkTable.hops.Goals as goal

pub returns : goal.returns
returns g c = grind (arith, counts, hops_are, get_or_default c.self.inside.hops.items c.args.i c.index.result.now None)
