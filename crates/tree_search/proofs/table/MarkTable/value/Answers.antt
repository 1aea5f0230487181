use Rattle.tree_search.proofs.Words.{arith, None, get_or_default}
use Rattle.tree_search.proofs.Rows.{counts, values_are}
use Rattle.tree_search.proofs.table.MarkTable.value.Goals as goal

pub returns : goal.returns
returns g c = grind (arith, counts, values_are, get_or_default c.self.inside.values.items c.args.i c.index.result.now None)
