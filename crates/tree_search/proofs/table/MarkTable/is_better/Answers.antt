use Rattle.tree_search.proofs.Words.{arith, None, get_or_default}
use Rattle.tree_search.proofs.Rows.{counts, mark_at}
use Rattle.tree_search.proofs.table.MarkTable.is_better.Goals as goal

pub returns-in_default : goal.returns-in_default
returns-in_default g c = grind (arith, counts, mark_at, get_or_default c.self.inside.values.items c.args.i c.index.result.now None)

pub returns-then-not-no_worse : goal.returns-then-not-no_worse
returns-then-not-no_worse g c = grind (arith, counts, mark_at, get_or_default c.self.inside.values.items c.args.i c.index.result.now None)

pub returns-then-no_worse : goal.returns-then-no_worse
returns-then-no_worse g c = grind (arith, counts, mark_at, get_or_default c.self.inside.values.items c.args.i c.index.result.now None, get_or_default c.self.inside.hops.items c.args.i c.index-then-no_worse.result.now None)

pub returns-else-no_worse : goal.returns-else-no_worse
returns-else-no_worse g c = grind (arith, counts, mark_at, get_or_default c.self.inside.values.items c.args.i c.index.result.now None)
