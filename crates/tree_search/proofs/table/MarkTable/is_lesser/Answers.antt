use Rattle.tree_search.proofs.Words.{arith, None, get_or_default}
use Rattle.std.proofs.lemmas.Bool.{le-leb, lt-leb}
use Rattle.tree_search.proofs.Rows.{counts, mark_at}
use Rattle.tree_search.proofs.table.MarkTable.is_lesser.Goals as goal
use Rattle.tree_search.proofs.table.MarkTable.is_lesser.Goals.{else-no_worse-via-then-no_worse+else-not-new-number, else-no_worse-via-else-no_worse}

pub returns-in_default : goal.returns-in_default
returns-in_default g c = grind (arith, counts, mark_at, get_or_default c.self.inside.values.items c.args.i c.index.result.now None)

pub returns-then-not-no_worse : goal.returns-then-not-no_worse
returns-then-not-no_worse g c = grind (arith, counts, mark_at, get_or_default c.self.inside.values.items c.args.i c.index.result.now None)

pub returns-then-not-new-number : goal.returns-then-not-new-number
returns-then-not-new-number g c = grind (arith, counts, mark_at, lt-leb, get_or_default c.self.inside.values.items c.args.i c.index.result.now None, get_or_default c.self.inside.hops.items c.args.i c.index-then-no_worse.result.now None)

pub returns : goal.returns
returns g c = elim c.else-no_worse.branch [
  | else-no_worse-via-then-no_worse+else-not-new-number w ↦ grind (arith, counts, mark_at, le-leb, get_or_default c.self.inside.values.items c.args.i c.index.result.now None, get_or_default c.self.inside.parents.items c.args.i c.index-2.result.now None, get_or_default c.self.inside.hops.items c.args.i w.index-then-no_worse.result.now None)
  | else-no_worse-via-else-no_worse w ↦ grind (arith, counts, mark_at, get_or_default c.self.inside.values.items c.args.i c.index.result.now None, get_or_default c.self.inside.parents.items c.args.i c.index-2.result.now None)
]
