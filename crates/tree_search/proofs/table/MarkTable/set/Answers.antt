use Rattle.std.proofs.Common.{arith}
use Rattle.tree_search.proofs.Rows.{given_rows, set_marks, parent_kept}
use Rattle.tree_search.proofs.table.MarkTable.set.Goals as goal

pub invariant_of-self : goal.invariant_of-self
invariant_of-self g c = rw (c.some.ensures, c.parent_slot.ensures) (given_rows _ _ _ c.self.invariant c.args.i c.args.mark)

pub returns : goal.returns
returns g c = grind (arith, set_marks, parent_kept)
