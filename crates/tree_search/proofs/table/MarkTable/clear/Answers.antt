use Rattle.std.proofs.Common.{arith, refl, None}
use Rattle.tree_search.proofs.Rows.{set_marks, set_rows}
use Rattle.tree_search.proofs.table.MarkTable.clear.Goals as goal

pub invariant_of-self : goal.invariant_of-self
invariant_of-self g c = rw (c.none.ensures, c.none-2.ensures) (set_rows _ _ _ c.self.invariant c.args.i None None None (refl, refl))

pub returns : goal.returns
returns g c = grind (arith, set_marks)
