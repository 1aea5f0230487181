use Rattle.arc_numbers.specs.Rows.{AreRowsFrom}
use Rattle.arc_numbers.proofs.rows.NumberRows.of.Given as goal

abbrev pub invariant-loop-i : goal.invariant-loop-i
invariant-loop-i l = AreRowsFrom l.numbered l.i l.starts.items l.numbers.items
