use Rattle.path_factors.proofs.Setting.{BlankedTo}
use Rattle.path_factors.proofs.packed.PackedRows.blanked.Given as goal

abbrev pub invariant-loop-i : goal.invariant-loop-i
invariant-loop-i g l = record {
  leaving : BlankedTo l.none l.marks l.fn.self.leaving l.rows.leaving l.i;
  entering : BlankedTo l.none l.marks l.fn.self.entering l.rows.entering l.i;
}
