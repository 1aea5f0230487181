use Rattle.path_factors.proofs.Words.{IsBlankedTo}
use Rattle.path_factors.proofs.packed.PackedRows.blank_row.Given as goal

abbrev pub invariant-loop-j : goal.invariant-loop-j
invariant-loop-j g l = record {
  leaving : IsBlankedTo l.none l.i l.j l.fn.self.leaving l.self.leaving;
  entering : IsBlankedTo l.none l.i l.j l.fn.self.entering l.self.entering;
}
