use Rattle.text_lines.proofs.Words.{ℕ, ◌-◌, ◌≤◌, List, ◌++◌, take, length, IsPresent}
use Rattle.text_lines.proofs.line_cutter.LineCutter.to_line_end.Given as goal

-- the bytes so far go on with the present line
abbrev pub invariant-loop-at : goal.invariant-loop-at
invariant-loop-at g l = record {
  present : (present : List ℕ) → IsPresent g.T.FieldTaker.so_far l.initial.self present → IsPresent g.T.FieldTaker.so_far l.self (present ++ take l.at l.bytes);
  kept : g.T.FieldTaker.kept l.initial.self.taker l.self.taker;
  within : l.at ≤ length l.bytes;
}

abbrev pub decreases-loop-at : goal.decreases-loop-at
decreases-loop-at g l = length l.bytes - l.at
