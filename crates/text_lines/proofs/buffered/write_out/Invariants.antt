use Rattle.text_lines.proofs.Words.{length, ◌-◌, ◌≡◌, ◌≤◌, take, Appends}
use Rattle.text_lines.proofs.buffered.write_out.Given as goal

abbrev pub invariant-loop-written : goal.invariant-loop-written
invariant-loop-written g l = record {
  within : l.written ≤ length l.bytes;
  bytes : Appends (g.W.RoadWrite.seen l.initial.to).written (g.W.RoadWrite.seen l.to).written (take l.written l.bytes);
  sound : (g.W.RoadWrite.seen l.to).failures ≡ (g.W.RoadWrite.seen l.initial.to).failures;
}

abbrev pub decreases-loop-written : goal.decreases-loop-written
decreases-loop-written g l = length l.bytes - l.written
