use Rattle.batch_run.proofs.Words.{◌≡◌, ◌≤◌, ◌*◌, length, take, flat_map, asked_of, sources_of}
use Rattle.batch_run.proofs.solve.schedule.count_diffusions.Given as goal

abbrev pub invariant-loop-i : goal.invariant-loop-i
invariant-loop-i l = record {
  counted : l.count ≡ length (flat_map sources_of (take l.i (asked_of l.questions).questions));
  few : l.count ≤ l.i * 1024;
}
