use Rattle.batch_run.proofs.Words.{◌≤◌, length, asked_of}
use Rattle.batch_run.proofs.SourcesToCome.{AreCollected}
use Rattle.batch_run.proofs.solve.upcoming.upcoming.Given as goal

abbrev pub invariant-loop-later : goal.invariant-loop-later
invariant-loop-later l = record {
  few : length l.sources.items ≤ l.width;
  collected : AreCollected (asked_of l.questions).questions l.width l.i l.j l.later l.sources.items;
}
