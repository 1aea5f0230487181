use Rattle.std.proofs.Common.{◌≡◌}
use Rattle.path_trials.proofs.near.assert_asked.Given as goal

abbrev pub invariant-loop-source : goal.invariant-loop-source
invariant-loop-source g l = record { rows : l.rows ≡ l.graph; roads : l.searcher.roads ≡ l.graph }
