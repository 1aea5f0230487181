use Rattle.station.proofs.ExactCounts.{once_an_arc}
use Rattle.station.proofs.laws.reach_counts_each_arc_once.Goals as goal

pub returns : goal.returns
returns c = λ t g G marked M. once_an_arc t g G marked M
