use Rattle.scholten_core.proofs.EveryRun.{reach_sends_once}
use Rattle.scholten_core.proofs.laws.reach_sends_once_an_arc.Goals as goal

pub returns : goal.returns
returns c = λ g s R S es q marked M. reach_sends_once g s R S es q marked M
