use Rattle.batch_run.proofs.OneShard.{usual_enough}
use Rattle.batch_run.proofs.laws.usual_turns_are_enough.Goals as goal

pub returns : goal.returns
returns c = λ how roads graph few turns. usual_enough how roads graph few turns
