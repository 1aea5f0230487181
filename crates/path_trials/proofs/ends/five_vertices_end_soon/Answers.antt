use Rattle.std.proofs.Common.{◌≤◌, ◌*◌, subst}
use Rattle.path_algebra.specs.Given.{shortest}
use Rattle.scholten_core.specs.Network.{network}
use Rattle.scholten_core.specs.Diffusion.{opening, count_enabled}
use Rattle.scholten_core.specs.Accounts.{totals_of}
use Rattle.path_trials.specs.SmallGraphs.{five}
use Rattle.path_trials.proofs.SmallGraphs.{five_roads, five_source, five_bound}
use Rattle.path_trials.proofs.ends.five_vertices_end_soon.Goals as goal

pub returns-clause-messages : goal.returns-clause-messages
returns-clause-messages c = λ events. subst (λ n. (totals_of shortest (network five 1) events).sent ≤ n) five_bound (c.every_run_is_finite.ensures.messages five 1 five_roads five_source events)

pub returns-clause-events : goal.returns-clause-events
returns-clause-events c = λ events. subst (λ n. count_enabled shortest (network five 1) (opening shortest (network five 1)) events ≤ 2 * n) five_bound
    (c.every_run_is_finite.ensures.events five 1 five_roads five_source events)
