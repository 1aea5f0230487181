use Rattle.std.proofs.Common.{◌≤◌, ◌*◌, subst}
use Rattle.path_algebra.specs.Given.{shortest}
use Rattle.scholten_core.specs.Network.{network}
use Rattle.scholten_core.specs.Diffusion.{opening, count_enabled}
use Rattle.scholten_core.specs.Accounts.{totals_of}
use Rattle.path_trials.specs.SmallGraphs.{two_locks}
use Rattle.path_trials.proofs.SmallGraphs.{locks_roads, locks_source, locks_bound}
use Rattle.path_trials.proofs.ends.two_locks_end_soon.Goals as goal

pub returns-clause-messages : goal.returns-clause-messages
returns-clause-messages c = λ events. subst (λ n. (totals_of shortest (network two_locks 1) events).sent ≤ n) locks_bound
    (c.every_run_is_finite.ensures.messages two_locks 1 locks_roads locks_source events)

pub returns-clause-events : goal.returns-clause-events
returns-clause-events c = λ events. subst (λ n. count_enabled shortest (network two_locks 1) (opening shortest (network two_locks 1)) events ≤ 2 * n) locks_bound
    (c.every_run_is_finite.ensures.events two_locks 1 locks_roads locks_source events)
