use Rattle.worker_fleet.proofs.OneShard.{never_stalls}
use Rattle.worker_fleet.proofs.OneShardGroups.{never_stall}
use Rattle.worker_fleet.proofs.one_shard.one_shard_never_stalls.Goals as goal

pub returns-clause-drives : goal.returns-clause-drives
returns-clause-drives g c = λ floors budget limit turns worker before r enough whole most drives.
    let e = c.one_shard_goes_on.ensures in
    never_stalls g.A.PathAlgebra.meaning c.args.algebra floors budget turns enough e.opened e.turns e.few e.few_best_first limit worker (g.G.Gate.may_answer c.args._gate.now) before r whole most drives

pub returns-clause-groups : goal.returns-clause-groups
returns-clause-groups g c = λ rule workers width budget limit turns enough most stops.
    let e = c.one_shard_goes_on.ensures in let answers = g.G.Gate.may_answer c.args._gate.now in
    never_stall g.A.PathAlgebra.meaning c.args.algebra rule workers width budget limit turns answers most
    (λ floors worker before r whole low drives. never_stalls g.A.PathAlgebra.meaning c.args.algebra floors budget turns enough e.opened e.turns e.few e.few_best_first limit worker answers before r whole low drives) stops
