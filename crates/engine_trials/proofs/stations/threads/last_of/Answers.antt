use Rattle.engine_trials.proofs.Words.{BelongsTo, Some, All-pop}
use Rattle.engine_trials.proofs.stations.threads.last_of.Goals as goal

pub returns-clause-rest : goal.returns-clause-rest
returns-clause-rest g c = (All-pop (BelongsTo c.args.floor.now) c.args.stations.now.items c.pop.new.self.items (Some c.in-Some.station) c.in-Some.ensures.items c.requires).0

pub returns-clause-last : goal.returns-clause-last
returns-clause-last g c = (All-pop (BelongsTo c.args.floor.now) c.args.stations.now.items c.pop.new.self.items (Some c.in-Some.station) c.in-Some.ensures.items c.requires).1
