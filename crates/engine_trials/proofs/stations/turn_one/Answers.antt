use Rattle.engine_trials.proofs.Words.{rules, BelongsTo}
use Rattle.std.proofs.lemmas.List.Elements.{All-set}
use Rattle.engine_trials.proofs.stations.turn_one.Goals as goal

pub turn-requires-after_bounds : goal.turn-requires-after_bounds
turn-requires-after_bounds g c κs within = rw c.index_mut.ensures.value (c.requires c.args.k c.index_mut.result.now (search rules))

pub returns : goal.returns
returns g c = All-set (BelongsTo c.args.floor.now) c.args.stations.now.items c.args.k c.turn.new.self c.turn.ensures.turned.own c.requires
