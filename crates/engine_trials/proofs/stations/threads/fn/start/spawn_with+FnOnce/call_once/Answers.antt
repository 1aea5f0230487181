use denote.Param.Send.{sendable}
use Rattle.engine_trials.proofs.stations.threads.fn.start.spawn_with+FnOnce.call_once.Goals as goal

pub spawn_with-requires : goal.spawn_with-requires
spawn_with-requires g c =
    let r = c.requires in (search sendable, (search sendable, (search sendable, (search sendable, r.1.1.0))))
