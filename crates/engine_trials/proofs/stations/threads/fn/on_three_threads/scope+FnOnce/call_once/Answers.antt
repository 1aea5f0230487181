use denote.Param.Send.{sendable}
use Rattle.engine_trials.proofs.stations.threads.fn.on_three_threads.scope+FnOnce.call_once.Goals as goal

pub scope-requires : goal.scope-requires
scope-requires g c =
    let r = c.requires in (search sendable, (search sendable, (search sendable, (search sendable, r.1.1.1.0))))
