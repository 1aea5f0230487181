use denote.Param.Send.{sendable}
use Rattle.batch_run.proofs.solve.group.fn.gather_each.map+FnOnce.call_once.Goals as goal

pub map-requires : goal.map-requires
map-requires g c =
    let r = c.requires in (search sendable, (search sendable, (search sendable, (search sendable, (search sendable, (search sendable, r.1.1.1.1.0))))))
