use denote.Param.Send.{sendable}
use Rattle.worker_fleet.proofs.group.fn.drive_each.run_each+FnOnce.call_once.Goals as goal

pub run_each-requires : goal.run_each-requires
run_each-requires g c =
    let r = c.requires in (search sendable, (search sendable, (search sendable, (search sendable, (search sendable, r.1.1.1.0)))))
