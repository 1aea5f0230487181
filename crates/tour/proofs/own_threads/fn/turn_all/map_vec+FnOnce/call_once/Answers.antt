use denote.Param.Send.{sendable}
use Rattle.tour.proofs.own_threads.fn.turn_all.map_vec+FnOnce.call_once.Goals as goal

pub map_vec-requires : goal.map_vec-requires
map_vec-requires g c =
    let r = c.requires in (search sendable, (search sendable, (search sendable, (search sendable, r.1.1.0))))
