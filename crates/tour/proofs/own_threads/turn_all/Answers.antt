use mir.Syntax.{erased}
use denote.Exit.{no}
use denote.Param.{copied}
use denote.Param.Send.{param_send, arg_send, sendable}
use Rattle.std.proofs.Common.{rules}
use Rattle.station.proofs.Carrying.{station_send}
use Rattle.tour.proofs.own_threads.turn_all.Goals as goal

pub map_vec-requires-send-J : goal.map_vec-requires-send-J
map_vec-requires-send-J g c κs within = let s = c.type_bounds in
    param_send 1 _ (arg_send _ no _ (station_send (copied 0 g.row.A) (copied 2 g.row.A-Value) g.A.PathAlgebra (record { mir = erased; lft = _ }) s.send-A s.send-A-Value))

pub map_vec-requires-send-X : goal.map_vec-requires-send-X
map_vec-requires-send-X g c κs within = let s = c.type_bounds in
    param_send 2 _ (arg_send _ no _ (station_send (copied 0 g.row.A) (copied 2 g.row.A-Value) g.A.PathAlgebra (record { mir = erased; lft = _ }) s.send-A s.send-A-Value))

pub map_vec-requires-after_bounds : goal.map_vec-requires-after_bounds
map_vec-requires-after_bounds g c κs within = λ i x low is. (rw is (c.requires i x low), (search sendable, search sendable, search sendable, search sendable))

pub returns : goal.returns
returns g c = λ k d low. (c.in_ok-turned.ensures.each k d (let l = c.in_ok-turned.ensures.len in search rules)).1.call.met
