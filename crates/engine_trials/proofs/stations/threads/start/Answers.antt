use mir.Syntax.{erased}
use denote.Exit.{no}
use denote.Param.{copied}
use denote.Param.Send.{param_send, arg_send}
use Rattle.station.proofs.Carrying.{station_send, turner_send}
use Rattle.engine_trials.proofs.stations.threads.start.Goals as goal

pub spawn_with-started-requires-send-F : goal.spawn_with-started-requires-send-F
spawn_with-started-requires-send-F g c κs within = let s = c.type_bounds in
    param_send 2 _ (arg_send _ no _ (turner_send (copied 1 g.row.A) (copied 2 g.row.A-Value) g.A.PathAlgebra g.A.Clone g.A.Value.Clone _ _ _ s.send-A s.send-A-Value s.sync-A s.sync-A-Value))

pub spawn_with-started-requires-send-T : goal.spawn_with-started-requires-send-T
spawn_with-started-requires-send-T g c κs within = let s = c.type_bounds in
    param_send 3 _ (arg_send _ no _ (station_send (copied 1 g.row.A) (copied 2 g.row.A-Value) g.A.PathAlgebra (record { mir = erased; lft = _ }) s.send-A s.send-A-Value))
