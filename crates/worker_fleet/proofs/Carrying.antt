-- Stations may cross threads where values may.
use mathlib.Core.List.{[], ◌∷◌}
use mir.Syntax.{w64}
use denote.RattleType.{RattleType}
use denote.Plain.{UInt}
use denote.Param.Send.{IsSend, sendable}
use denote.Ref.{NamedLft}
use denote.Struct.Tuple.{Tuple, tuple_name}
use Rattle.std.proofs.Crossing.{Vec-send}
use Rattle.std.specs.contracts.vec.Vec as Vec
use Rattle.std.specs.contracts.alloc.Global as Global
use Rattle.std.specs.contracts.impls.GlobalAllocator.TheImpl.{ghosts}
use Rattle.path_algebra.specs.declared.algebra.PathAlgebra.{Ghosts}
use Rattle.post_floor.proofs.Carrying.{tuple_send}
use Rattle.station.proofs.Carrying.{station_send}
use Rattle.station.specs.contracts.station.Station as Station
use Rattle.std.specs.contracts.option.Option as Option
use Rattle.worker_fleet.specs.contracts.driving.Driven as Driven

w64_send : IsSend (UInt w64)
w64_send = search sendable

module _ (A V : RattleType) (h : Ghosts A.Denot V.Denot) where
  module _ (κ : NamedLft) where
    pub stations_send : IsSend A → IsSend V → IsSend (Vec.the_row (Tuple (UInt w64 ∷ Station.the_row κ A V h ∷ [])) Global.the_row ghosts)
    stations_send a v = Vec-send _ (tuple_send (tuple_name 2) (UInt w64 ∷ Station.the_row κ A V h ∷ []) (w64_send, (station_send A V h κ a v, tt)))

    pub driven_send : IsSend A → IsSend V → IsSend (Driven.the_row κ A V h)
    driven_send a v = search (sendable, stations_send, w64_send) depth 40

    pub answer_send : IsSend A → IsSend V → IsSend (Option.the_row (Driven.the_row κ A V h))
    answer_send a v = search (sendable, driven_send) depth 40
