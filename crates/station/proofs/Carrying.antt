-- A station may cross threads where values may.
use mathlib.Core.List.{List, [], ◌∷◌}
use Prim.Native.Nat.{ℕ}
use mir.Syntax.{w32}
use denote.RattleType.{RattleType}
use denote.Plain.{UInt}
use denote.Param.Send.{IsSend, IsSync, shr_send, sendable}
use denote.Ref.{NamedLft, ShrRef}
use denote.Struct.Tuple.{TupleAt}
use Rattle.std.proofs.Crossing.{crosses}
use Rattle.std.specs.declared.clone.Clone as clone
use Rattle.path_algebra.specs.declared.algebra.PathAlgebra.{Ghosts}
use Rattle.shard_part.proofs.Sharing.{part_send}
use Rattle.shard_store.proofs.Sharing.{Plan-sync}
use Rattle.post_floor.proofs.Carrying.{tuple_send, floor_sync, seat_send}
use Rattle.post_floor.specs.contracts.floor.Floor as Floor
use Rattle.station.specs.contracts.station.Station as Station

u32_send : IsSend (UInt w32)
u32_send = search sendable

module _ (A V : RattleType) (h : Ghosts A.Denot V.Denot) where
  pub station_send : (κ : NamedLft) → IsSend A → IsSend V → IsSend (Station.the_row κ A V h)
  station_send κ a v = search (sendable, crosses, part_send, seat_send, Plan-sync) depth 40

  -- what a thread is given that turns one station: the station, its floor, and a budget
  pub turner_send : (c : clone.Ghosts A.Denot) (d : clone.Ghosts V.Denot) (ν : List ℕ) (κ ℓ : NamedLft) → IsSend A → IsSend V → IsSync A → IsSync V
      → IsSend (TupleAt ν (ShrRef ℓ.mir ℓ.lft (Floor.the_row A V h c d) ∷ Station.the_row κ A V h ∷ UInt w32 ∷ []))
  turner_send c d ν κ ℓ a v y z = tuple_send ν (ShrRef ℓ.mir ℓ.lft (Floor.the_row A V h c d) ∷ Station.the_row κ A V h ∷ UInt w32 ∷ [])
      (shr_send ℓ.mir ℓ.lft (Floor.the_row A V h c d) (floor_sync A V h c d a v y z), (station_send κ a v, (u32_send, tt)))
