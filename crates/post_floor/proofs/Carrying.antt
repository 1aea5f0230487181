-- A floor may be shared by threads, and a seat moved to another, where values may; so may a tuple
-- of what may.
use mathlib.Core.List.{List, [], ◌∷◌}
use Prim.Native.Nat.{ℕ}
use mir.Syntax.{w8}
use denote.RattleType.{RattleType}
use denote.Plain.{UInt}
use denote.Param.Send.{IsSend, IsSync, AllSend, sendable}
use denote.Param.SendFields.{FieldsHave, as_row_send, declared_send}
use denote.Struct.Field.{row_field}
use denote.Struct.Tuple.{TupleAt, type_at, parts}
use Rattle.std.proofs.Crossing.{crosses, Vec-send}
use Rattle.std.specs.declared.clone.Clone as clone
use Rattle.std.specs.contracts.vec.Vec as Vec
use Rattle.std.specs.contracts.alloc.Global as Global
use Rattle.std.specs.contracts.impls.GlobalAllocator.TheImpl.{ghosts}
use Rattle.path_algebra.specs.declared.algebra.PathAlgebra.{Ghosts}
use Rattle.shard_store.proofs.Sharing.{Batch-send}
use Rattle.atomic_table.proofs.shared.Seat.TheSendSync as seat
use Rattle.atomic_table.proofs.shared.Shared.TheSendSync as shared
use Rattle.atomic_table.proofs.send_lease.SendLease.TheSendSync as lease
use Rattle.circular_buffer.proofs.Crosses.{Cells-send, Deed-send}
use Rattle.post_floor.specs.contracts.floor.Floor as Floor
use Rattle.post_floor.specs.contracts.seat.Seat as Seat

parts_send : (Ts : List RattleType) → AllSend Ts → FieldsHave IsSend (parts Ts)
parts_send [] s = tt
parts_send (T ∷ Ts) s = (as_row_send (row_field T) s.0, parts_send Ts s.1)

-- a tuple, and so a closure, may be sent where each of its parts may
pub tuple_send : (ν : List ℕ) (Ts : List RattleType) → AllSend Ts → IsSend (TupleAt ν Ts)
tuple_send ν Ts s = declared_send (type_at ν Ts) (parts_send Ts s)

bytes_send : IsSend (Vec.the_row (UInt w8) Global.the_row ghosts)
bytes_send = Vec-send (UInt w8) (search sendable)

module _ (A V : RattleType) (h : Ghosts A.Denot V.Denot) where
  module _ (c : clone.Ghosts A.Denot) (d : clone.Ghosts V.Denot) where
    pub floor_sync : IsSend A → IsSend V → IsSync A → IsSync V → IsSync (Floor.the_row A V h c d)
    floor_sync a v y z = search (sendable, crosses, Batch-send, shared.the_sync, lease.the_sync) depth 40

  pub seat_send : IsSend A → IsSend V → IsSend (Seat.the_row A V h)
  seat_send a v = search (sendable, crosses, Batch-send, Cells-send, Deed-send, seat.the_send, bytes_send) depth 40
