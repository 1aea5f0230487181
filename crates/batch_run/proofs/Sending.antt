-- Threads may send each other diffusions that were opened, or run to their end, if they may send
-- values.
use mathlib.Core.List.{List, [], ◌∷◌}
use Prim.Native.Nat.{ℕ}
use denote.RattleType.{RattleType}
use denote.Param.Send.{IsSend, IsSync, shr_send, sendable}
use denote.Ref.{NamedLft, ShrRef}
use denote.Struct.Tuple.{Tuple, TupleAt, tuple_name}
use Rattle.std.proofs.Crossing.{crosses, Vec-send}
use Rattle.std.below.core.specs.contracts.marker.ClosureMark as ClosureMark
use Rattle.std.specs.contracts.vec.Vec as Vec
use Rattle.std.specs.contracts.alloc.Global as Global
use Rattle.std.specs.contracts.impls.GlobalAllocator.TheImpl.{ghosts}
use Rattle.std.specs.declared.clone.Clone as clone
use Rattle.path_algebra.specs.declared.algebra.PathAlgebra.{Ghosts}
use Rattle.shard_store.proofs.Sharing.{Batch-send}
use Rattle.atomic_table.proofs.shared.Shared.TheSendSync as shared
use Rattle.atomic_table.proofs.send_lease.SendLease.TheSendSync as lease
use Rattle.post_floor.proofs.Carrying.{tuple_send}
use Rattle.post_floor.specs.contracts.floor.Floor as Floor
use Rattle.station.proofs.Carrying.{station_send}
use Rattle.station.specs.contracts.station.Station as Station
use Rattle.rayon.specs.contracts.iter.map.Map as Map
use Rattle.rayon.specs.contracts.iter.min_len.MinLen as MinLen
use Rattle.rayon.specs.contracts.vec.IntoIter as IntoIter
use Rattle.shard_store.specs.contracts.plan.Plan as Plan
use Rattle.shard_store.proofs.Sharing.{Plan-sync}
use Rattle.batch_run.specs.contracts.batch.BatchOver as BatchOver
use Rattle.batch_run.specs.contracts.solve.diffusion.EndedDiffusion as EndedDiffusion

-- so do a base and a function that is mapped over it
map_send : (P F : RattleType) → IsSend P → IsSend F → IsSend (Map.the_row P F)
map_send P F p f = search sendable depth 20

module _ (A V : RattleType) (h : Ghosts A.Denot V.Denot) (c : clone.Ghosts A.Denot) (d : clone.Ghosts V.Denot) where
  floor_send : IsSend A → IsSend V → IsSend (Floor.the_row A V h c d)
  floor_send a v = search (sendable, crosses, Batch-send, shared.the_send, lease.the_send) depth 40

  stations_send : (κ : NamedLft) → IsSend A → IsSend V → IsSend (Vec.the_row (Station.the_row κ A V h) Global.the_row ghosts)
  stations_send κ a v = Vec-send (Station.the_row κ A V h) (station_send A V h κ a v)

  pub opened_send : (κ : NamedLft) → IsSend A → IsSend V → IsSend (Tuple (Floor.the_row A V h c d ∷ Vec.the_row (Station.the_row κ A V h) Global.the_row ghosts ∷ []))
  opened_send κ a v = tuple_send (tuple_name 2) (Floor.the_row A V h c d ∷ Vec.the_row (Station.the_row κ A V h) Global.the_row ghosts ∷ []) (floor_send a v, (stations_send κ a v, tt))

  pub ended_send : (κ : NamedLft) → IsSend A → IsSend V → IsSend (EndedDiffusion.the_row κ A V h c d)
  ended_send κ a v = search (sendable, floor_send, stations_send) depth 40

  abbrev Ended : NamedLft → RattleType
  Ended κ = MinLen.the_row (IntoIter.the_row (EndedDiffusion.the_row κ A V h c d) Global.the_row ghosts)

  list_send : (κ : NamedLft) → IsSend A → IsSend V → IsSend (Ended κ)
  list_send κ a v = search (sendable, crosses, ended_send) depth 60

  module _ (R T : RattleType) (ℓ m n : NamedLft) where
    batch_sync : IsSync A → IsSync R → IsSync T → IsSync (BatchOver.the_row m A R T V h)
    batch_sync y r t = search (sendable, crosses) depth 60

    -- what a closure has that gathers: the batch, the plan, and a mark
    abbrev Closed : List RattleType
    Closed = ShrRef ℓ.mir ℓ.lft (BatchOver.the_row m A R T V h) ∷ ShrRef n.mir n.lft Plan.the_row ∷ ClosureMark.the_row (Tuple (V ∷ [])) ∷ []

    mark_send : IsSend V → IsSend (ClosureMark.the_row (Tuple (V ∷ [])))
    mark_send v = search (sendable, crosses) depth 20

    -- and so may a list of these with the closure that is to gather each
    pub gather_send : (κ : NamedLft) (ν : List ℕ) → IsSend A → IsSend V → IsSync A → IsSync R → IsSync T → IsSend (Map.the_row (Ended κ) (TupleAt ν Closed))
    gather_send κ ν a v y r t = map_send (Ended κ) (TupleAt ν Closed) (list_send κ a v) (tuple_send ν Closed
        (shr_send ℓ.mir ℓ.lft (BatchOver.the_row m A R T V h) (batch_sync y r t), (shr_send n.mir n.lft Plan.the_row Plan-sync, (mark_send v, tt))))
