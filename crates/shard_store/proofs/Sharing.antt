-- The tables, the queue and the batches of a part may cross threads if values may.
use denote.RattleType.{RattleType}
use denote.Param.Send.{IsSend, IsSync, sendable}
use Rattle.std.proofs.Crossing.{crosses}
use Rattle.circular_buffer.proofs.Crosses.{Cells-send, Deed-send}
use Rattle.shard_store.specs.contracts.tables.Tables as Tables
use Rattle.shard_store.specs.contracts.tables.VertexTable as VertexTable
use Rattle.shard_store.specs.contracts.tables.ArcTable as ArcTable
use Rattle.shard_store.specs.contracts.batch.Batch as Batch
use Rattle.shard_store.specs.contracts.queue.Queue as Queue
use Rattle.shard_store.specs.contracts.plan.Plan as Plan
use Rattle.path_algebra.specs.declared.algebra.PathAlgebra.{Ghosts}
use Rattle.road_graph.specs.contracts.graph.Graph as Graph

pub VertexTable-send : (V : RattleType) → IsSend V → IsSend (VertexTable.the_row V)
VertexTable-send V s = search (sendable, crosses) depth 40

pub ArcTable-send : (V : RattleType) → IsSend V → IsSend (ArcTable.the_row V)
ArcTable-send V s = search (sendable, crosses) depth 40

pub Tables-send : (V : RattleType) → IsSend V → IsSend (Tables.the_row V)
Tables-send V s = search (sendable, crosses) depth 40

pub Batch-send : (V : RattleType) → IsSend V → IsSend (Batch.the_row V)
Batch-send V s = search (sendable, crosses, Cells-send, Deed-send) depth 40

pub Queue-send : (A V : RattleType) (P : Ghosts A.Denot V.Denot) → IsSend A → IsSend V → IsSend (Queue.the_row A V P)
Queue-send A V P r s = search (sendable, crosses) depth 40

pub Graph-sync : IsSync Graph.the_row
Graph-sync = search (sendable, crosses) depth 40

pub Plan-sync : IsSync Plan.the_row
Plan-sync = search (sendable, crosses) depth 40
