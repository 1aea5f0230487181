-- A diffusing computation: the one record for it, for a single core and for parts.
use Rattle.std.specs.Prelude.{ℕ}
use Rattle.road_graph.specs.GraphData.{GraphData, IsGraph, HasVertex}
use Rattle.scholten_core.specs.Network.{Network, network}

-- an algebra, a graph and a source
pub record DiffusionData (S : Type 0) : Type 0 where
  pub algebra : S
  pub roads : GraphData
  pub source : ℕ

-- the network of a diffusion
abbrev pub network_in : {S : Type 0} → DiffusionData S → Network
network_in q = network q.roads q.source

-- it is over a graph, and a source among its vertices
pub record IsDiffusion {S : Type 0} (q : DiffusionData S) : Type 0 where
  pub roads : IsGraph q.roads
  pub source : HasVertex q.roads q.source
