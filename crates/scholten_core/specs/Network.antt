-- A graph with a source, seen as functions of the arc's number. Arc 0 leads from the environment,
-- which is vertex 0, to the source; the arcs of the graph are 1 to M.
use Rattle.std.specs.Prelude.{◌≡◌, ◌≢◌, ℕ, zero, suc, ◌<◌, ◌≤◌, ◌^◌, length}
use Rattle.road_graph.specs.GraphData.{GraphData, arc_of}

-- a graph and a source, as functions of the arc's number; arc 0 leads from the environment to the
-- source
pub record Network : Type 0 where
  pub arcs : ℕ
  pub source : ℕ
  pub tail : ℕ → ℕ
  pub head : ℕ → ℕ
  pub weight : ℕ → ℕ

-- what holds of the network of every graph: an arc whose tail is not the environment is one of the
-- graph's
pub record WellFormed (N : Network) : Type 0 where
  pub source_in : N.source ≢ 0
  pub tail_zero : N.tail 0 ≡ 0
  pub head_zero : N.head 0 ≡ N.source
  pub real : (b : ℕ) → N.tail b ≢ 0 → b ≤ N.arcs
  pub head_in : (b : ℕ) → N.tail b ≢ 0 → N.head b ≢ 0
  pub weighs : (b : ℕ) → N.tail b ≢ 0 → N.weight b < 2 ^ 32

-- the vertex that an arc leaves: the environment for arc 0, and for numbers past the last arc
unfoldable pub tail_of : GraphData → ℕ → ℕ
tail_of g zero = 0
tail_of g (suc b) = (arc_of g (suc b)).tail

-- the vertex that an arc enters
unfoldable pub head_of : GraphData → ℕ → ℕ → ℕ
head_of g s zero = s
head_of g s (suc b) = (arc_of g (suc b)).head

-- the weight of an arc
unfoldable pub weight_of : GraphData → ℕ → ℕ
weight_of g zero = 0
weight_of g (suc b) = (arc_of g (suc b)).weight

-- the network of a graph and a source
abbrev pub network : GraphData → ℕ → Network
network g s = record { arcs = length g.arcs; source = s; tail = tail_of g; head = head_of g s; weight = weight_of g }
