-- What is known of an order that was found.
use Rattle.std.specs.Prelude.{◌≡◌, length, Option, IfNone, IfSome}
use Rattle.road_graph.specs.GraphData.{GraphData}
use Rattle.elimination_order.specs.Bounds.{AreWithinBounds, IsTooDense}
use Rattle.elimination_order.specs.declared.care.Care.{Care}
use Rattle.elimination_order.specs.declared.ordered.FoundOrder.{FoundOrder}
use Rattle.elimination_order.specs.declared.ordered.Ordered.{Ordered}

-- it is of all vertices of this graph, on which it was sought by nested dissection with this care, or
-- without one by approximate minimum degree
pub record IsFoundOn (g : GraphData) (c : Option Care) (found : FoundOrder) : Type 0 where
  pub graph : found.graph.value ≡ g
  pub care : found.care ≡ c
  pub each : length found.order.vertices.items ≡ g.vertices

-- an order is found on a graph, with counts within the bounds; or none, since one is above its bound
pub record IsOrderedOn (g : GraphData) (c : Option Care) (made : Ordered) : Type 0 where
  pub order : IfSome made.order (IsFoundOn g c)
  pub within : IfSome made.order (λ _. AreWithinBounds g.vertices (length g.arcs) made.counts)
  pub dense : IfNone made.order (IsTooDense g.vertices (length g.arcs) made.counts)
