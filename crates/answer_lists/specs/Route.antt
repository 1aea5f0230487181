-- A route in the room that a caller lends for it.
use Rattle.std.specs.Prelude.{◌≡◌, ◌+◌, ◌<◌, ◌≤◌, ◌⊎◌, ℤ, pos, length, take, drop}
use Rattle.road_graph.specs.GraphData.{GraphData}
use Rattle.path_algebra.specs.Algebra.{Algebra}
use Rattle.arc_numbers.specs.RouteArcs.{AreRouteArcs}
use Rattle.answer_lists.specs.Answers.{IsFound}
use Rattle.answer_lists.specs.declared.route.RouteRoom.{RouteRoom}
use Rattle.answer_lists.specs.declared.route_arcs.RouteArcsRoom.{RouteArcsRoom}

-- which places of the room are written, as the status says: the first hops + 1 of the vertices, if
-- there are so many, and else none; code and hops, if there is a route
pub record IsWrittenRoute (old new : RouteRoom) (status : ℤ) : Type 0 where
  pub same : (new.code.ghost_name ≡ old.code.ghost_name) × (new.hops.ghost_name ≡ old.hops.ghost_name) × (new.vertices.ghost_name ≡ old.vertices.ghost_name)
  pub short : status ≡ pos 2 → length old.vertices.now < new.hops.now + 1
  pub long : status ≡ pos 0 → new.hops.now + 1 ≤ length old.vertices.now
  pub room : (status ≡ pos 0 → ⊥) → new.vertices.now ≡ old.vertices.now
  pub rest : status ≡ pos 0 → drop (new.hops.now + 1) new.vertices.now ≡ drop (new.hops.now + 1) old.vertices.now
  pub places : (IsFound status → ⊥) → (new.code.now ≡ old.code.now) × (new.hops.now ≡ old.hops.now)

-- the same, with the first hops of the arcs: they are written if the vertices are
pub record IsWrittenArcs (old new : RouteArcsRoom) (status : ℤ) : Type 0 where
  pub same : (new.code.ghost_name ≡ old.code.ghost_name) × (new.hops.ghost_name ≡ old.hops.ghost_name) × (new.vertices.ghost_name ≡ old.vertices.ghost_name) × (new.arcs.ghost_name ≡ old.arcs.ghost_name)
  pub short : status ≡ pos 2 → (length old.vertices.now < new.hops.now + 1) ⊎ (length old.arcs.now < new.hops.now)
  pub long : status ≡ pos 0 → (new.hops.now + 1 ≤ length old.vertices.now) × (new.hops.now ≤ length old.arcs.now)
  pub room : (status ≡ pos 0 → ⊥) → (new.vertices.now ≡ old.vertices.now) × (new.arcs.now ≡ old.arcs.now)
  pub rest : status ≡ pos 0 → (drop (new.hops.now + 1) new.vertices.now ≡ drop (new.hops.now + 1) old.vertices.now) × (drop new.hops.now new.arcs.now ≡ drop new.hops.now old.arcs.now)
  pub places : (IsFound status → ⊥) → (new.code.now ≡ old.code.now) × (new.hops.now ≡ old.hops.now)

-- the arcs in the room are those of the route in it, as they are numbered in this graph
abbrev pub HasRouteArcs : {V : Type 0} → Algebra V → GraphData → RouteArcsRoom → Type 0
HasRouteArcs A numbered room = AreRouteArcs A numbered (take (room.hops.now + 1) room.vertices.now) (take room.hops.now room.arcs.now) room.code.now
