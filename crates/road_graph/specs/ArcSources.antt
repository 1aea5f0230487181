-- The arcs that a source gives.
use Rattle.std.specs.Prelude.{◌+◌, map}
use Rattle.road_graph.specs.declared.arcs.ArcSource.{ArcSource}
use Rattle.road_graph.specs.declared.arcs.ArcSource.TheVariants.{Given, Changed}
use Rattle.road_graph.specs.Changing.{ArcHistory, arc_after}

abbrev pub arcs_in : ArcSource → ArcHistory
arcs_in (Given arcs) = record { list = arcs.value.items; changes = 0 }
arcs_in (Changed arcs changes) = record { list = map (arc_after changes.value.items) arcs.value.value.list; changes = arcs.value.value.changes + 1 }
