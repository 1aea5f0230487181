-- The mean weight of the arcs of a graph, as it is summed arc by arc.
use Rattle.std.proofs.Common.{◌≡◌, ℕ, ◌+◌, ◌-◌, ◌<◌, length, get_or, take, sum_by, sym, ap, ◌∙◌, arith}
use Rattle.std.proofs.lemmas.List.Sums.{sum_by_more}
use Rattle.road_graph.specs.declared.RoadArc.{RoadArc}
use Rattle.road_graph.specs.GraphData.{GraphData, arc_of}

abbrev no_arc : RoadArc
no_arc = record { tail = 0; head = 0; weight = 0 }

-- one arc more
pub weighs_more : (g : GraphData) (k : ℕ) → k < length g.arcs → sum_by (λ a. a.weight) (take (k + 1) g.arcs) ≡ sum_by (λ a. a.weight) (take k g.arcs) + (arc_of g (k + 1)).weight
weighs_more g k low =
    let here : k + 1 - 1 ≡ k = omega arith in
    sum_by_more (λ a. a.weight) g.arcs k no_arc low ∙ ap (λ j. sum_by (λ a. a.weight) (take k g.arcs) + (get_or g.arcs j no_arc).weight) (sym here)
