use Rattle.road_graph.proofs.Words.{length, ap, ◌∙◌, arith, length-map, arc_of, road_of}
use Rattle.road_graph.proofs.Entries.{road_read}
use Rattle.road_graph.proofs.lookup.road_in.Goals as goal

pub bounds-roads-find_place : goal.bounds-roads-find_place
bounds-roads-find_place c =
    let long = simp length-map at (ap length (c.roads.ensures c.args.numbers.now c.requires.numbers)) in
    omega (arith, c.find_place.ensures.0, long)

pub returns : goal.returns
returns c =
    c.index-roads-find_place.is
    ∙ road_read c.args.graph.now c.args.numbers.now c.roads.result.now (c.roads.ensures c.args.numbers.now c.requires.numbers) c.find_place.result c.find_place.ensures.0
    c.index-roads-find_place.result
    ∙ ap (λ b. road_of (arc_of c.args.graph.now b)) c.find_place.ensures.1
