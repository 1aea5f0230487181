use Rattle.road_graph.proofs.Places.{rank_is}
use Rattle.road_graph.proofs.lookup.rank_in.Goals as goal

pub overflow_sub-result : goal.overflow_sub-result
overflow_sub-result c =
    (rank_is c.args.graph.now c.starts.result.now c.args.numbers.now (c.starts.ensures.all c.args.numbers.now c.requires.numbers) c.args.a c.args.tail c.find_place.result
    c.range_of-start.result.0 c.requires.tail c.find_place.ensures c.range_of-start.ensures.start).0

pub returns : goal.returns
returns c =
    (rank_is c.args.graph.now c.starts.result.now c.args.numbers.now (c.starts.ensures.all c.args.numbers.now c.requires.numbers) c.args.a c.args.tail c.find_place.result
    c.range_of-start.result.0 c.requires.tail c.find_place.ensures c.range_of-start.ensures.start).1
