use Rattle.road_graph.proofs.Words.{ℕ, List, subst, sym, Contains, IsAscendingFrom}
use Rattle.road_graph.proofs.Places.{has_in_row, stands_in_row}
use Rattle.road_graph.proofs.lookup.find_place.Goals as goal

pub place_of-requires-clause-ascending : goal.place_of-requires-clause-ascending
place_of-requires-clause-ascending c =
    subst (λ (xs : List ℕ). IsAscendingFrom 0 xs) (sym c.row_of.ensures)
    (has_in_row c.args.graph.now c.starts-starts.result.now c.args.numbers.now (c.starts-starts.ensures.all c.args.numbers.now c.requires.numbers) c.holds.ensures c.args.a
    c.args.tail c.requires.arc c.requires.tail).1

pub place_of-requires-clause-listed : goal.place_of-requires-clause-listed
place_of-requires-clause-listed c =
    subst (λ (xs : List ℕ). Contains xs c.args.a) (sym c.row_of.ensures)
    (has_in_row c.args.graph.now c.starts-starts.result.now c.args.numbers.now (c.starts-starts.ensures.all c.args.numbers.now c.requires.numbers) c.holds.ensures c.args.a
    c.args.tail c.requires.arc c.requires.tail).2

pub returns : goal.returns
returns c =
    let row = (has_in_row c.args.graph.now c.starts-starts.result.now c.args.numbers.now
    (c.starts-starts.ensures.all c.args.numbers.now c.requires.numbers) c.holds.ensures c.args.a c.args.tail c.requires.arc c.requires.tail).0 in
    stands_in_row c.starts-starts.result.now c.args.numbers.now c.row_of.result.now c.args.tail c.args.a c.place_of.result c.range_of-start.result.0 row c.row_of.ensures
    c.range_of-start.ensures.start c.place_of.ensures.place c.place_of.ensures.number
