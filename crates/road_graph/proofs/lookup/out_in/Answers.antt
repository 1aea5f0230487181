use Rattle.road_graph.proofs.Words.{◌-◌, List, ℕ, refl, subst, sym, get_or, ListsArcsFrom}
use Rattle.road_graph.proofs.Reading.{row_lists_from}
use Rattle.road_graph.proofs.lookup.out_in.Goals as goal

pub returns : goal.returns
returns c = subst (λ (xs : List ℕ). ListsArcsFrom c.args.graph.now c.args.v xs) (sym c.row_of.ensures)
    (row_lists_from c.args.graph.now c.args.v c.requires.vertex c.starts.result.now c.args.numbers.now (get_or c.starts.result.now (c.args.v - 1) 0)
    (get_or c.starts.result.now c.args.v 0) refl refl c.args.numbers.now refl (c.starts.ensures.all c.args.numbers.now c.requires.numbers))
