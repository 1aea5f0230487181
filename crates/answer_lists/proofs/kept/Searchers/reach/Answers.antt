use Rattle.answer_lists.proofs.NearLines.{has_reached}
use Rattle.answer_lists.proofs.kept.Searchers.reach.Goals as goal

pub returns-clause-found : goal.returns-clause-found
returns-clause-found g c =
    let A = g.A.PathAlgebra.meaning c.args.self.now.algebra in let roads = c.args.graph.now in let sources = c.args.sources.now in
    let t = c.in_ok-found.found in let e = c.in_ok-found.ensures in let is = c.if-not-is_found.false in
    has_reached A c.laws_hold.ensures.lawful c.requires.low roads c.holds.ensures sources t
    (c.labels_and_trees_agree.ensures roads sources t.labels t.tree (e.labels is) (e.tree is)) e.roads (e.reached is)
