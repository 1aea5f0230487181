use Rattle.std.proofs.Common.{◌≡◌, None, get_or, subst}
use Rattle.shard_part.proofs.Graphs.{own_rising, place_leaves}
use Rattle.shard_part.proofs.Moves.{label_read}
use Rattle.shard_part.proofs.closed.ClosedPart.label.Goals as goal

pub find-requires-clause-increasing : goal.find-requires-clause-increasing
find-requires-clause-increasing g c = let i = c.self.invariant in
    (own_rising _ c.args.self.now i.rows _ _ c.self.inside.own c.args.v c.self.view_is i.stored i.own_are c.requires.0.1 (λ _. c.requires.1)).0

pub find-requires-clause-contained : goal.find-requires-clause-contained
find-requires-clause-contained g c = let i = c.self.invariant in
    (own_rising _ c.args.self.now i.rows _ _ c.self.inside.own c.args.v c.self.view_is i.stored i.own_are c.requires.0.1 (λ _. c.requires.1)).1

pub returns : goal.returns
returns g c =
    let i = c.self.invariant in let j = c.find.result in
    let place = place_leaves _ c.args.self.now i.rows _ _ c.self.inside.own c.args.v j c.self.view_is i.stored i.own_are c.find.ensures.inside c.find.ensures.found in
    label_read _ c.args.self.now i.rows _ _ c.args.v j c.label.result c.self.view_is i.stored place (subst (λ ys. c.label.result ≡ get_or ys j None) i.labels_are c.label.ensures)
