use Rattle.path_factors.proofs.Words.{inl, inr, length, ap, arith, row_of, rising, heads_in, head_at, row_heads_count}
use Rattle.path_factors.proofs.Eliminating.{edge_rises}
use Rattle.path_factors.proofs.Pruning.{ends_lead}
use Rattle.path_factors.proofs.weighing.Weighing.choose.Goals as goal

pub edge-end-requires-clause-place : goal.edge-end-requires-clause-place
edge-end-requires-clause-place g c κs within =
    let e = c.edge-first.result in
    (c.holds.ensures.begun.links.rising c.args.v e.place e.leaving (edge_rises c.args.self.now.factor c.args.v c.args.i e c.edge-first.ensures)).1

pub edge-end-requires-clause-edge : goal.edge-end-requires-clause-edge
edge-end-requires-clause-edge g c κs within =
    let F = c.args.self.now.factor in
    let e = c.edge-first.result in
    let x = head_at F.leaving c.args.v c.args.i (rising e) c.edge-first.ensures.leaving_inside c.edge-first.ensures.rises in
    let m = ap (λ z. length (row_of (heads_in F.leaving) z)) x in
    omega (arith, row_heads_count F.leaving e.place, m, c.requires.index)

pub unmark-requires-clause-there : goal.unmark-requires-clause-there
unmark-requires-clause-there g c κs within =
    inr (ends_lead c.args.self.now.factor c.args.v c.args.i c.args.j c.args.q c.edge-first.result c.edge-end.result c.edge-first.ensures c.edge-end.ensures c.requires.head).1

pub unmark-requires-clause-back : goal.unmark-requires-clause-back
unmark-requires-clause-back g c κs within =
    inl (ends_lead c.args.self.now.factor c.args.v c.args.i c.args.j c.args.q c.edge-first.result c.edge-end.result c.edge-first.ensures c.edge-end.ensures c.requires.head).0

pub unmark-requires-2-clause-there : goal.unmark-requires-2-clause-there
unmark-requires-2-clause-there g c κs within =
    inl (ends_lead c.args.self.now.factor c.args.v c.args.i c.args.j c.args.q c.edge-first.result c.edge-end.result c.edge-first.ensures c.edge-end.ensures c.requires.head).0

pub unmark-requires-2-clause-back : goal.unmark-requires-2-clause-back
unmark-requires-2-clause-back g c κs within =
    inr (ends_lead c.args.self.now.factor c.args.v c.args.i c.args.j c.args.q c.edge-first.result c.edge-end.result c.edge-first.ensures c.edge-end.ensures c.requires.head).1
