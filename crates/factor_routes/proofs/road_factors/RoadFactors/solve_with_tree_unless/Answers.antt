use Rattle.factor_routes.proofs.Words.{◌≡◌, ℕ, ap, subst, arith, GraphData, Branches}
use Rattle.factor_routes.proofs.Telling.{AreTold, told_best, told_more, told_tree, tree_linked}
use Rattle.factor_routes.proofs.road_factors.RoadFactors.solve_with_tree_unless.Goals as goal

pub loop-i-preserved : goal.loop-i-preserved
loop-i-preserved g c =
    let A = g.A.PathAlgebra.meaning c.args.algebra in
    let G = c.args.self.now.roads in
    let sources = c.args.sources.now in
    let inv = c.loop-i.invariant in
    let before = c.loop-i.findings in
    let found = c.in_ok-finding.finding in
    let told = c.in_ok-finding.ensures.told sources c.requires.sources inv.1 in (
      rw c.in_ok-push.ensures.values
          (rw c.in_ok-push.ensures.hops
          (rw c.in_ok-push.ensures.parents
          (told_more A G sources c.loop-i.i before.values.items before.hops.items before.parents.items found.value found.hops found.parent inv.0 told))),
      c.finding.ensures.kept sources inv.1,
      λ can. inv.2 (c.is_due.ensures.kind.0 can),
    )

pub into_labels_and_tree-requires : goal.into_labels_and_tree-requires
into_labels_and_tree-requires g c =
    let A = g.A.PathAlgebra.meaning c.args.algebra in
    let G = c.args.self.now.roads in
    let sources = c.args.sources.now in
    let f = c.loop-i.findings in
    let same = ap (λ (r : GraphData). r.vertices) c.requires.by_head in
    let all : c.loop-i.i ≡ G.vertices = omega (arith, same, c.vertices-i-end.ensures.count, c.loop-i-test.false, c.loop-i.auto.i-end) in
    let known = subst (λ (n : ℕ). AreTold A G sources n f.values.items f.hops.items f.parents.items) all c.loop-i.invariant.0 in
    let t : Branches = record { hops = f.hops.items; parents = f.parents.items } in
    tree_linked A G sources c.holds.ensures.roads t (told_tree A G sources f.values.items f.hops.items f.parents.items known)

pub returns-clause-labels : goal.returns-clause-labels
returns-clause-labels g c =
    let A = g.A.PathAlgebra.meaning c.args.algebra in
    let G = c.args.self.now.roads in
    let sources = c.args.sources.now in
    let f = c.loop-i.findings in
    let same = ap (λ (r : GraphData). r.vertices) c.requires.by_head in
    let all : c.loop-i.i ≡ G.vertices = omega (arith, same, c.vertices-i-end.ensures.count, c.loop-i-test.false, c.loop-i.auto.i-end) in
    let known = subst (λ (n : ℕ). AreTold A G sources n f.values.items f.hops.items f.parents.items) all c.loop-i.invariant.0 in
    rw c.into_labels_and_tree.ensures.labels (told_best A G sources f.values.items f.hops.items f.parents.items known)

pub returns-clause-tree : goal.returns-clause-tree
returns-clause-tree g c =
    let A = g.A.PathAlgebra.meaning c.args.algebra in
    let G = c.args.self.now.roads in
    let sources = c.args.sources.now in
    let f = c.loop-i.findings in
    let same = ap (λ (r : GraphData). r.vertices) c.requires.by_head in
    let all : c.loop-i.i ≡ G.vertices = omega (arith, same, c.vertices-i-end.ensures.count, c.loop-i-test.false, c.loop-i.auto.i-end) in
    let known = subst (λ (n : ℕ). AreTold A G sources n f.values.items f.hops.items f.parents.items) all c.loop-i.invariant.0 in
    rw c.into_labels_and_tree.ensures.tree (told_tree A G sources f.values.items f.hops.items f.parents.items known)
