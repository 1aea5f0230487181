use Rattle.route_tree.proofs.Words.{◌≡◌, ◌∷◌, [], ◌∙◌, ap, sym, subst, length, arith, All-nil, All-cons, HasVertex, all_inside, AreFound}
use Rattle.path_algebra.specs.Walks.{IsBest, IsBestLabel, is_tight}
use Rattle.route_tree.proofs.Blank.{same_region, marks_blank, hops_blank, parents_blank}
use Rattle.route_tree.proofs.UpTo.{pair_found_up_to}
use Rattle.route_tree.proofs.route_finder.RouteFinder.find.Goals as goal

pub put_back-requires : goal.put_back-requires
put_back-requires g c =
    let G = c.args.graph.now in
    let marks = c.in_ok-marks.marks.items in
    let found : AreFound G marks c.in_ok-marks.found.items = rw c.requires.by_head at c.in_ok-marks.ensures.found in
    let count : length marks ≡ G.vertices = rw c.requires.by_head at c.in_ok-marks.ensures.count in
    let test = is_tight (g.A.PathAlgebra.meaning c.args.algebra) G c.args.labels.now in
    let same : c.into_marks.result.items ≡ marks = same_region (sym c.into_marks.ensures ∙ c.marked-region.ensures) in
    let hops = rw (c.marked-region.ensures) at c.in_ok-tree.ensures.hops in
    let parents = rw (c.marked-region.ensures) at c.in_ok-tree.ensures.parents in
    record {
      count = c.in_ok-tree.ensures.hops.count ∙ sym count ∙ ap length (sym same);
      marks = rw (c.as_slice.ensures.value, same) (marks_blank G c.holds.ensures test c.args.ends.0 marks c.in_ok-marks.found.items found count c.in_ok-marks.ensures.source);
      hops = rw c.as_slice.ensures.value (hops_blank G c.holds.ensures test c.args.ends.0 marks c.in_ok-marks.found.items found count c.in_ok-marks.ensures.source
          c.in_ok-tree.tree.hops c.in_ok-tree.tree.parents hops parents);
      parents = rw c.as_slice.ensures.value (parents_blank G c.holds.ensures test c.args.ends.0 marks c.in_ok-marks.found.items found count c.in_ok-marks.ensures.source
          c.in_ok-tree.tree.hops c.in_ok-tree.tree.parents hops parents);
    }

pub invariant_of-self : goal.invariant_of-self
invariant_of-self g c =
    let G = c.args.graph.now in
    let marks = c.in_ok-marks.marks.items in
    let count : length marks ≡ G.vertices = rw c.requires.by_head at c.in_ok-marks.ensures.count in
    let same : c.into_marks.result.items ≡ marks = same_region (sym c.into_marks.ensures ∙ c.marked-region.ensures) in
    let long = ap length same in
    omega (arith, c.put_back.ensures, long, count, c.requires.count, c.take_lists.ensures.same, c.self-2.view_is)

pub returns-in_default-clause-found : goal.returns-in_default-clause-found
returns-in_default-clause-found g c =
    subst (IsBestLabel (g.A.PathAlgebra.meaning c.args.algebra) c.args.graph.now (c.args.ends.0 ∷ []) c.args.ends.1) (sym c.of.ensures ∙ c.in_default.is) c.requires.labels.at_target

pub returns-clause-found : goal.returns-clause-found
returns-clause-found g c =
    let A = g.A.PathAlgebra.meaning c.args.algebra in
    let G = c.args.graph.now in
    let sources = c.args.ends.0 ∷ [] in
    let inside = All-cons (HasVertex G) c.args.ends.0 [] c.requires.source (All-nil (HasVertex G)) in
    let whole = c.best_values_exist.ensures G c.holds.ensures sources inside in
    let best : IsBest A G sources c.args.ends.1 c.in-Some.value =
    subst (IsBestLabel A G sources c.args.ends.1) (sym c.of.ensures ∙ c.in-Some.is) c.requires.labels.at_target in
    pair_found_up_to A c.laws_hold.ensures.lawful G c.holds.ensures c.args.ends.0 c.args.ends.1 inside (all_inside G sources inside) c.requires.target
    whole.0 whole.1 c.args.labels.now c.requires.labels c.in_ok-marks.marks.items (rw c.requires.by_head at c.in_ok-marks.ensures.covers)
    (rw c.requires.by_head at c.in_ok-marks.ensures.lead)
    c.in_ok-tree.tree.hops c.in_ok-tree.tree.parents (rw (c.marked-region.ensures) at c.in_ok-tree.ensures.hops) (rw (c.marked-region.ensures) at c.in_ok-tree.ensures.parents)
    c.code.result (c.in-Some.value, best, c.code.ensures) c.in_ok-pair.pair c.in_ok-pair.ensures
