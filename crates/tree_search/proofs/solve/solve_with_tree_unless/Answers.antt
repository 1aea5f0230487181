use Rattle.tree_search.proofs.Words.{◌≡◌, ◌∙◌, sym, None, Some, false, is_end}
use Rattle.tree_search.proofs.Listing.{started}
use Rattle.tree_search.proofs.Steps.{by_equal, next_round, last_round, comes_nearer}
use Rattle.tree_search.proofs.solve.solve_with_tree_unless.Goals as goal

pub loop-search-init : goal.loop-search-init
loop-search-init g c =
    let A = g.A.PathAlgebra.meaning c.args.algebra in
    let start = started A c.laws_hold.ensures.lawful c.args.graph.now c.holds.ensures c.args.sources.now c.requires c.in_ok-search.search c.start.new.self
    c.in_ok-search.ensures.graph c.in_ok-search.ensures.blank c.in_ok-start.ensures.same (rw c.in_ok-search.ensures.algebra at c.in_ok-start.ensures.opening) in
    record {
      algebra = c.in_ok-start.ensures.same.algebra ∙ c.in_ok-search.ensures.algebra;
      graph = c.in_ok-start.ensures.same.roads ∙ c.in_ok-search.ensures.graph;
      between = start.0;
      halt = λ can. can;
    }

pub loop-search-preserved : goal.loop-search-preserved
loop-search-preserved g c =
    let A = g.A.PathAlgebra.meaning c.args.algebra in
    let was = c.loop-search.invariant in
    let step = by_equal g.A.PathAlgebra.meaning was.algebra c.in_ok-step.ensures in
    let more : is_end c.in_ok-step.step ≡ false = sym c.is_end.ensures ∙ c.if-is_end.false in
    record {
      algebra = step.algebra ∙ was.algebra;
      graph = step.roads ∙ was.graph;
      between = next_round A c.laws_hold.ensures.lawful g.A.PathAlgebra.order c.laws_hold.ensures.order c.args.graph.now c.holds.ensures c.args.sources.now c.requires
          c.loop-search.search c.settle_next.new.self was.graph was.between c.in_ok-step.step more step;
      halt = λ can. was.halt (c.is_due.ensures.kind.0 can);
    }

pub loop-search-smaller : goal.loop-search-smaller
loop-search-smaller g c =
    let A = g.A.PathAlgebra.meaning c.args.algebra in
    let was = c.loop-search.invariant in
    let step = by_equal g.A.PathAlgebra.meaning was.algebra c.in_ok-step.ensures in
    let more : is_end c.in_ok-step.step ≡ false = sym c.is_end.ensures ∙ c.if-is_end.false in
    comes_nearer A c.laws_hold.ensures.lawful g.A.PathAlgebra.order c.laws_hold.ensures.order c.args.graph.now c.holds.ensures c.args.sources.now c.requires
    c.loop-search.search c.settle_next.new.self was.graph was.between c.in_ok-step.step more step

pub into_labels_and_tree-requires-after_bounds : goal.into_labels_and_tree-requires-after_bounds
into_labels_and_tree-requires-after_bounds g c κs within =
    let A = g.A.PathAlgebra.meaning c.args.algebra in
    let was = c.loop-search.invariant in
    let step = by_equal g.A.PathAlgebra.meaning was.algebra c.in_ok-step.ensures in
    (last_round A c.laws_hold.ensures.lawful g.A.PathAlgebra.order c.laws_hold.ensures.order c.args.graph.now c.holds.ensures c.args.sources.now c.requires
    c.loop-search.search c.settle_next.new.self was.graph was.between c.in_ok-step.step (sym c.is_end.ensures ∙ c.if-is_end.true) step).2

pub returns-then-is_end : goal.returns-then-is_end
returns-then-is_end g c =
    let A = g.A.PathAlgebra.meaning c.args.algebra in
    let was = c.loop-search.invariant in
    let step = by_equal g.A.PathAlgebra.meaning was.algebra c.in_ok-step.ensures in
    let last = last_round A c.laws_hold.ensures.lawful g.A.PathAlgebra.order c.laws_hold.ensures.order c.args.graph.now c.holds.ensures c.args.sources.now c.requires
    c.loop-search.search c.settle_next.new.self was.graph was.between c.in_ok-step.step (sym c.is_end.ensures ∙ c.if-is_end.true) step in
    record {
      labels = rw c.into_labels_and_tree.ensures.labels last.0;
      tree = rw c.into_labels_and_tree.ensures.tree last.1;
      halts = λ no. let bad : Some c.into_labels_and_tree.result ≡ None = no in cc;
    }
