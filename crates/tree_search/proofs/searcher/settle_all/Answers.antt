use Rattle.tree_search.proofs.Words.{◌≡◌, ◌∙◌, sym, true, false, is_end}
use Rattle.tree_search.proofs.Steps.{by_equal, next_round, comes_nearer}
use Rattle.tree_search.proofs.Listing.{AreListed, started, listed_next, all_found}
use Rattle.tree_search.proofs.searcher.settle_all.Goals as goal

pub loop-step-init : goal.loop-step-init
loop-step-init g c =
    let A = g.A.PathAlgebra.meaning c.args.algebra in
    let start = started A c.laws_hold.ensures.lawful c.args.graph.now c.holds.ensures c.args.sources.now c.requires.sources c.args.search.now c.start.new.self
    c.requires.graph c.requires.blank c.in_ok-start.ensures.same (rw c.requires.algebra at c.in_ok-start.ensures.opening) in
    record {
      algebra = c.in_ok-start.ensures.same.algebra ∙ c.requires.algebra;
      graph = c.in_ok-start.ensures.same.roads ∙ c.requires.graph;
      between = start.0;
      listed = rw c.requires.empty start.1;
      halt = λ can. can;
    }

pub loop-step-preserved : goal.loop-step-preserved
loop-step-preserved g c =
    let A = g.A.PathAlgebra.meaning c.args.algebra in
    let was = c.loop-step.invariant in
    let step = by_equal g.A.PathAlgebra.meaning was.algebra c.in_ok-step.ensures in
    let more : is_end c.in_ok-step.step ≡ false = sym c.is_end.ensures ∙ c.if-is_end.false in
    record {
      algebra = step.algebra ∙ was.algebra;
      graph = step.roads ∙ was.graph;
      between = next_round A c.laws_hold.ensures.lawful g.A.PathAlgebra.order c.laws_hold.ensures.order c.args.graph.now c.holds.ensures c.args.sources.now c.requires.sources
          c.loop-step.search c.settle_next.new.self was.graph was.between c.in_ok-step.step more step;
      listed = rw c.in_ok-note.ensures
          (listed_next A c.laws_hold.ensures.lawful c.args.graph.now c.holds.ensures c.args.sources.now c.requires.sources g.A.PathAlgebra.order c.laws_hold.ensures.order
          c.loop-step.search c.settle_next.new.self was.graph was.between c.loop-step.reached.items was.listed c.in_ok-step.step more step);
      halt = λ can. was.halt (c.is_due.ensures.kind.0 can);
    }

pub loop-step-smaller : goal.loop-step-smaller
loop-step-smaller g c =
    let A = g.A.PathAlgebra.meaning c.args.algebra in
    let was = c.loop-step.invariant in
    let step = by_equal g.A.PathAlgebra.meaning was.algebra c.in_ok-step.ensures in
    let more : is_end c.in_ok-step.step ≡ false = sym c.is_end.ensures ∙ c.if-is_end.false in
    comes_nearer A c.laws_hold.ensures.lawful g.A.PathAlgebra.order c.laws_hold.ensures.order c.args.graph.now c.holds.ensures c.args.sources.now c.requires.sources
    c.loop-step.search c.settle_next.new.self was.graph was.between c.in_ok-step.step more step

pub returns-then-is_end : goal.returns-then-is_end
returns-then-is_end g c =
    let A = g.A.PathAlgebra.meaning c.args.algebra in
    let was = c.loop-step.invariant in
    let step = by_equal g.A.PathAlgebra.meaning was.algebra c.in_ok-step.ensures in
    let end : is_end c.in_ok-step.step ≡ true = sym c.is_end.ensures ∙ c.if-is_end.true in
    let all = all_found A c.laws_hold.ensures.lawful c.args.graph.now c.holds.ensures c.args.sources.now c.requires.sources g.A.PathAlgebra.order c.laws_hold.ensures.order
    c.loop-step.search c.settle_next.new.self was.graph was.between c.loop-step.reached.items was.listed c.in_ok-step.step end step in
    record {
      roads = step.roads ∙ was.graph;
      reached = λ _. all.0;
      labels = λ _. all.1;
      tree = λ _. all.2;
      noted = λ _. all.3;
      settled = λ no. let bad : true ≡ false = no in cc;
      halts = λ no. let bad : true ≡ false = no in cc;
    }

pub returns-then-is_due-clause-settled : goal.returns-then-is_due-clause-settled
returns-then-is_due-clause-settled g c = λ _.
    let A = g.A.PathAlgebra.meaning c.args.algebra in
    let was = c.loop-step.invariant in
    let step = by_equal g.A.PathAlgebra.meaning was.algebra c.in_ok-step.ensures in
    let more : is_end c.in_ok-step.step ≡ false = sym c.is_end.ensures ∙ c.if-is_end.false in
    let listed : AreListed A.no_worse c.args.graph.now c.settle_next.new.self.marks c.settle_next.new.self.settled c.note.new.reached.items = rw c.in_ok-note.ensures
    (listed_next A c.laws_hold.ensures.lawful c.args.graph.now c.holds.ensures c.args.sources.now c.requires.sources g.A.PathAlgebra.order c.laws_hold.ensures.order
    c.loop-step.search c.settle_next.new.self was.graph was.between c.loop-step.reached.items was.listed c.in_ok-step.step more step) in
    record { inside = λ v on. (listed.inside v on).0; all = listed.all }
