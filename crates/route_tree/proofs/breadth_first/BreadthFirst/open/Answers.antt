use Rattle.std.proofs.Common.{ℕ, ◌≤◌, sym, subst, ◌∙◌}
use Rattle.route_tree.proofs.Marking.{marked_once}
use Rattle.route_tree.proofs.breadth_first.BreadthFirst.open.Goals as goal

pub loop-s-preserved : goal.loop-s-preserved
loop-s-preserved g c =
    let n = c.args.graph.now.vertices in
    let inside = c.requires.sources c.loop-s.s-index c.s-item.result c.loop-s-test.true in
    let marked = marked_once n c.args.sources.now c.loop-s.s-index c.s-item.result c.loop-s.search.hops c.loop-s.search.next _ _ c.loop-s-test.true c.s-item.is
    (subst (λ (v : ℕ). 1 ≤ v) (sym c.s-item.is) inside.0) (subst (λ (v : ℕ). v ≤ n) (sym c.s-item.is) inside.1)
    c.in_ok-mark.ensures.hops c.in_ok-mark.ensures.next c.loop-s.invariant.marked in
    record {
      over = c.in_ok-mark.ensures.same.over ∙ c.loop-s.invariant.over;
      region = c.in_ok-mark.ensures.same.region ∙ c.loop-s.invariant.region;
      level = c.in_ok-mark.ensures.same.level ∙ c.loop-s.invariant.level;
      marked = marked;
      parents = c.in_ok-mark.ensures.parents ∙ c.loop-s.invariant.parents;
    }
