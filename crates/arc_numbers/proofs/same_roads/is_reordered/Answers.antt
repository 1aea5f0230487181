use Rattle.std.proofs.Common.{rules, ◌≡◌, ◌≤◌, ◌<◌, ◌+◌, ◌∙◌, ℕ, List, inl, inr, sym, subst, arith, true, false, refl}
use Rattle.arc_numbers.proofs.Words.{IsTrue, eq-or-lt_of_le, OutRoad, ListsRoadsFrom, HasSameRoads, IsReordered}
use Rattle.arc_numbers.proofs.Reordered.{one_list}
use Rattle.arc_numbers.proofs.same_roads.is_reordered.Goals as goal

pub loop-i-preserved : goal.loop-i-preserved
loop-i-preserved c = λ v low high. elim (eq-or-lt_of_le high) [
  | inr before ↦ c.loop-i.invariant v low (omega (arith, before))
  | inl here ↦
      let g = c.args.graph.now in let h = c.args.other.now in let out = c.roads_from.result.now in
      let same = c.are_same.ensures.0 (c.if-not-are_same.false) in
      let there : ListsRoadsFrom h (c.loop-i.i + 1) out = subst (λ (r : List OutRoad). ListsRoadsFrom h (c.loop-i.i + 1) r) (sym same) c.roads_from-in-loop-i.ensures in
      subst (λ (u : ℕ). HasSameRoads g h u) (sym here) (out, c.roads_from.ensures, there)
]

pub returns-then-not-are_same-clause-same : goal.returns-then-not-are_same-clause-same
returns-then-not-are_same-clause-same c = (
  λ h. cc,
  λ is.
      let g = c.args.graph.now in let h = c.args.other.now in let v = c.loop-i.i + 1 in
      let (out, from, to) = is.roads v (omega arith, omega (arith, c.loop-i-test.true, c.vertices-i-end.ensures.count)) in
      let first = one_list g v c.roads_from.result.now out c.roads_from.ensures from in
      let second = one_list h v c.roads_from-in-loop-i.result.now out c.roads_from-in-loop-i.ensures to in
      let same : c.are_same.result ≡ true = c.are_same.ensures.1 (first ∙ sym second) in
      let not : c.are_same.result ≡ false = c.if-not-are_same.true in cc,
)

pub returns-clause-same : goal.returns-clause-same
returns-clause-same c = (
  λ h. record {
    graph = c.holds.ensures;
    vertices = c.requires;
    roads = λ v has. c.loop-i.invariant v has.0 (omega (arith, has.1, c.loop-i-test.false, c.vertices-i-end.ensures.count));
  },
  λ is. refl,
)
