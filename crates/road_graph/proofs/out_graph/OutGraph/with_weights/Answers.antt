use Rattle.road_graph.proofs.Words.{◌≡◌, ◌-◌, ◌<◌, ◌∙◌, ◌++◌, List, length, drop, take, take-append_seam, take_all, arc_of, get_or, ap, sym, subst, arith, RoadArc, GraphData, HasVertex, IsGraph, AreRoadRows}
use Rattle.std.specs.Prelude.{IsTrue, All}
use Rattle.std.proofs.lemmas.List.{take_more}
use Rattle.std.proofs.lemmas.List.Elements.{All-push}
use Rattle.road_graph.specs.Changing.{HasEnds}
use Rattle.road_graph.proofs.Changing.{graph_then, missing, past_inside, present, rows_then, unchanged}
use Rattle.road_graph.proofs.out_graph.OutGraph.with_weights.Goals as goal

pub loop-k-init : goal.loop-k-init
loop-k-init c =
    let S = c.args.self.now in
    let starts = c.in_ok-starts.ensures.items_if_clones_equal (λ x y is. is) ∙ c.deref.ensures.value in
    let roads = c.in_ok-roads.ensures.items_if_clones_equal (λ x y is. is) ∙ c.deref-2.ensures.value in
    record {
      graph = subst (λ (g : GraphData). IsGraph g) (sym (unchanged S)) c.holds.ensures;
      rows = subst (λ (g : GraphData). AreRoadRows S.vertices g.arcs c.in_ok-starts.starts.items c.in_ok-roads.roads.items) (sym (unchanged S))
          (rw (starts, roads) (subst (λ (g : GraphData). AreRoadRows g.vertices g.arcs c.self.inside.starts.items c.self.inside.roads.items) c.self.view_is c.self.invariant.1));
      known = λ k d lt. absurd (omega (arith, lt));
    }

pub returns-then-not-has-clause-unknown : goal.returns-then-not-has-clause-unknown
returns-then-not-has-clause-unknown c = λ _ have.
    let S = c.args.self.now in
    let lt : c.loop-k.k < length c.args.changes.now.items = omega (arith, c.loop-k-test.true, c.len-k-end.ensures) in
    let has = have c.loop-k.k c.index-change.result.now lt in
    let ends : HasVertex S (arc_of S has.0).tail = (c.holds.ensures.ends has.0 has.1).0 in
    let yes : IsTrue c.has.result = c.has.ensures.1 (subst (λ t. HasVertex S t) (has.2 ∙ ap (λ (a : RoadArc). a.tail) (sym c.index-change.ensures)) ends) in
    let no = c.if-not-has.true in
    absurd (cc)

pub set_weights-requires : goal.set_weights-requires
set_weights-requires c =
    let lt : c.loop-k.k < length c.args.changes.now.items = omega (arith, c.loop-k-test.true, c.len-k-end.ensures) in
    let starts = c.in_ok-starts.starts.items in
    let start : c.range_of-start.result.0 ≡ get_or starts (c.index-change.result.now.tail - 1) 0 = rw (← c.deref-in-loop-k.ensures.value) c.range_of-start.ensures.start in
    let past : c.range_of-start.result.1 ≡ get_or starts c.index-change.result.now.tail 0 = rw (← c.deref-in-loop-k.ensures.value) c.range_of-start.ensures.end in
    rw c.deref_mut.ensures.value (past_inside c.args.self.now c.args.changes.now.items c.loop-k.k lt c.index-change.result.now c.index-change.ensures starts c.loop-k.roads.items
    c.loop-k.invariant.graph c.loop-k.invariant.rows (c.has.ensures.0 c.if-not-has.false) c.range_of-start.result.0 c.range_of-start.result.1 start past)

pub returns-then-not-set_weights-clause-unknown : goal.returns-then-not-set_weights-clause-unknown
returns-then-not-set_weights-clause-unknown c = λ _ have.
    let lt : c.loop-k.k < length c.args.changes.now.items = omega (arith, c.loop-k-test.true, c.len-k-end.ensures) in
    let starts = c.in_ok-starts.starts.items in
    let start : c.range_of-start.result.0 ≡ get_or starts (c.index-change.result.now.tail - 1) 0 = rw (← c.deref-in-loop-k.ensures.value) c.range_of-start.ensures.start in
    let past : c.range_of-start.result.1 ≡ get_or starts c.index-change.result.now.tail 0 = rw (← c.deref-in-loop-k.ensures.value) c.range_of-start.ensures.end in
    let has = have c.loop-k.k c.index-change.result.now lt in
    missing c.args.self.now c.args.changes.now.items c.loop-k.k lt c.index-change.result.now c.index-change.ensures starts c.loop-k.roads.items
    c.loop-k.invariant.graph c.loop-k.invariant.rows (c.has.ensures.0 c.if-not-has.false) c.range_of-start.result.0 c.range_of-start.result.1 start past
    (rw c.deref_mut.ensures.value at (c.set_weights.ensures.missed c.if-not-set_weights.true))
    (subst (λ (a : RoadArc). HasEnds c.args.self.now a) (sym c.index-change.ensures) has)

pub loop-k-preserved : goal.loop-k-preserved
loop-k-preserved c =
    let lt : c.loop-k.k < length c.args.changes.now.items = omega (arith, c.loop-k-test.true, c.len-k-end.ensures) in
    let starts = c.in_ok-starts.starts.items in
    let start : c.range_of-start.result.0 ≡ get_or starts (c.index-change.result.now.tail - 1) 0 = rw (← c.deref-in-loop-k.ensures.value) c.range_of-start.ensures.start in
    let past : c.range_of-start.result.1 ≡ get_or starts c.index-change.result.now.tail 0 = rw (← c.deref-in-loop-k.ensures.value) c.range_of-start.ensures.end in
    let xs = c.args.changes.now.items in
    let old : c.deref_mut.result.now ≡ c.loop-k.roads.items = c.deref_mut.ensures.value in
    let more = c.set_weights.new.roads in
    let count : length more ≡ length c.loop-k.roads.items = rw old at c.set_weights.ensures.count in
    let all : take c.loop-k.roads.len (more ++ drop (length more) c.loop-k.roads.items) ≡ more =
    ap (λ x. take x (more ++ drop (length more) c.loop-k.roads.items)) (c.loop-k.roads.ok.0 ∙ sym count) ∙ take-append_seam more (drop (length more) c.loop-k.roads.items) in
    let here = present c.args.self.now c.args.changes.now.items c.loop-k.k lt c.index-change.result.now c.index-change.ensures starts c.loop-k.roads.items
    c.loop-k.invariant.graph c.loop-k.invariant.rows (c.has.ensures.0 c.if-not-has.false) c.range_of-start.result.0 c.range_of-start.result.1 start past
    (rw old at (c.set_weights.ensures.found c.if-not-set_weights.false)) in
    record {
      graph = graph_then c.args.self.now c.args.changes.now.items c.loop-k.k lt c.index-change.result.now c.index-change.ensures starts c.loop-k.roads.items
          c.loop-k.invariant.graph c.loop-k.invariant.rows (c.has.ensures.0 c.if-not-has.false) c.range_of-start.result.0 c.range_of-start.result.1 start past c.set_weights.ensures.fits;
      rows = rw all (rows_then c.args.self.now c.args.changes.now.items c.loop-k.k lt c.index-change.result.now c.index-change.ensures starts c.loop-k.roads.items
          c.loop-k.invariant.graph c.loop-k.invariant.rows (c.has.ensures.0 c.if-not-has.false) c.range_of-start.result.0 c.range_of-start.result.1 start past
          more count (rw old at c.set_weights.ensures.there) (rw old at c.set_weights.ensures.elsewhere));
      known = rw (take_more xs c.loop-k.k c.index-change.result.now lt)
          (All-push (HasEnds c.args.self.now) (take c.loop-k.k xs) (get_or xs c.loop-k.k c.index-change.result.now) c.loop-k.invariant.known
          (subst (λ (a : RoadArc). HasEnds c.args.self.now a) c.index-change.ensures here));
    }

pub returns-clause-known : goal.returns-clause-known
returns-clause-known c =
    let all : take c.loop-k.k c.args.changes.now.items ≡ c.args.changes.now.items = take_all c.loop-k.k c.args.changes.now.items (omega (arith, c.loop-k-test.false, c.len-k-end.ensures)) in
    subst (λ (xs : List RoadArc). All (HasEnds c.args.self.now) xs) all c.loop-k.invariant.known
