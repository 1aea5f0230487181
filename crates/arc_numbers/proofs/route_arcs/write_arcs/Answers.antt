use Rattle.arc_numbers.proofs.Words.{◌≡◌, ◌<◌, ◌≤◌, ◌∙◌, ◌+◌, ◌-◌, ℕ, List, Option, Some, None, length, subst, sym, ap, get_or, set, arith, get_or_read, GraphData, IsReordered, IsBestStep}
use Rattle.arc_numbers.proofs.Following.{Follows, arrive, follow, some_step, start, tail_in}
use Rattle.arc_numbers.proofs.route_arcs.write_arcs.Goals as goal

pub loop-i-init : goal.loop-i-init
loop-i-init g c =
    let a = c.args in let A = g.A.PathAlgebra.meaning a.algebra in
    let same = subst (λ (r : GraphData). IsReordered r a.numbers.now.numbered) (sym c.requires.graph) c.holds-2.ensures in
    start A a.graph.now a.numbers.now.numbered a.source a.rest.now c.laws_hold.ensures.lawful c.holds.ensures same c.origin-value.result a.arcs.now c.origin-value.ensures c.requires.room

pub best_step-requires-clause-tail : goal.best_step-requires-clause-tail
best_step-requires-clause-tail g c κs within =
    let a = c.args in let A = g.A.PathAlgebra.meaning a.algebra in
    let same = subst (λ (r : GraphData). IsReordered r a.numbers.now.numbered) (sym c.requires.graph) c.holds-2.ensures in
    tail_in A a.graph.now a.numbers.now.numbered a.source a.rest.now c.laws_hold.ensures.lawful c.holds.ensures same
    c.requires.route.0 c.requires.route.1 c.loop-i.i c.loop-i.at c.loop-i.value c.loop-i.arcs c.loop-i.invariant c.loop-i-test.true

pub returns-in_default : goal.returns-in_default
returns-in_default g c =
    let a = c.args in let A = g.A.PathAlgebra.meaning a.algebra in
    let same = subst (λ (r : GraphData). IsReordered r a.numbers.now.numbered) (sym c.requires.graph) c.holds-2.ensures in
    absurd (some_step A a.graph.now a.numbers.now.numbered a.source a.rest.now c.laws_hold.ensures.lawful c.holds.ensures same
    c.requires.route.0 c.requires.route.1 c.loop-i.i c.loop-i.at c.loop-i.value c.loop-i.arcs c.loop-i.invariant c.loop-i-test.true c.in_default.ensures)

pub loop-i-preserved : goal.loop-i-preserved
loop-i-preserved g c =
    let a = c.args in let A = g.A.PathAlgebra.meaning a.algebra in
    let same = subst (λ (r : GraphData). IsReordered r a.numbers.now.numbered) (sym c.requires.graph) c.holds-2.ensures in
    let step = subst (λ (s : ℕ × g.row.A-Value.Denot). IsBestStep A a.numbers.now.numbered c.loop-i.value c.loop-i.at (get_or a.rest.now c.loop-i.i 0) s.0 s.1) (sym c.step.view_is) c.in-Some.ensures in
    follow A a.graph.now a.numbers.now.numbered a.source a.rest.now c.laws_hold.ensures.lawful c.holds.ensures same
    c.requires.route.0 c.requires.route.1 c.loop-i.i c.loop-i.at c.loop-i.value c.loop-i.arcs c.loop-i.invariant c.loop-i-test.true _ _ step

pub returns : goal.returns
returns g c =
    let a = c.args in let A = g.A.PathAlgebra.meaning a.algebra in
    let same = subst (λ (r : GraphData). IsReordered r a.numbers.now.numbered) (sym c.requires.graph) c.holds-2.ensures in
    λ t code chain best. arrive A a.graph.now a.numbers.now.numbered a.source a.rest.now c.laws_hold.ensures.lawful c.holds.ensures same
    t chain c.loop-i.i c.loop-i.at c.loop-i.value c.loop-i.arcs c.loop-i.invariant code c.loop-i-test.false best
