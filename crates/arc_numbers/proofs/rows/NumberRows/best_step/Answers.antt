use Rattle.arc_numbers.proofs.Words.{◌≡◌, ◌<◌, ◌≤◌, ◌∙◌, ℕ, List, Option, Some, None, length, subst, sym, ap, get_or, arith, get_or_read, GraphData, HasVertex, ListsRoadsFrom, IsBestRoad, IsBestRoadOrNone, IsReordered}
use Rattle.arc_numbers.proofs.BestSteps.{as_long, best_step, no_step}
use Rattle.arc_numbers.proofs.rows.NumberRows.best_step.Goals as goal

pub row-row-requires : goal.row-row-requires
row-row-requires g c =
    let n = c.holds.ensures.vertices in
    let same = ap (λ (h : GraphData). h.vertices) c.requires.graph in
    (c.requires.tail.0, omega (arith, c.requires.tail.1, n, same))

pub bounds-row-found : goal.bounds-row-found
bounds-row-found g c =
    let a = c.args in let A = g.A.PathAlgebra.meaning a.algebra in
    let same = subst (λ (r : GraphData). IsReordered r a.self.now.numbered) (sym c.requires.graph) c.holds.ensures in
    let long = as_long A a.graph.now a.self.now.numbered a.value a.ends.0 a.ends.1 same c.requires.tail c.roads_from.result.now c.row-row.result.now c.roads_from.ensures c.row-row.ensures in
    let found = c.in-Some.ensures in
    omega (arith, long, found.below)

pub returns-in_default : goal.returns-in_default
returns-in_default g c =
    let a = c.args in let A = g.A.PathAlgebra.meaning a.algebra in
    let same = subst (λ (r : GraphData). IsReordered r a.self.now.numbered) (sym c.requires.graph) c.holds.ensures in
    no_step A a.graph.now a.self.now.numbered a.value a.ends.0 a.ends.1 same c.requires.tail c.roads_from.result.now c.row-row.result.now c.roads_from.ensures c.row-row.ensures c.in_default.ensures

pub returns : goal.returns
returns g c =
    let a = c.args in let A = g.A.PathAlgebra.meaning a.algebra in
    let same = subst (λ (r : GraphData). IsReordered r a.self.now.numbered) (sym c.requires.graph) c.holds.ensures in
    let found = c.in-Some.ensures in
    let long = as_long A a.graph.now a.self.now.numbered a.value a.ends.0 a.ends.1 same c.requires.tail c.roads_from.result.now c.row-row.result.now c.roads_from.ensures c.row-row.ensures in
    let at = get_or_read c.row-row.result.now c.in-Some.found.0 c.index-row-found.result (omega (arith, long, found.below)) c.index-row-found.is 0 in
    best_step A a.graph.now a.self.now.numbered a.value a.ends.0 a.ends.1 same c.requires.tail c.roads_from.result.now c.row-row.result.now c.roads_from.ensures c.row-row.ensures
    c.in-Some.found.0 _ found c.index-row-found.result (sym at)
