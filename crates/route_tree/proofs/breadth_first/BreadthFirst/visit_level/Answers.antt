use Rattle.route_tree.proofs.Words.{◌≡◌, ◌+◌, [], ℕ, List, sym, subst, Visiting, is_tight_into}
use Rattle.route_tree.specs.BreadthFirst.{SearchState, passes}
use Rattle.route_tree.proofs.OneVertex.{visit_level}
use Rattle.route_tree.proofs.breadth_first.BreadthFirst.visit_level.Goals as goal

pub returns-clause-visits : goal.returns-clause-visits
returns-clause-visits g c =
    let roads = c.self.inside.graph.now in
    let test = is_tight_into (g.A.PathAlgebra.meaning c.self.inside.algebra) roads c.self.inside.labels.now c.self.inside.region.now in
    let k = c.self.inside.level in
    let hops = c.self.inside.hops.items in
    let parents = c.self.inside.parents.items in
    let level : c.deref.result.now ≡ c.self.inside.next.items = rw (c.replace-level.ensures.value) at c.deref.ensures.value in
    let empty : c.replace-level.new.dest.items ≡ [] = rw c.replace-level.ensures.after c.new.ensures.items in
    let new = c.visit_all.new.self in
    subst (λ (s : SearchState g.row.A.Denot g.row.A-Value.Denot). (sources : List ℕ) →
    Visiting s.over.roads (passes (g.A.PathAlgebra.meaning s.over.algebra) s) sources s.level s.hops s.parents s.next [] [] →
    Visiting s.over.roads (passes (g.A.PathAlgebra.meaning s.over.algebra) s) sources
    (c.self-2.inside.level + 1) c.self-2.inside.hops.items c.self-2.inside.parents.items c.self-2.inside.next.items [] []) c.self.view_is
    (λ sources known. subst (λ (s : SearchState g.row.A.Denot g.row.A-Value.Denot). Visiting roads test sources (s.level + 1) s.hops s.parents s.next [] []) (sym c.self-2.view_is)
    (rw c.in_ok-visit_all.ensures.same.level (visit_level roads test sources k new.hops new.parents new.next (c.in_ok-visit_all.ensures.visits sources
    (subst (λ (list : List ℕ). Visiting roads test sources k hops parents list [] c.replace-level.new.dest.items) (sym level)
    (subst (λ (next : List ℕ). Visiting roads test sources k hops parents c.self.inside.next.items [] next) (sym empty) known))))))
