use Rattle.route_tree.proofs.Words.{◌≡◌, [], ℕ, List, sym, subst, is_tight, VisitingBack}
use Rattle.std.specs.Prelude.{OnOk}
use Rattle.std.proofs.lemmas.Result.{on_ok_weaker}
use Rattle.route_tree.specs.Backward.{BackwardState, VisitsLevelBack}
use Rattle.route_tree.proofs.VisitingBack.{back_level}
use Rattle.route_tree.proofs.backward.Backward.visit_level.Goals as goal

pub returns-clause-visits : goal.returns-clause-visits
returns-clause-visits g c =
    let roads = c.self.inside.by_head.now in
    let test = is_tight (g.A.PathAlgebra.meaning c.self.inside.algebra) roads c.self.inside.labels.now in
    let marks = c.self.inside.marks.items in
    let level : c.deref.result.now ≡ c.self.inside.next.items = rw (c.replace-level.ensures.value) at c.deref.ensures.value in
    let empty : c.replace-level.new.dest.items ≡ [] = rw c.replace-level.ensures.after c.new.ensures.items in
    let new = c.visit_all.new.self in
    subst (λ (s : BackwardState g.row.A.Denot g.row.A-Value.Denot). OnOk c.visit_all.result (VisitsLevelBack (g.A.PathAlgebra.meaning s.over.algebra) s new)) c.self.view_is
    (on_ok_weaker c.visit_all.result
    (λ visits target k known. back_level roads test target k new.marks new.next (visits target k
    (subst (λ (list : List ℕ). VisitingBack roads test target k marks list [] c.replace-level.new.dest.items) (sym level)
    (subst (λ (next : List ℕ). VisitingBack roads test target k marks c.self.inside.next.items [] next) (sym empty) known))))
    c.visit_all.ensures.visits)
