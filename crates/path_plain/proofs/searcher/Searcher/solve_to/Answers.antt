use Rattle.path_plain.proofs.Words.{◌≡◌, ◌∷◌, [], ◌∙◌, sym, subst, true, Some, GraphData, IsSearchedAsFar, AreBestUpTo}
use Rattle.path_plain.proofs.Running.{searched, went_on, kept_from}
use Rattle.path_plain.proofs.searcher.Searcher.solve_to.Goals as goal

pub invariant_of-self-2 : goal.invariant_of-self-2
invariant_of-self-2 g c =
    let meaning = g.A.PathAlgebra.meaning in
    let was = c.self.inside.search in
    let came = c.come_from.new.search in
    let ran = c.run.new.self in
    let roads : was.roads ≡ c.args.graph.now = (λ i. (c.self.view_is i).roads) ∙ sym c.requires.graph in
    kept_from meaning was came ran c.args.source (rw roads c.requires.source) c.in_ok-come_from.ensures.of_same c.in_ok-come_from.ensures.between c.self.invariant.notes c.in_ok-run.ensures.of_same
    (went_on meaning was came ran c.args.source (rw roads c.requires.source) c.in_ok-come_from.ensures.of_same c.in_ok-come_from.ensures.between c.args.target true c.in_ok-run.ensures.runs)

pub returns-clause-labels : goal.returns-clause-labels
returns-clause-labels g c =
    let meaning = g.A.PathAlgebra.meaning in
    let was = c.self.inside.search in
    let came = c.come_from.new.search in
    let ran = c.run.new.self in
    let roads : was.roads ≡ c.args.graph.now = (λ i. (c.self.view_is i).roads) ∙ sym c.requires.graph in
    let far : IsSearchedAsFar (meaning was.algebra) was.roads (c.args.source ∷ []) (Some c.args.target) ran.labels ran.settled =
    searched meaning was came ran c.args.source (rw roads c.requires.source) c.in_ok-come_from.ensures.of_same c.in_ok-come_from.ensures.between c.args.target c.in_ok-run.ensures.runs in
    subst (λ (a : g.row.A.Denot). AreBestUpTo (meaning a) c.args.graph.now (c.args.source ∷ []) c.args.target ran.labels) (λ i. (c.self.view_is i).algebra)
    (subst (λ (r : GraphData). AreBestUpTo (meaning was.algebra) r (c.args.source ∷ []) c.args.target ran.labels) roads far.best)
