use Rattle.diffuse_c.proofs.Words.{◌∙◌, [], ◌∷◌, ap, refl, sym, Some, HasVertex, Owner}
use Rattle.std.specs.Prelude.{All}
use Rattle.answer_lists.specs.Answers.{HavePlaces, ReportsListRefusals}
use Rattle.diffuse_c.proofs.PassedOn.{passed_on}
use Rattle.diffuse_c.proofs.questions.diffuse_graph_check.Goals as goal

pub returns-clause-refusals : goal.returns-clause-refusals
returns-clause-refusals c =
    let a = c.args in let s = c.check_tree-status in
    let same = c.in-Some.ensures.graph ∙ ap (λ (o : Owner). Some o.shared) (sym c.deref_mut.ensures.value) in
    passed_on a.handle.now.held.shared c.deref_mut.result.now.shared (0 ∷ 2 ∷ 3 ∷ 6 ∷ 17 ∷ 43 ∷ 45 ∷ []) (λ g n. ReportsListRefusals (All (HasVertex g) a.sources.now) (HavePlaces g.vertices a.codes.now a.hops.now a.parents.now) a.algebra a.limit n)
    s.result same (refl, (refl, (refl, (refl, (refl, (refl, (refl, tt))))))) s.ensures.status s.ensures.refusals
