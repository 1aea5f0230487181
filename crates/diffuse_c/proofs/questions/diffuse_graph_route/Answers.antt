use Rattle.diffuse_c.proofs.Words.{◌∙◌, [], ◌∷◌, ap, refl, sym, Some, Owner}
use Rattle.answer_lists.specs.Answers.{HasBoth, ReportsRefusals}
use Rattle.diffuse_c.proofs.PassedOn.{passed_on}
use Rattle.diffuse_c.proofs.questions.diffuse_graph_route.Goals as goal

pub returns-clause-refusals : goal.returns-clause-refusals
returns-clause-refusals c =
    let a = c.args in let s = c.answer_route-status in
    let same = c.in-Some.ensures.graph ∙ ap (λ (o : Owner). Some o.shared) (sym c.deref_mut.ensures.value) in
    passed_on a.handle.now.held.shared c.deref_mut.result.now.shared (0 ∷ 1 ∷ 2 ∷ 3 ∷ 17 ∷ 43 ∷ 45 ∷ []) (λ g n. ReportsRefusals (HasBoth g a.source a.target) a.algebra a.limit n)
    s.result same (refl, (refl, (refl, (refl, (refl, (refl, (refl, tt))))))) s.ensures.status s.ensures.refusals
