use Rattle.diffuse_c.proofs.Words.{◌∙◌, [], ◌∷◌, ap, refl, sym, Some, ReportsListRefusals, Owner}
use Rattle.answer_lists.specs.Table.{AreEndsIn, HasPlaces}
use Rattle.diffuse_c.proofs.PassedOn.{passed_on}
use Rattle.diffuse_c.proofs.tables.diffuse_graph_table.Goals as goal

pub returns-clause-refusals : goal.returns-clause-refusals
returns-clause-refusals c =
    let a = c.args in let s = c.answer_table-status in
    let same = c.in-Some.ensures.graph ∙ ap (λ (o : Owner). Some o.shared) (sym c.deref_mut.ensures.value) in
    passed_on a.handle.now.held.shared c.deref_mut.result.now.shared (0 ∷ 2 ∷ 3 ∷ 17 ∷ 43 ∷ 45 ∷ []) (λ g n. ReportsListRefusals (AreEndsIn g a.sources.now a.targets.now) (HasPlaces a.sources.now a.targets.now a.codes.now) a.algebra a.limit n)
    s.result same (refl, (refl, (refl, (refl, (refl, (refl, tt)))))) s.ensures.status s.ensures.refusals
