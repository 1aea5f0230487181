use Rattle.answer_lists.proofs.Words.{rules, ◌≡◌, ◌<◌, [], ◌∷◌, ℕ, List, length, get_or, refl, sym, ◌∙◌, subst, IsGraph, IsBestLabel, IsTableCode, AreRowCodes}
use Rattle.path_algebra.specs.declared.counted_sums.CountedSums.{CountedSums}
use Rattle.path_factors.specs.State.{FactorState}
use Rattle.answer_lists.proofs.Tabling.{label_coded, zipped_next}
use Rattle.answer_lists.proofs.factored_graph.FactoredGraph.ask_row.Goals as goal

pub loop-target-preserved : goal.loop-target-preserved
loop-target-preserved g c =
    let a = c.args in let A = g.A.PathAlgebra.meaning a.algebra in let roads = a.self.now.roads in let i = c.loop-target.target-index in
    let lt : i < length a.ends.now.targets.now = search rules in let t = get_or a.ends.now.targets.now i 0 in
    let here : c.deref-in-loop-target.result.now ≡ a.self.now = c.deref-in-loop-target.ensures ∙ c.self.view_is in
    let best : IsBestLabel A roads (a.ends.now.source ∷ []) t c.in_ok-value.value =
    subst (λ (f : FactorState CountedSums ℕ). IsBestLabel A f.roads (a.ends.now.source ∷ []) t c.in_ok-value.value) here
    (subst (λ (ss : List ℕ). IsBestLabel A c.deref-in-loop-target.result.now.roads ss t c.in_ok-value.value) c.loop-target.invariant.source c.in_ok-value.ensures.best) in
    let graph : IsGraph roads = subst (λ (f : FactorState CountedSums ℕ). IsGraph f.roads) (c.deref.ensures ∙ c.self.view_is) c.holds.ensures.roads in
    let coded : IsTableCode A roads a.ends.now.source t c.code_for.result =
    subst (IsTableCode A roads a.ends.now.source t) (sym c.code_for.ensures) (label_coded A c.laws_hold.ensures.lawful c.requires.low roads graph a.ends.now.source t c.in_ok-value.value best) in
    record {
      same = c.best_value.ensures.same ∙ c.loop-target.invariant.same;
      source = c.best_value.ensures.sources ∙ c.loop-target.invariant.source;
      row = subst (AreRowCodes A roads _ a.ends.now.source) (sym c.in_ok-push_code.ensures)
          (zipped_next (IsTableCode A roads a.ends.now.source) a.ends.now.targets.now c.loop-target.row.items i 0 t c.code_for.result lt refl c.loop-target.invariant.row coded);
    }
