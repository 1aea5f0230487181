use Rattle.path_factors.proofs.Words.{◌≡◌, ◌-◌, ◌⊎◌, ◌++◌, ◌∙◌, Bool, List, inl, inr, arith, cases_lt, common_steps, drop, get_or, get_or_default, length, subst, sym, take, true, is_on}
use Rattle.path_factors.proofs.FewWeights.{changes_more}
use Rattle.path_factors.proofs.factors.Factors.marks_at.Goals as goal

pub loop-change-preserved : goal.loop-change-preserved
loop-change-preserved g c =
    let before = c.loop-change.marks.items in
    let after = c.mark_up.new.marks in
    let places = c.args.self.now.factor.places in
    let changes = c.args.changes.now in
    let j = c.loop-change.change-index in
    let one = c.change-item.result in
    let z = c.min-lesser.result in
    let was : c.deref_mut.result.now ≡ before = grind (arith, common_steps) in
    let now : take c.loop-change.marks.len (after ++ drop (length after) before) ≡ after = grind (arith, common_steps) in
    let tail = c.place.ensures.place in
    let head = c.place-in-loop-change.ensures.place in
    let at : (z ≡ get_or places (one.tail - 1) 0) ⊎ (z ≡ get_or places (one.head - 1) 0) = elim (cases_lt c.place.result c.place-in-loop-change.result) [
      | inl less ↦ inl (omega (arith, less, c.min-lesser.ensures, tail))
      | inr not_less ↦ inr (omega (arith, not_less, c.min-lesser.ensures, head))
    ] in
    rw (now) (record {
      count = c.mark_up.ensures.count;
      upward = c.mark_up.ensures.upward;
      marked = changes_more places before after changes j one z c.loop-change.invariant.marked
          (λ d is. c.change-item.is ∙ get_or_default changes j one d c.loop-change-test.true ∙ is)
          (omega (arith, c.min-lesser.ensures, tail)) (omega (arith, c.min-lesser.ensures, head)) at c.mark_up.ensures.on
          (λ i on. c.mark_up.ensures.kept i (subst (λ (m : List Bool). is_on m i ≡ true) (sym was) on));
    })
