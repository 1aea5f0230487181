use Rattle.path_factors.proofs.Words.{◌≡◌, ◌∙◌, ◌++◌, ◌∷◌, [], List, ℕ, length, ap, arith, sym, take, take_all, take_more}
use Rattle.path_factors.proofs.factors.Factors.copied_heads.Goals as goal

pub heads-requires-after_bounds : goal.heads-requires-after_bounds
heads-requires-after_bounds g c κs within =
    let places : length c.self.inside.places.items ≡ length c.args.self.now.factor.places = λ i. length (c.self.view_is i).factor.places in
    omega (arith, c.loop-i-test.true, places, c.holds.ensures.factor.ordering.places_count)

pub loop-i-preserved : goal.loop-i-preserved
loop-i-preserved g c =
    let heads = c.args.self.now.heads in
    let places : length c.self.inside.places.items ≡ length c.args.self.now.factor.places = λ i. length (c.self.view_is i).factor.places in
    c.in_ok-heads-2.ensures ∙ ap (λ (h : List (List ℕ)). h ++ c.heads.result.now ∷ []) c.loop-i.invariant
    ∙ ap (λ (row : List ℕ). take c.loop-i.i heads ++ row ∷ []) c.heads.ensures
    ∙ sym (take_more heads c.loop-i.i [] (omega (arith, c.loop-i-test.true, places, c.holds.ensures.factor.ordering.places_count, c.holds.ensures.outline.are.count)))

pub returns : goal.returns
returns g c =
    let places : length c.self.inside.places.items ≡ length c.args.self.now.factor.places = λ i. length (c.self.view_is i).factor.places in
    c.loop-i.invariant
    ∙ take_all c.loop-i.i c.args.self.now.heads (omega (arith, c.loop-i-test.false, places, c.holds.ensures.factor.ordering.places_count, c.holds.ensures.outline.are.count))
