use Rattle.answer_lists.proofs.Words.{rules, ◌≡◌, ℕ, ◌<◌, List, length, take, refl, ap, ◌∙◌, subst, arith, HasVertex}
use Rattle.std.specs.List.{All}
use Rattle.std.proofs.Math.Seq.{take-length}
use Rattle.std.proofs.lemmas.List.Elements.{All-more}
use Rattle.answer_lists.proofs.sources.are_vertices.Goals as goal

pub loop-number-preserved : goal.loop-number-preserved
loop-number-preserved c =
    let lt : c.loop-number.number-index < length c.args.numbers.now = search rules in
    All-more (HasVertex c.args.graph.now) c.args.numbers.now c.loop-number.number-index 0 lt c.loop-number.invariant (c.has.ensures.0 c.if-not-has.false)

pub returns : goal.returns
returns c =
    let end : c.loop-number.number-index ≡ length c.args.numbers.now = omega arith in
    let whole : take c.loop-number.number-index c.args.numbers.now ≡ c.args.numbers.now = ap (λ (k : ℕ). take k c.args.numbers.now) end ∙ take-length c.args.numbers.now in
    (λ _. subst (λ (xs : List ℕ). All (HasVertex c.args.graph.now) xs) whole c.loop-number.invariant, λ _. refl)
