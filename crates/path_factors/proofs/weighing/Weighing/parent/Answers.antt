use Rattle.path_factors.proofs.Words.{◌≡◌, ◌∙◌, ℕ, List, length, get_or, ap, arith, sym, row_of, heads_in}
use Rattle.path_factors.proofs.Trees.{first_is_parent}
use Rattle.path_factors.proofs.weighing.Weighing.parent.Goals as goal

pub returns-then-heads-gt0 : goal.returns-then-heads-gt0
returns-then-heads-gt0 g c =
    let S = c.args.self.now in
    let v = c.args.v in
    let row : c.heads-heads.result.now ≡ row_of (heads_in S.factor.leaving) v = c.heads-heads.ensures ∙ (λ i. row_of (heads_in (c.self.view_is i).factor.leaving) v) in
    first_is_parent (heads_in S.factor.leaving) S.roads.vertices v _ (c.holds.ensures.outline.are.ascending v) (omega (arith, ap length row, c.if-heads-gt0.true))
    (ap (λ (l : List ℕ). get_or l 0 0) (sym row))
