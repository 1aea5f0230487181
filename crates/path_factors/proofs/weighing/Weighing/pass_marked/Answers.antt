use Rattle.path_factors.proofs.Words.{◌≡◌, ℕ, ◌∙◌, arith, get_or, sym, subst, true, is_on, row_of, heads_in, head_at, rising}
use Rattle.path_factors.proofs.Connecting.{rest_weaker}
use Rattle.path_factors.proofs.Eliminating.{edge_rises}
use Rattle.path_factors.proofs.weighing.Weighing.pass_marked.Goals as goal

pub bounds-marks-first : goal.bounds-marks-first
bounds-marks-first g c =
    let e = c.edge-first.result in
    let up = c.holds.ensures.begun.links.rising c.args.v e.place e.leaving (edge_rises c.args.self.now.factor c.args.v c.args.i e c.edge-first.ensures) in
    omega (arith, up.1, c.requires.marks)

pub returns-then-marks-first-clause-rest : goal.returns-then-marks-first-clause-rest
returns-then-marks-first-clause-rest g c =
    let F = c.args.self.now.factor in
    let e = c.edge-first.result in
    let here = head_at F.leaving c.args.v c.args.i (rising e) c.edge-first.ensures.leaving_inside c.edge-first.ensures.rises in
    rest_weaker (λ (z : ℕ). z ≡ get_or (row_of (heads_in F.leaving) c.args.v) c.args.i 0) (λ (z : ℕ). is_on c.args.marks.now z ≡ true) F c.pass.new.self.factor
    (λ z is. subst (λ (y : ℕ). is_on c.args.marks.now y ≡ true) (sym here ∙ sym is) c.if-marks-first.true) c.pass.ensures.rest
