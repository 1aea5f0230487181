use Rattle.path_algebra.proofs.Walks.{all_inside}
use Rattle.answer_check.proofs.Certified.{lines_are_right, lines_are_certified}
use Rattle.answer_check.proofs.laws.right_lines_are_certified.Goals as goal

pub returns : goal.returns
returns g c = λ graph roads sources inside lines.
    let A = g.A.PathAlgebra.meaning c.args.algebra in
    let in_s = all_inside graph sources inside in (
      λ right. lines_are_certified A c.laws_hold.ensures.lawful graph roads sources in_s lines right,
      λ certified. lines_are_right A c.laws_hold.ensures.lawful graph roads sources in_s lines certified,
    )
