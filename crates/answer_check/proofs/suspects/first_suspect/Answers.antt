use Rattle.answer_check.proofs.Words.{◌∙◌, Bool, false, subst, asked_of, answer_list, TellsSuspect}
use Rattle.answer_check.proofs.ChunksAreRight.{told_more}
use Rattle.answer_check.proofs.suspects.first_suspect.Goals as goal

pub loop-i-preserved : goal.loop-i-preserved
loop-i-preserved g c =
    let roads = c.args.case.now.graph.now in
    let asked = asked_of c.args.case.now.questions.now in
    let told = answer_list c.args.case.now.answers.now in
    let before = c.loop-i.invariant in
    let i = c.loop-i.i in
    let here = subst (λ (b : Bool). TellsSuspect (g.A.PathAlgebra.meaning c.loop-i.searcher.algebra) roads asked told i b) c.if-is_suspect.false c.is_suspect.ensures.suspect in
    record {
      algebra = c.is_suspect.ensures.same.algebra ∙ before.algebra;
      roads = c.is_suspect.ensures.same.roads ∙ before.roads;
      right = told_more (g.A.PathAlgebra.meaning c.args.case.now.algebra) roads asked told c.args.chunk.0 i before.right
          (subst (λ (a : g.row.A.Denot). TellsSuspect (g.A.PathAlgebra.meaning a) roads asked told i false) before.algebra here);
    }
