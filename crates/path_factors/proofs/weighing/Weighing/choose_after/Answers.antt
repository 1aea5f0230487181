use Rattle.std.proofs.Common.{◌∙◌, length, arith}
use Rattle.path_factors.proofs.weighing.Weighing.choose_after.Goals as goal

pub loop-j-init : goal.loop-j-init
loop-j-init g c = record {
  after = omega arith;
  marks = λ k. length c.args.marks.now;
  serve = c.requires.serve;
  ahead = λ p m from low inside is. omega arith;
}

pub loop-j-preserved : goal.loop-j-preserved
loop-j-preserved g c = record {
  after = omega (arith, c.loop-j.invariant.after);
  marks = c.choose.ensures.marks ∙ c.loop-j.invariant.marks;
  serve = c.choose.ensures.serve;
  ahead = c.between-q.ensures.ahead;
}
