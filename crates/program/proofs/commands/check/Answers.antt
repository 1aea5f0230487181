use Rattle.std.proofs.Common.{inr}
use Rattle.program.proofs.commands.check.Goals as goal

pub returns : goal.returns
returns g c = inr (record {
  roads = _;
  roads_after = _;
  questions = _;
  questions_after = _;
  answers = _;
  answers_after = _;
  inputs = c.in-Ok.ensures.opened;
  outcome = c.judge-judged.result;
  judged = c.judge-judged.ensures;
  ends = c.end_check.ensures;
})
