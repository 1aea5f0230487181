use Rattle.std.proofs.Common.{◌≡◌, IfSome, Err, subst}
use Rattle.std.proofs.Math.Path.{subst⁻¹}
use Rattle.text_lines.specs.Rules.{text_read}
use Rattle.road_files.specs.Asked.{asked_of}
use Rattle.answer_text.specs.AnswerFiles.{answer_rules}
use Rattle.answer_text.specs.AnswerData.{answer_list}
use Rattle.batch_inputs.specs.Spelled.{IsReadAs}
use Rattle.program.specs.Verdicts.{IsAnswersFault}
use Rattle.program.proofs.judging.answers.read_inputs.Goals as goal

pub returns-in-Ok-read_answers-clause-read : goal.returns-in-Ok-read_answers-clause-read
returns-in-Ok-read_answers-clause-read g c = record {
  graph_is = c.in-Ok.ensures.read.graph_is;
  questions_are = c.in-Ok.ensures.read.questions_are;
  answers_are = subst (λ n. IsReadAs (answer_rules n) (g.S.RoadRead.seen c.args.answers_in.now).left (answer_list c.in-Ok-read_answers.answers)) c.vertices.ensures.count
      (record { told = c.in-Ok-read_answers.ensures.value; some_text = c.in-Ok-read_answers.ensures.some_text });
}

pub returns-in-Err-read_answers-clause-answers : goal.returns-in-Err-read_answers-clause-answers
returns-in-Err-read_answers-clause-answers g c = λ _. subst⁻¹ (IsAnswersFault (g.G.RoadRead.seen c.args.graph_in.now).left (g.Q.RoadRead.seen c.args.questions_in.now).left
    (g.S.RoadRead.seen c.args.answers_in.now).left) c.fault_in.ensures (record {
      roads = c.in-Ok.read.graph;
      asked = asked_of c.in-Ok.read.questions;
      read = c.in-Ok.ensures.read;
      fault = λ text. subst (λ n. IfSome (g.S.RoadRead.seen c.args.answers_in.now).left (λ b. text_read (answer_rules n) b ≡ Err c.in-Err-read_answers.fault)) c.vertices.ensures.count
          (c.in-Err-read_answers.ensures.fault text.0 text.1);
    })
