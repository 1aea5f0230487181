use Rattle.answer_text.proofs.Words.{◌<◌, arith, ap, ◌∙◌, Word, numbers_given, one_number_more}
use Rattle.std.proofs.lemmas.Result.{on_ok_weaker}
use Rattle.answer_text.proofs.ListFields.{next_field}
use Rattle.answer_text.proofs.present_numbers.PresentNumbers.field.Goals as goal

pub returns-then-self-lt-COUNTED-clause-told : goal.returns-then-self-lt-COUNTED-clause-told
returns-then-self-lt-COUNTED-clause-told c =
    let some : 0 < c.args.self.now.count = omega arith in
    on_ok_weaker c.add.result (λ numbers fs f h e. next_field c.args.self.now c.add.new.self fs f h some (c.add.ensures.rest.0 ∙ c.counted-self.ensures) c.add.ensures.rest.1 c.add.ensures.rest.2
    (λ _ _. numbers ∙ ap (λ (w : Word). one_number_more (numbers_given c.args.self.now) w.number) e)) c.add.ensures.numbers
