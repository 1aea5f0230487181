use Rattle.answer_lists.proofs.factoring_by.factor_by.Goals as goal

pub returns-in-Err-Heavy-clause-heavy : goal.returns-in-Err-Heavy-clause-heavy
returns-in-Err-Heavy-clause-heavy g c = λ _. record { cost = c.in-Some.cost; carried = c.in-Some.ensures.carried; heavy = c.in-Err-Heavy.ensures.heavy c.in-Err-Heavy.field-0-is }
