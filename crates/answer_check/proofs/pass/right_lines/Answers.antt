use Rattle.std.proofs.Common.{arith}
use Rattle.answer_check.proofs.pass.right_lines.Goals as goal

pub returns-in-Some-clause-right : goal.returns-in-Some-clause-right
returns-in-Some-clause-right g c = let first = rw c.in-Some.is at c.first_refused.ensures in first.2

pub returns-in-Some-clause-first : goal.returns-in-Some-clause-first
returns-in-Some-clause-first g c = let first = rw c.in-Some.is at c.first_refused.ensures in λ low. first.1

pub returns-in-None-clause-right : goal.returns-in-None-clause-right
returns-in-None-clause-right g c = let none = rw c.in-None.is at c.first_refused.ensures in λ k lt. none k (omega (arith, lt, c.requires.marks))

pub returns-in-None-clause-first : goal.returns-in-None-clause-first
returns-in-None-clause-first g c = λ low. absurd (omega (arith, low, c.requires.marks))
