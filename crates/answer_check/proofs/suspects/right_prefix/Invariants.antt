use Rattle.answer_check.proofs.Words.{◌-◌, ℕ, ◌<◌, ◌≤◌, false, asked_of, answer_list, TellsSuspect}
use Rattle.answer_check.proofs.suspects.right_prefix.Given as goal

-- the answers before the next chunks are right
abbrev pub invariant-loop-right : goal.invariant-loop-right
invariant-loop-right g l = record {
  within : l.right ≤ l.total;
  prefix : (k : ℕ) → k < l.right → TellsSuspect (g.A.PathAlgebra.meaning l.case.algebra) l.case.graph.now (asked_of l.case.questions.now) (answer_list l.case.answers.now) k false;
}

abbrev pub decreases-loop-right : goal.decreases-loop-right
decreases-loop-right g l = l.total - l.right
