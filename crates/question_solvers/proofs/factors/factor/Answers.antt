use Rattle.question_solvers.proofs.FactorCosts.{dense_over, each_over, heavy_over}
use Rattle.question_solvers.proofs.factors.factor.Goals as goal

pub invariant_of-solver-2-clause-heavy : goal.invariant_of-solver-2-clause-heavy
invariant_of-solver-2-clause-heavy g c = heavy_over c.make_rows.ensures.graph c.args.solver.now.heavy

pub invariant_of-solver-2-clause-each : goal.invariant_of-solver-2-clause-each
invariant_of-solver-2-clause-each g c = each_over c.make_rows.ensures.graph c.args.solver.now.each

pub invariant_of-solver-2-clause-dense : goal.invariant_of-solver-2-clause-dense
invariant_of-solver-2-clause-dense g c = dense_over c.make_rows.ensures.graph c.args.solver.now.dense
