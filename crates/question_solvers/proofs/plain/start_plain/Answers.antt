use Rattle.question_solvers.proofs.Words.{rules, ◌∙◌, [], ap, subst, sym, All-nil, All-same, GraphData, asked_of, IsSearched, IsPoolOf}
use Rattle.question_solvers.proofs.Pools.{pool_over}
use Rattle.question_solvers.proofs.plain.start_plain.Goals as goal

pub invariant_of-solver-clause-own : goal.invariant_of-solver-clause-own
invariant_of-solver-clause-own g c =
    pool_over c.args.task.now.algebra c.args.solver.now.graph c.set_algebra.new.pool.items (c.set_algebra.ensures c.args.solver.now.graph c.args.solver.now.own)

pub returns-in_ok-make_rows-clause-ready : goal.returns-in_ok-make_rows-clause-ready
returns-in_ok-make_rows-clause-ready g c =
    let algebra = c.args.task.now.algebra in
    let P = IsSearched (g.A.PathAlgebra.meaning algebra) c.make_rows.new.solver.graph (asked_of c.args.task.now.questions.now) in
    let own = c.set_algebra.ensures c.args.solver.now.graph c.args.solver.now.own in
    record {
      searched = All-same P c.make_rows.new.solver.searched.items [] (ap (λ v. v.items) c.make_rows.ensures.searched ∙ c.clear.ensures.items) (All-nil P);
      pool = subst (λ (graph : GraphData). IsPoolOf algebra graph c.make_rows.new.solver.pool.items) (sym c.make_rows.ensures.graph)
          (subst (λ pool. IsPoolOf algebra c.args.solver.now.graph pool.items) (sym c.make_rows.ensures.pool) own);
      rows = λ pairs. c.in_ok-make_rows.ensures.rows;
    }

pub returns-else-eq-clause-ready : goal.returns-else-eq-clause-ready
returns-else-eq-clause-ready g c =
    let P = IsSearched (g.A.PathAlgebra.meaning c.args.task.now.algebra) c.args.solver.now.graph (asked_of c.args.task.now.questions.now) in
    record {
      searched = All-same P c.clear.new.self.items [] c.clear.ensures.items (All-nil P);
      pool = c.set_algebra.ensures c.args.solver.now.graph c.args.solver.now.own;
      rows = search rules;
    }
