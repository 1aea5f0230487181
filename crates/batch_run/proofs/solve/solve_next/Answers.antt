use Rattle.batch_run.proofs.Words.{rules, ◌≡◌, ◌∙◌, ◌+◌, Bool, true, false, ap, inl, refl, subst, sym, false≢true, IfOk, GraphData, IsSolvedFor, graph_of, is_without_diffusions}
use Rattle.batch_run.specs.Batches.{ReportedAccounts, asked_in, question_at}
use Rattle.batch_run.proofs.Reporting.{none_due, prefix_none}
use Rattle.batch_run.proofs.solve.solve_next.Goals as goal

-- what holds over a graph holds over the same one
over : (P : GraphData → Type 0) (r roads : GraphData) → P r → r ≡ roads → P roads
over P r roads h e = subst P e h

pub returns-in-Ok : goal.returns-in-Ok
returns-in-Ok g c =
    let kind : is_without_diffusions c.args.solver.now ≡ true = ap is_without_diffusions c.in-Plain.is in
    let ended = c.solve_next_plainly.follows.holds-at-none in (
      (refl, (λ _. tt), record { same = record { graph = search rules; kind = search rules }; ready = search rules }),
      record {
        after = tt;
        solved = over (λ r. IsSolvedFor (g.A.PathAlgebra.meaning c.args.batch.now.task.algebra) r (asked_in c.args.batch.now) c.args.i c.in-Ok.solved.now) _ (graph_of c.args.solver.now) c.in-Ok.ensures.solved (search rules);
        undiffused = λ _. tt;
        stops = tt;
        reported = λ d. none_due _ _ _ _ (is_without_diffusions c.args.solver.now) kind (c.args.i + 1) (question_at c.args.batch.now c.args.i d) _;
      },
    )

pub returns-in-Err : goal.returns-in-Err
returns-in-Err g c =
    let ended = c.solve_next_plainly.follows.holds-at-none in (
      (refl, (λ _. tt), record { same = record { graph = search rules; kind = search rules }; ready = tt }),
      record { after = tt; solved = tt; undiffused = λ _. refl; stops = inl refl; reported = λ _. prefix_none _ _ _ _ _ _ },
    )

pub returns-in-Ok-solve_next_by_factors : goal.returns-in-Ok-solve_next_by_factors
returns-in-Ok-solve_next_by_factors g c =
    let kind : is_without_diffusions c.args.solver.now ≡ true = ap is_without_diffusions c.in-Factors.is in
    let ended = c.solve_next_by_factors.follows.holds-at-none in (
      (refl, (λ _. tt), record { same = record { graph = search rules; kind = search rules }; ready = search rules }),
      record {
        after = tt;
        solved = over (λ r. IsSolvedFor (g.A.PathAlgebra.meaning c.args.batch.now.task.algebra) r (asked_in c.args.batch.now) c.args.i c.in-Ok-solve_next_by_factors.solved.now) _ (graph_of c.args.solver.now) c.in-Ok-solve_next_by_factors.ensures.solved (search rules);
        undiffused = λ _. tt;
        stops = tt;
        reported = λ d. none_due _ _ _ _ (is_without_diffusions c.args.solver.now) kind (c.args.i + 1) (question_at c.args.batch.now c.args.i d) _;
      },
    )

pub returns-in-Err-solve_next_by_factors : goal.returns-in-Err-solve_next_by_factors
returns-in-Err-solve_next_by_factors g c =
    let ended = c.solve_next_by_factors.follows.holds-at-none in (
      (refl, (λ _. tt), record { same = record { graph = search rules; kind = search rules }; ready = tt }),
      record { after = tt; solved = tt; undiffused = λ _. refl; stops = inl refl; reported = λ _. prefix_none _ _ _ _ _ _ },
    )

pub returns-in-Workers : goal.returns-in-Workers
returns-in-Workers g c =
    let batch = c.args.batch.now in
    let roads = graph_of c.args.solver.now in
    let result = c.solve_next_by_workers.result in
    let kind : is_without_diffusions c.args.solver.now ≡ false = ap is_without_diffusions c.in-Workers.is in
    let ended = c.solve_next_by_workers.follows.holds-at-none in
    let by_workers = c.solve_next_by_workers.ensures in (
      (refl, (λ _. tt), record { same = record { graph = search rules; kind = search rules }; ready = search rules }),
      record {
        after = tt;
        solved = over (λ r. IfOk result (λ s. IsSolvedFor (g.A.PathAlgebra.meaning batch.task.algebra) r (asked_in batch) c.args.i s.now)) _ roads by_workers.solved (search rules);
        undiffused = λ e. absurd (false≢true (sym kind ∙ e));
        stops = search rules;
        reported = subst (λ (b : Bool). ReportedAccounts g.A.PathAlgebra.meaning batch roads b c.args.i g.O.Watcher.may_become c.args.watcher.now c.solve_next_by_workers.new.watcher result) (sym kind)
            (over (λ r. ReportedAccounts g.A.PathAlgebra.meaning batch r false c.args.i g.O.Watcher.may_become c.args.watcher.now c.solve_next_by_workers.new.watcher result) _ roads by_workers.reported (search rules));
      },
    )
