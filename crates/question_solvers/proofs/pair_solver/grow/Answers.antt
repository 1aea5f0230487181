use Rattle.question_solvers.proofs.Words.{rules, arith, ◌≡◌, ◌∙◌, ◌+◌, ◌≤◌, ◌++◌, ◌∷◌, [], None, ap, length, subst, sym, length_push, All-push, All-same, IsSearcherOf, PairSolver}
use Rattle.question_solvers.proofs.pair_solver.grow.Goals as goal

pub returns-then-is_err-clause-pool : goal.returns-then-is_err-clause-pool
returns-then-is_err-clause-pool g c =
    let same : c.push.new.self.items ≡ c.loop-k.pool.items = search rules in
    All-same (λ s. IsSearcherOf c.args.over.now.task.now.algebra c.args.over.now.graph.now s.searcher) c.push.new.self.items c.loop-k.pool.items same c.loop-k.invariant.pool

pub loop-k-preserved : goal.loop-k-preserved
loop-k-preserved g c =
    let next : PairSolver g.row.A.Denot g.row.A-Value.Denot = record { searcher = c.in_ok-searcher.searcher; found = None } in
    let more : c.push.new.self.items ≡ c.loop-k.pool.items ++ next ∷ [] = search rules in
    let own : IsSearcherOf c.args.over.now.task.now.algebra c.args.over.now.graph.now c.in_ok-searcher.searcher = record { by = c.in_ok-searcher.ensures.algebra; over = c.in_ok-searcher.ensures.graph } in
    record {
      pool = All-same (λ s. IsSearcherOf c.args.over.now.task.now.algebra c.args.over.now.graph.now s.searcher) c.push.new.self.items (c.loop-k.pool.items ++ next ∷ []) more
          (All-push (λ s. IsSearcherOf c.args.over.now.task.now.algebra c.args.over.now.graph.now s.searcher) c.loop-k.pool.items next c.loop-k.invariant.pool own);
      long = subst (λ n. c.loop-k._k + 1 ≤ n) (sym (ap length more ∙ length_push c.loop-k.pool.items next)) (omega (arith, c.loop-k.invariant.long));
    }
