use Rattle.question_solvers.proofs.Words.{arith, rules, ◌∙◌, ◌-◌, ◌<◌, ◌++◌, ◌∷◌, [], length, subst, sym, All-push, All-same, All-set, IfSome, asked_of, IsSearched, IsSearcherIn}
use Rattle.question_solvers.proofs.pair_solver.add_found.Goals as goal

pub offset_bounds-group-k : goal.offset_bounds-group-k
offset_bounds-group-k g c =
    let low : c.loop-k.k - 1 < length c.args.group.now = omega (arith, c.loop-k-test.true, c.loop-k.auto.k) in
    search rules

pub returns-in_default-clause-pool : goal.returns-in_default-clause-pool
returns-in_default-clause-pool g c =
    let i = c.loop-k.invariant in
    let k = c.loop-k.k - 1 in
    let low : k < length c.loop-k.group = omega (arith, c.loop-k-test.true, c.loop-k.auto.group, c.loop-k.auto.k) in
    All-set (λ s. IsSearcherIn c.args.over.now s.searcher) c.loop-k.group k _ (i.pool k _ low) i.pool

pub returns-in_err-add-clause-pool : goal.returns-in_err-add-clause-pool
returns-in_err-add-clause-pool g c =
    let i = c.loop-k.invariant in
    let k = c.loop-k.k - 1 in
    let low : k < length c.loop-k.group = omega (arith, c.loop-k-test.true, c.loop-k.auto.group, c.loop-k.auto.k) in
    All-set (λ s. IsSearcherIn c.args.over.now s.searcher) c.loop-k.group k _ (i.pool k _ low) i.pool

pub loop-k-preserved : goal.loop-k-preserved
loop-k-preserved g c =
    let over = c.args.over.now in
    let P = IsSearched (g.A.PathAlgebra.meaning over.task.now.algebra) over.graph.now (asked_of over.task.now.questions.now) in
    let next = c.in-Some.next in
    let i = c.loop-k.invariant in
    let k = c.loop-k.k - 1 in
    let low : k < length c.loop-k.group = omega (arith, c.loop-k-test.true, c.loop-k.auto.group, c.loop-k.auto.k) in
    let own : P next = subst (λ o. IfSome o P) (sym c.take.ensures.value ∙ c.in-Some.is) (i.found k _ low) in
    record {
      pool = All-set (λ s. IsSearcherIn over s.searcher) c.loop-k.group k _ (i.pool k _ low) i.pool;
      found = All-set (λ s. IfSome s.found P) c.loop-k.group k _ (subst (λ o. IfSome o P) (sym c.take.ensures.after) tt) i.found;
      ahead = All-same P c.add.new.searched.items (c.loop-k.ahead.items ++ next ∷ []) c.in_ok-add.ensures.added (All-push P c.loop-k.ahead.items next i.ahead own);
    }
