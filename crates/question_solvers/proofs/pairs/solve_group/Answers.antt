use Rattle.question_solvers.proofs.Words.{rules, ◌<◌, length, sym, subst, get_or, IfSome, NamedLft, crosses, asked_of, IsFoundIn, IsSearcherIn}
use denote.Exit.{no}
use denote.Param.{copied, param}
use denote.Param.Send.{param_send, arg_send, sendable}
use Rattle.question_solvers.proofs.Searches.{some_own}
use Rattle.question_solvers.proofs.Sending.{pair_solver_send, pair_task_sync}
use Rattle.question_solvers.proofs.pairs.solve_group.Goals as goal

pub par_for_each_mut-requires-send-T : goal.par_for_each_mut-requires-send-T
par_for_each_mut-requires-send-T g c κs within = let s = c.type_bounds in
    param_send 0 _ (arg_send _ no _ (pair_solver_send (copied 0 g.row.A) (copied 2 g.row.A-Value) g.A.PathAlgebra s.send-A s.send-A-Value))

pub par_for_each_mut-requires-sync-F : goal.par_for_each_mut-requires-sync-F
par_for_each_mut-requires-sync-F g c κs within =
    let s = c.type_bounds in
    let shared = λ (b : NamedLft). pair_task_sync b (copied 0 g.row.A) (param 1 g.row.R) (copied 2 g.row.A-Value) g.A.PathAlgebra s.sync-A s.sync-R s.sync-A-Value in
    search (sendable, crosses, shared) depth 60 fits 100000

pub par_for_each_mut-requires-after_bounds : goal.par_for_each_mut-requires-after_bounds
par_for_each_mut-requires-after_bounds g c κs within = λ k s low is. (
  (
    subst (λ t. IsSearcherIn c.args.pairs.now.over.now t.searcher) (sym is) (c.requires.pool k s.now low),
    c.requires.places,
    subst (λ n. k < n) c.requires.count low,
  ),
  (search sendable, search sendable, search sendable, search sendable, search sendable),
)

pub returns-clause-found : goal.returns-clause-found
returns-clause-found g c = λ k d low.
    let over = c.args.pairs.now.over.now in
    let low_old : k < length c.args.group.now = search rules in
    let place = get_or c.args.places.now k 0 in
    let At = IsFoundIn g.A.PathAlgebra.meaning over place in
    let call = (c.par_for_each_mut.ensures k d low_old).1 in
    let found = subst (λ s. IfSome s.found At) {x = call.after_call.now} {y = get_or c.par_for_each_mut.new.s k d} call.left (call.call.0 0) in
    some_own (g.A.PathAlgebra.meaning over.task.now.algebra) over.graph.now (asked_of over.task.now.questions.now) place (get_or c.par_for_each_mut.new.s k d).found
    (c.requires.places k 0 (subst (λ n. k < n) c.requires.count low_old)) found

pub returns-clause-pool : goal.returns-clause-pool
returns-clause-pool g c = λ k d low.
    let low_old : k < length c.args.group.now = search rules in
    let call = (c.par_for_each_mut.ensures k d low_old).1 in
    subst (λ s. IsSearcherIn c.args.pairs.now.over.now s.searcher) {x = call.after_call.now} {y = get_or c.par_for_each_mut.new.s k d} call.left call.call.1
