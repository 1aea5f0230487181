use Rattle.question_solvers.proofs.Words.{Some, [], ◌∷◌, ◌++◌, All-pop, All-push, All-same, IsSearched}
use Rattle.question_solvers.proofs.ahead.add_chunk.Goals as goal

pub loop-next-preserved : goal.loop-next-preserved
loop-next-preserved g c = λ A roads asked before chunk.
    let P = IsSearched A roads asked in
    let next = c.in-Some.next in
    let i = c.loop-next.invariant A roads asked before chunk in
    let popped = All-pop P c.loop-next.chunk.items c.pop.new.self.items (Some next) c.in-Some.ensures.items i.1 in
    (All-same P c.add.new.searched.items (c.loop-next.ahead.items ++ next ∷ []) c.in_ok-add.ensures.added (All-push P c.loop-next.ahead.items next i.0 popped.1), popped.0)

pub returns-in_err-add : goal.returns-in_err-add
returns-in_err-add g c = λ A roads asked before chunk.
    All-same (IsSearched A roads asked) c.add.new.searched.items c.loop-next.ahead.items c.in_err-add.ensures.kept (c.loop-next.invariant A roads asked before chunk).0

pub returns : goal.returns
returns g c = λ A roads asked before chunk. (c.loop-next.invariant A roads asked before chunk).0
