use Rattle.question_solvers.proofs.Words.{Some, All, Vec, Global, All-pop, IsSearched, Searched}
use Rattle.question_solvers.proofs.ahead.add_chunks.Goals as goal

pub loop-chunk-preserved : goal.loop-chunk-preserved
loop-chunk-preserved g c = λ A roads asked before each.
    let i = c.loop-chunk.invariant A roads asked before each in
    let popped = All-pop (λ (chunk : Vec (Searched g.row.V.Denot) Global). All (IsSearched A roads asked) chunk.items) c.loop-chunk.chunks.items c.pop.new.self.items (Some c.in-Some.chunk) c.in-Some.ensures.items i.1 in
    (c.add_chunk.ensures A roads asked i.0 popped.1, popped.0)

pub returns-in_err-add_chunk : goal.returns-in_err-add_chunk
returns-in_err-add_chunk g c = λ A roads asked before each.
    let i = c.loop-chunk.invariant A roads asked before each in
    let popped = All-pop (λ (chunk : Vec (Searched g.row.V.Denot) Global). All (IsSearched A roads asked) chunk.items) c.loop-chunk.chunks.items c.pop.new.self.items (Some c.in-Some.chunk) c.in-Some.ensures.items i.1 in
    c.add_chunk.ensures A roads asked i.0 popped.1

pub returns : goal.returns
returns g c = λ A roads asked before each. (c.loop-chunk.invariant A roads asked before each).0
