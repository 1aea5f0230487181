use Rattle.question_solvers.proofs.Words.{◌≡◌, ◌∙◌, Some, ap, sym, take, All-same, All-take, asked_of, IsSearched, next_of}
use Rattle.question_solvers.proofs.Searches.{for_other, is_next, of_next}
use Rattle.question_solvers.proofs.ahead.advance.Goals as goal

pub returns-then-is_same-clause-next : goal.returns-then-is_same-clause-next
returns-then-is_same-clause-next g c = λ _.
    let over = c.args.over.now in
    let A = g.A.PathAlgebra.meaning over.task.now.algebra in
    let asked = asked_of over.task.now.questions.now in
    let next = c.in-Some.next.now in
    let ahead = c.loop-next.ahead.items in
    let is : next_of ahead ≡ Some next = ap next_of (sym c.deref.ensures.value) ∙ sym c.in-Some.ensures.value in
    let own = of_next (IsSearched A over.graph.now asked) ahead next is c.loop-next.invariant in
    is_next A over.graph.now asked c.args.i ahead next is (for_other A over.graph.now asked c.args.i next.place next.solved own.solved (c.is_same.ensures c.if-is_same.true))

pub loop-next-preserved : goal.loop-next-preserved
loop-next-preserved g c =
    let over = c.args.over.now in
    let P = IsSearched (g.A.PathAlgebra.meaning over.task.now.algebra) over.graph.now (asked_of over.task.now.questions.now) in
    let ahead = c.loop-next.ahead.items in
    All-same P c.truncate.new.self.items (take _ ahead) c.truncate.ensures.items (All-take P _ ahead c.loop-next.invariant)
