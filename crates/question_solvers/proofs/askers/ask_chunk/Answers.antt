use Rattle.question_solvers.proofs.Words.{rules, [], ◌∷◌, ◌++◌, ◌∙◌, All-push, All-same, asked_of, IsSearched}
use Rattle.question_solvers.proofs.Searches.{at_own}
use Rattle.question_solvers.proofs.askers.ask_chunk.Goals as goal

pub loop-place-preserved : goal.loop-place-preserved
loop-place-preserved g c =
    let over = c.args.factored.now.over.now in
    let P = IsSearched (g.A.PathAlgebra.meaning over.task.now.algebra) over.graph.now (asked_of over.task.now.questions.now) in
    let next = c.in_ok-next.next in
    let i = c.loop-place.invariant in
    let own = at_own _ _ _ c.loop-place.place next (search rules) c.in_ok-next.ensures.solved in
    record {
      same = c.ask_at.ensures.same ∙ i.same;
      each = All-same P c.add.new.searched.items (c.loop-place.found.items ++ next ∷ []) c.in_ok-add.ensures.added (All-push P c.loop-place.found.items next i.each own);
    }
