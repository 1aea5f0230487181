use Rattle.question_solvers.proofs.Words.{◌≡◌, refl, subst, IfSome, next_of}
use Rattle.question_solvers.proofs.Searches.{next_solves}
use Rattle.question_solvers.proofs.plain.solve_next_plainly.Goals as goal

pub returns : goal.returns
returns g c =
    let lent = c.solution_of-solved.result.now in
    let solved = next_solves _ _ _ c.args.i (next_of c.solve_plainly.new.solver.searched.items) lent c.in_ok-solve_plainly.ensures.next
    (subst (λ l. IfSome (next_of l) (λ next. next.solved ≡ lent)) c.as_slice.ensures.value c.solution_of-solved.ensures) in
    ((refl, (λ _. tt), c.in_ok-solve_plainly.ensures.after), record { after = tt; solved = solved })
