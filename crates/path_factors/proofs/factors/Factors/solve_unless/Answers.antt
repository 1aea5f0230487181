use Rattle.path_factors.proofs.Words.{◌≡◌, arith, List, Option, ◌∙◌, subst, sym, ap, common_steps, at, IsForwardTo, place_of}
use Rattle.path_factors.proofs.Sweeps.{forward_starts}
use Rattle.path_factors.proofs.Substitution.{substitution_is_best}
use Rattle.path_factors.proofs.factors.Factors.solve_unless.Goals as goal

pub returns-clause-best : goal.returns-clause-best
returns-clause-best g c =
    let A = g.A.PathAlgebra.meaning c.args.self.now.algebra in
    let C = g.A.ComposingAlgebra.walks c.args.self.now.algebra in
    let G = c.args.self.now.roads in
    let F = c.args.self.now.factor in
    let sources = c.args.sources.now in
    let holds = c.holds.ensures in
    let before : c.deref_mut.result.now ≡ c.in_ok-labels.labels.items = grind (arith, common_steps) in
    let after : c.deref.result.now ≡ c.substitute.new.labels = grind (arith, common_steps) in
    let start = forward_starts A holds.lawful C holds.composes G holds.roads F holds.factor sources c.in_ok-labels.labels.items c.requires c.in_ok-labels.ensures in
    let done = c.substitute.ensures.labels c.if-not-substitute.false sources (subst (λ (l : List (Option g.row.A-Value.Denot)). IsForwardTo A C G F sources 0 l) (sym before) start) in
    let labels = rw c.in-Some.is at c.in_ok-found.ensures.labels in
    substitution_is_best A holds.lawful C holds.composes G holds.roads sources F holds.factor done.0 c.substitute.new.labels done.1 done.2
    c.requires c.in-Some.found (rw c.in-Some.is at c.in_ok-found.ensures.count)
    (λ v in_v. labels v in_v ∙ ap (λ (l : List (Option g.row.A-Value.Denot)). at l (place_of F v)) after)
