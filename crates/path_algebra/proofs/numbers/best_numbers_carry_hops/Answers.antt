use Rattle.path_algebra.specs.Names.{Shortest, Hops}
use Rattle.path_algebra.proofs.CountedLaws.{sums_carry_hops, within_carries_hops}
use Rattle.path_algebra.proofs.numbers.best_numbers_carry_hops.Goals as goal

pub returns-clause-shortest : goal.returns-clause-shortest
returns-clause-shortest c = λ sources k inside fit.
    sums_carry_hops c.args.graph.now c.holds.ensures sources inside (λ w. w) k fit Shortest

pub returns-clause-within : goal.returns-clause-within
returns-clause-within c = λ sources k limit inside fit.
    within_carries_hops c.args.graph.now sources limit c.holds.ensures inside k fit

pub returns-clause-hops : goal.returns-clause-hops
returns-clause-hops c = λ sources k inside fit.
    sums_carry_hops c.args.graph.now c.holds.ensures sources inside (λ _. 1) k fit Hops
