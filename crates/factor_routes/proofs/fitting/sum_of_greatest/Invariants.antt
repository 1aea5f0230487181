use Rattle.factor_routes.proofs.Words.{◌≡◌, ◌*◌, ◌≤◌, cost_of, sum_to, greatest_into}
use Rattle.factor_routes.proofs.fitting.sum_of_greatest.Given as goal

abbrev pub invariant-loop-i : goal.invariant-loop-i
invariant-loop-i l =
    (l.sum ≡ sum_to (λ v. greatest_into (cost_of l.cost) v l.by_head.arcs) l.i) × (l.sum ≤ l.i * 4294967295)
