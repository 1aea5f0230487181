use Rattle.std.proofs.Common.{◌≡◌, ◌≤◌, ◌*◌, take, sum_by}
use Rattle.batch_run.proofs.solve.pace.mean_weight.Given as goal

abbrev pub invariant-loop-number : goal.invariant-loop-number
invariant-loop-number l = record {
  sum : l.sum ≡ sum_by (λ a. a.weight) (take l.number l.graph.arcs);
  most : l.sum ≤ l.number * 4294967295;
}
