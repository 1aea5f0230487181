use Rattle.std.proofs.Common.{◌≡◌, None, replicate}
use Rattle.path_factors.proofs.label_slot.no_labels.Given as goal

abbrev pub invariant-loop : goal.invariant-loop
invariant-loop g l = l.labels.items ≡ replicate l.counter None
