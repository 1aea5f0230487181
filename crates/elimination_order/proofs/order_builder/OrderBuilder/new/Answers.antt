use Rattle.std.proofs.Common.{◌∙◌, ap, arith}
use Rattle.elimination_order.specs.Orders.{filled}
use Rattle.elimination_order.proofs.Counting.{filled_none}
use Rattle.elimination_order.proofs.order_builder.OrderBuilder.new.Goals as goal

pub invariant_of-result-clause-stand : goal.invariant_of-result-clause-stand
invariant_of-result-clause-stand c = λ v inside. absurd (omega (arith, inside.0, inside.1))

pub invariant_of-result-clause-counted : goal.invariant_of-result-clause-counted
invariant_of-result-clause-counted c = ap filled (c.in_ok-vec.ensures.items_if_clones_equal (λ y e. e)) ∙ filled_none c.args.n
