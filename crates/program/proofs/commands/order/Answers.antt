use Rattle.std.proofs.Common.{inr}
use Rattle.program.proofs.commands.order.Goals as goal

pub returns : goal.returns
returns g c = inr (record {
  roads = _;
  roads_after = _;
  input = c.in-Ok.ensures.opened;
  outcome = c.read_and_order-outcome.result;
  ran = c.read_and_order-outcome.ensures;
  ends = c.end_with.ensures;
})
