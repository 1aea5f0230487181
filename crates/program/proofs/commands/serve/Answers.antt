use Rattle.std.proofs.Common.{inr}
use Rattle.program.proofs.commands.serve.Goals as goal

pub returns : goal.returns
returns g c = inr (
  c.in-Ok.chosen,
  c.in-Ok.ensures.chosen,
  inr (record {
    roads = _;
    roads_after = _;
    requests = _;
    requests_after = _;
    order = _;
    order_after = _;
    inputs = c.in-Ok-open_pair.ensures.opened;
    outcome = c.serve_chosen-outcome.result;
    ran = c.serve_chosen-outcome.ensures.run;
    suited = c.serve_chosen-outcome.ensures.suited;
    ends = c.end_with.ensures;
  }),
)
