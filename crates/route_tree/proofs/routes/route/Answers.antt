use Rattle.route_tree.proofs.Words.{sym, ◌∙◌, arith, common_steps}
use Rattle.route_tree.proofs.Chains.{climb}
use Rattle.route_tree.proofs.routes.route.Goals as goal

pub loop-u-preserved : goal.loop-u-preserved
loop-u-preserved c =
    rw (c.in_ok-push-2.ensures.longer) (climb c.args.tree.now c.holds.ensures c.args.target c.loop-u.at c.loop-u.list.items c.loop-u.invariant c.in-Some.u (sym c.parent.ensures ∙ c.in-Some.is))

pub returns : goal.returns
returns c = grind (arith, common_steps)
