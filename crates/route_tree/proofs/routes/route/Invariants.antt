use Rattle.route_tree.specs.Tree.{hops_of}
use Rattle.route_tree.proofs.Chains.{Climbing, height}
use Rattle.route_tree.proofs.routes.route.Given as goal

abbrev pub invariant-loop-u : goal.invariant-loop-u
invariant-loop-u l = Climbing l.tree l.fn.target l.at l.list.items

abbrev pub decreases-loop-u : goal.decreases-loop-u
decreases-loop-u l = height (hops_of l.tree l.at)
