use Rattle.std.proofs.Common.{length}
use Rattle.path_factors.proofs.Listing.{on_ok}
use Rattle.path_factors.proofs.upward.join.Goals as goal

pub returns-then-x-y-clause-more : goal.returns-then-x-y-clause-more
returns-then-x-y-clause-more c = on_ok c.push.result c.push.ensures.more (λ more. more (length c.args.arcs.now.firsts) c.requires.second)

pub returns-then-y-x-clause-more : goal.returns-then-y-x-clause-more
returns-then-y-x-clause-more c = on_ok c.push-then-y-x.result c.push-then-y-x.ensures.more (λ more. more (length c.args.arcs.now.firsts) c.requires.first)
