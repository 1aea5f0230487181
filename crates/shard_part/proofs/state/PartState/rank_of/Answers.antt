use Rattle.std.proofs.Common.{arith}
use Rattle.shard_part.proofs.Graphs.{arc_in_graph}
use Rattle.shard_part.proofs.Pumping.{rank_found}
use Rattle.shard_part.proofs.state.PartState.rank_of.Goals as goal

pub rank-requires : goal.rank-requires
rank-requires g c = arc_in_graph _ c.args.self.now _ _ _ c.args.a c.self.view_is c.self.invariant c.requires (λ y. absurd (omega (arith, y)))

pub returns-clause-inside : goal.returns-clause-inside
returns-clause-inside g c = (rank_found (g.A.PathAlgebra.meaning c.args.self.now.setup.diffusion.algebra) _ c.args.self.now _ _ _ c.args.a
    c.rank.result c.self.view_is c.self.invariant c.requires (λ y. absurd (omega (arith, y))) c.rank.ensures).0

pub returns-clause-arc : goal.returns-clause-arc
returns-clause-arc g c = (rank_found (g.A.PathAlgebra.meaning c.args.self.now.setup.diffusion.algebra) _ c.args.self.now _ _ _ c.args.a c.rank.result
    c.self.view_is c.self.invariant c.requires (λ y. absurd (omega (arith, y))) c.rank.ensures).1
