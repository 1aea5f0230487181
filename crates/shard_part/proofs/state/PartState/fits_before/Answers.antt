use Rattle.std.proofs.Common.{drop}
use Rattle.shard_part.proofs.BatchFits.{before_twice, before_carried, before_alone}
use Rattle.shard_part.proofs.state.PartState.fits_before.Goals as goal

pub returns-then-carries_from : goal.returns-then-carries_from
returns-then-carries_from g c = before_twice (g.A.PathAlgebra.meaning c.args.self.now.setup.diffusion.algebra) c.args.self.now c.args.item
    (drop c.args.next c.args.batch.now.items) c.arc_of-arc.result c.carries_from.result c.arc_of-arc.ensures c.carries_from.ensures
    c.if-carries_from.true

pub returns-then-carries : goal.returns-then-carries
returns-then-carries g c = before_carried (g.A.PathAlgebra.meaning c.args.self.now.setup.diffusion.algebra) c.args.self.now c.args.item
    (drop c.args.next c.args.batch.now.items) c.arc_of-arc.result c.carries.result c.arc_of-arc.ensures c.carries.ensures c.if-carries.true

pub returns : goal.returns
returns g c = before_alone (g.A.PathAlgebra.meaning c.args.self.now.setup.diffusion.algebra) c.args.self.now c.args.item
    (drop c.args.next c.args.batch.now.items) c.arc_of-arc.result c.carries_from.result c.carries.result c.fits_alone.result c.arc_of-arc.ensures
    c.carries_from.ensures c.if-carries_from.false c.carries.ensures c.if-carries.false c.fits_alone.ensures
