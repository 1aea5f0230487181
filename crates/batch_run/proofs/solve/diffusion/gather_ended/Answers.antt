use Rattle.batch_run.proofs.Words.{◌<◌, refl, subst, SetupData}
use Rattle.station.specs.Gather.{IsGatherFault}
use Rattle.station.specs.declared.gathering.GatherFault.{GatherFault}
use Rattle.batch_run.proofs.Reporting.{are_best, has_source, is_account}
use Rattle.batch_run.proofs.Together.{not_missing}
use Rattle.batch_run.proofs.solve.diffusion.gather_ended.Goals as goal

pub gather-requires-after_bounds : goal.gather-requires-after_bounds
gather-requires-after_bounds g c κs within = rw c.in_ok-finished.ensures c.requires.ended.own

pub solve_ahead-requires-clause-source : goal.solve_ahead-requires-clause-source
solve_ahead-requires-clause-source g c κs within =
    has_source g.A.PathAlgebra.meaning c.args.over.now c.args.plan.now c.args.ended c.in-Ok.gathered c.requires.ended c.in-Ok.ensures.gathered.1

pub solve_ahead-requires-clause-labels : goal.solve_ahead-requires-clause-labels
solve_ahead-requires-clause-labels g c κs within =
    are_best g.A.PathAlgebra.meaning c.args.over.now c.args.plan.now c.args.ended c.in-Ok.gathered c.requires.ended c.in-Ok.ensures.gathered.1

pub returns-in-Ok : goal.returns-in-Ok
returns-in-Ok g c =
    let found = c.in-Ok.ensures.gathered.1 in (
      record {
        labelling = c.solve_ahead.ensures;
        account = is_account g.A.PathAlgebra.meaning c.args.over.now c.args.plan.now c.args.ended c.in-Ok.gathered c.requires.ended found c.requires.plan;
      },
      refl,
      rw c.in_ok-finished.ensures at c.in-Ok.ensures.counted,
    )

pub unreachable-requires : goal.unreachable-requires
unreachable-requires g c =
    let stations = c.in_ok-finished.finished.items in
    let why = subst (λ (w : GatherFault). IsGatherFault c.args.ended.floor.setup.plan.shards stations w) c.in-Missing.is c.in-Err.ensures.refused.2 in
    let low = subst (λ (t : SetupData g.row.A.Denot). c.in-Missing.field-0 < t.plan.shards) c.requires.ended.setup why.0 in
    not_missing c.in-Missing.field-0 stations (rw c.in_ok-finished.ensures (c.requires.ended.all c.in-Missing.field-0 low)) why.1
