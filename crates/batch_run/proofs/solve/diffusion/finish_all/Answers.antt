use Rattle.batch_run.proofs.Words.{rules, ◌≡◌, refl, true, StationData, moved_on, moved_all}
use Rattle.worker_fleet.proofs.Carried.{All-first, All-rest}
use Rattle.batch_run.proofs.solve.diffusion.finish_all.Goals as goal

pub loop-station-init : goal.loop-station-init
loop-station-init g c =
    let gives = c.into_iter-station-iterator.ensures.into_iter_gives in
    record { next = (tt, tt); all = rw (c.new-finished.ensures.items, gives.0) refl; ended = rw gives.0 c.requires }

pub unreachable-requires : goal.unreachable-requires
unreachable-requires g c =
    c.in_default.ensures.back.0 (All-first (λ (s : StationData g.row.A.Denot g.row.A-Value.Denot). s.ended ≡ true) _ _ c.in-Some.station c.in-Some.ensures.steps.0 c.loop-station.invariant.ended)

pub loop-station-preserved : goal.loop-station-preserved
loop-station-preserved g c =
    let was = c.loop-station.invariant in
    let step = c.in-Some.ensures.steps in
    record {
      next = was.next;
      all = moved_on _ _ _ was.all _ _ c.in-Some.station c.in-Ok.done c.in_ok-push.ensures.items c.in-Ok.ensures.finished.1 step.0;
      ended = All-rest (λ (s : StationData g.row.A.Denot g.row.A-Value.Denot). s.ended ≡ true) _ _ c.in-Some.station step.0 was.ended;
    }

pub returns : goal.returns
returns g c = moved_all _ _ _ c.loop-station.invariant.all (let e = c.in-None.ensures.steps in let o = c.loop-station.station-iterator.rest.ok in search rules)
