use Rattle.std.proofs.Common.{inl}
use Rattle.worker_fleet.proofs.NextOpen.{all_ended, next_found}
use Rattle.worker_fleet.proofs.driving.next_open.Goals as goal

pub returns-in-Some-clause-some : goal.returns-in-Some-clause-some
returns-in-Some-clause-some g c = let e = c.in-Some.ensures in record { inside = e.within.1; here = e.here; nearest = inl (e.within.0, e.first) }

pub returns-in-None-clause-none : goal.returns-in-None-clause-none
returns-in-None-clause-none g c = all_ended c.args.stations.now c.args.at c.requires c.in-None.ensures.none c.first_open-in-None.result c.first_open-in-None.ensures.none

pub returns-in-None-clause-some : goal.returns-in-None-clause-some
returns-in-None-clause-some g c = let e = c.first_open-in-None.ensures in
    next_found c.args.stations.now c.args.at c.requires c.in-None.ensures.none c.first_open-in-None.result e.within e.here e.first
