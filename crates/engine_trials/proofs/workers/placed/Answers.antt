use Rattle.engine_trials.proofs.Words.{◌≡◌, ◌++◌, ◌∷◌, [], refl, sym, subst, rules, All, All-push, BelongsTo, IsOnItsFloor}
use Rattle.worker_fleet.proofs.Carried.{All-first, All-rest}
use Rattle.engine_trials.proofs.workers.placed.Goals as goal

pub loop-station-init : goal.loop-station-init
loop-station-init g c =
    let gives = c.into_iter-station-iterator.ensures.into_iter_gives in
    record { next = (tt, tt); left = rw (gives.0) c.requires; placed = λ k d low. absurd (let none = c.new-placed.ensures in search rules) }

pub loop-station-preserved : goal.loop-station-preserved
loop-station-preserved g c =
    let was = c.loop-station.invariant in
    let step = c.in-Some.ensures.steps in
    let floor = c.args.floor.now in
    let s = c.in-Some.station in
    let pushed : c.push.new.self.items ≡ c.loop-station.placed.items ++ (0, s) ∷ [] = search rules in
    record {
      next = was.next;
      left = All-rest (BelongsTo floor) _ _ s step.0 was.left;
      placed = subst (All (IsOnItsFloor (floor ∷ []))) (sym pushed) (All-push (IsOnItsFloor (floor ∷ [])) c.loop-station.placed.items (0, s) was.placed
          (record { floor = floor; is_floor = refl; own = All-first (BelongsTo floor) _ _ s step.0 was.left }));
    }
