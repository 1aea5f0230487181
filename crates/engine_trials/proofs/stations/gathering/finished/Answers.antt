use Rattle.engine_trials.proofs.Words.{◌≡◌, ◌++◌, ◌∷◌, [], Some, sym, subst, rules, All, BelongsTo}
use Rattle.std.proofs.lemmas.List.Elements.{All-pop, All-from_all_within, AllWithin-push, AllWithin-from_all}
use Rattle.engine_trials.proofs.stations.gathering.finished.Goals as goal

pub loop-station-preserved : goal.loop-station-preserved
loop-station-preserved g c =
    let f = c.args.floor.now in let i = c.loop-station.invariant in let done = c.loop-station.done.items in let s = c.in-Ok.station in
    let pushed : c.push.new.self.items ≡ done ++ s ∷ [] = search rules in
    let both = All-pop (BelongsTo f) c.loop-station.stations.items c.pop.new.self.items (Some c.in-Some.station) c.in-Some.ensures.items i.left in
    record {
      left = both.0;
      taken = subst (All (BelongsTo f)) (sym pushed) (All-from_all_within (BelongsTo f) (done ++ s ∷ [])
          (AllWithin-push (BelongsTo f) done s (AllWithin-from_all (BelongsTo f) done i.taken) (subst (BelongsTo f) (sym c.in-Ok.ensures.finished.1) both.1)));
    }
