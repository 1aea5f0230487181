use Rattle.engine_trials.proofs.Words.{sym, subst, All, BelongsTo}
use Rattle.engine_trials.proofs.stations.gathering.gathered.Goals as goal

pub gathered_again-requires-after_bounds : goal.gathered_again-requires-after_bounds
gathered_again-requires-after_bounds g c κs within =
    let r = c.in-Err.ensures.refused in
    subst (λ f. All (BelongsTo f) c.in-Err.back.stations.items) (sym r.0) (subst (All (BelongsTo c.args.floor)) (sym r.1) c.requires)
