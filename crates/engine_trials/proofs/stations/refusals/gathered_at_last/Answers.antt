use Rattle.engine_trials.proofs.Words.{◌≡◌, ◌++◌, ◌∷◌, [], sym, subst, rules, All, All-push, BelongsTo}
use Rattle.engine_trials.proofs.stations.refusals.gathered_at_last.Goals as goal

pub gathered-requires-after_bounds : goal.gathered-requires-after_bounds
gathered-requires-after_bounds g c κs within =
    let f = c.args.floor in let r = c.refused-back.ensures in let s = c.last_but_one-taken.result in let back = c.refused-back.result.1.items in
    let pushed : c.push.new.self.items ≡ back ++ s ∷ [] = search rules in
    subst (λ z. All (BelongsTo z) c.push.new.self.items) (sym r.floor) (subst (All (BelongsTo f)) (sym pushed)
    (All-push (BelongsTo f) back s (subst (All (BelongsTo f)) (sym r.stations) c.last_but_one-taken.ensures.others) c.last_but_one-taken.ensures.taken))
