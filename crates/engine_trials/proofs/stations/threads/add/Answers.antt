use Rattle.engine_trials.proofs.Words.{◌≡◌, ◌++◌, ◌∷◌, [], sym, subst, rules, All, All-push, BelongsTo}
use Rattle.engine_trials.proofs.stations.threads.add.Goals as goal

pub returns : goal.returns
returns g c =
    let f = c.args.floor.now in let was = c.args.stations.now.items in
    let pushed : c.push.new.self.items ≡ was ++ c.args.station ∷ [] = search rules in
    subst (All (BelongsTo f)) (sym pushed) (All-push (BelongsTo f) was c.args.station c.requires.all c.requires.own)
