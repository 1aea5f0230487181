use Rattle.engine_trials.proofs.Words.{◌≡◌, ◌++◌, ◌∷◌, [], Some, sym, subst, rules, All, All-pop, All-push, BelongsTo}
use Rattle.engine_trials.proofs.stations.refusals.last_but_one.Goals as goal

pub returns : goal.returns
returns g c =
    let f = c.args.floor.now in let last = c.expect-last.result in let taken = c.expect-taken.result in
    let first : c.args.done.now.items ≡ c.pop.new.self.items ++ last ∷ [] = search rules in
    let second : c.pop.new.self.items ≡ c.pop-2.new.self.items ++ taken ∷ [] = search rules in
    let pushed : c.push.new.self.items ≡ c.pop-2.new.self.items ++ last ∷ [] = search rules in
    let one = All-pop (BelongsTo f) c.args.done.now.items c.pop.new.self.items (Some last) first c.requires in
    let two = All-pop (BelongsTo f) c.pop.new.self.items c.pop-2.new.self.items (Some taken) second one.0 in
    record { others = subst (All (BelongsTo f)) (sym pushed) (All-push (BelongsTo f) c.pop-2.new.self.items last two.0 one.1); taken = two.1 }
