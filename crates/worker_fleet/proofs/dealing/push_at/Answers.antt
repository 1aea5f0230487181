use Rattle.worker_fleet.proofs.Words.{rules, ◌∙◌, refl, ap, ◌++◌, ◌∷◌, [], get_or_default}
use Rattle.worker_fleet.proofs.dealing.push_at.Goals as goal

pub returns-clause-put : goal.returns-clause-put
returns-clause-put g c = record {
  list = c.push.new.self;
  set_there = refl;
  pushed = λ d.
      let same = get_or_default c.args.lists.now.items c.args.at c.index_mut.result.now d (search rules) in
      c.in_ok-push.ensures.items ∙ ap (λ l. l.items ++ c.args.value ∷ []) (c.index_mut.ensures.value ∙ same);
}
