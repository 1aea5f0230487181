use Rattle.worker_fleet.proofs.Words.{rules, ◌≡◌, ◌∙◌, [], refl, sym, append-nil, get_or, into_iter_items}
use Rattle.worker_fleet.proofs.PushedAt.{deal_more, share_none}
use Rattle.worker_fleet.proofs.dealing.deal_all.Goals as goal

pub loop-things-init : goal.loop-things-init
loop-things-init g c =
    let gives = c.into_iter-things-iterator.ensures.into_iter_gives in
    record {
      next = (tt, tt);
      counted = search rules;
      len = c.in_ok-shares.ensures.len;
      dealt = λ w d h.
          let none : (get_or c.in_ok-shares.shares.items w d).items ≡ [] = c.in_ok-shares.ensures.empty w d (search rules) in
          rw (none, gives.0) (refl);
    }

pub loop-things-preserved : goal.loop-things-preserved
loop-things-preserved g c =
    let was = c.loop-things.invariant in
    let step = c.in-Some.ensures.steps in
    let dealt = c.in_ok-deal.ensures.dealt in
    record {
      next = was.next;
      counted = search rules;
      len = c.deal.ensures.len ∙ was.len;
      dealt = λ w d h.
          let pushed = rw (was.len, c.begins_at.ensures.worker) at (dealt w d (search rules)) in
          deal_more c.args.rule c.args.workers w c.loop-things.group c.in-Some.things _ _ _ _ step.0 pushed ∙ was.dealt w d h;
    }

pub returns-clause-dealt : goal.returns-clause-dealt
returns-clause-dealt g c = λ w d h.
    let none = share_none c.args.rule c.args.workers w c.loop-things.group (into_iter_items c.loop-things.things-iterator)
    (let e = c.in-None.ensures.steps in let o = c.loop-things.things-iterator.rest.ok in search rules) in
    sym (append-nil _) ∙ (rw none at (c.loop-things.invariant.dealt w d h))
