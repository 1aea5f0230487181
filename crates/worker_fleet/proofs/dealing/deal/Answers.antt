use Rattle.worker_fleet.proofs.Words.{rules, ◌≡◌, ◌<◌, ◌∙◌, sym, append-nil, vec_len, length, into_iter_items, following}
use Rattle.worker_fleet.proofs.PushedAt.{deal_step, dealt_none}
use Rattle.worker_fleet.proofs.dealing.deal.Goals as goal

pub loop-thing-preserved : goal.loop-thing-preserved
loop-thing-preserved g c =
    let was = c.loop-thing.invariant in
    let step = c.in-Some.ensures.steps in
    let put = c.in_ok-push_at.ensures.put in
    let low : c.loop-thing.worker < length c.loop-thing.shares.items = search rules in
    let same : c.next_of-worker.result ≡ following (vec_len c.args.shares.now) c.loop-thing.worker = search rules in
    record {
      next = was.next;
      worker = search rules;
      len = c.push_at.ensures.len ∙ was.len;
      dealt = λ w d h. rw same (deal_step _ w c.loop-thing.worker c.args.group c.in-Some.thing _ _ _ _ d low put step.0 ∙ was.dealt w d h);
    }

pub returns-clause-dealt : goal.returns-clause-dealt
returns-clause-dealt g c = λ w d h.
    let none = dealt_none (vec_len c.args.shares.now) w c.loop-thing.worker c.args.group (into_iter_items c.loop-thing.thing-iterator)
    (let e = c.in-None.ensures.steps in let o = c.loop-thing.thing-iterator.rest.ok in search rules) in
    sym (append-nil _) ∙ (rw none at (c.loop-thing.invariant.dealt w d h))
