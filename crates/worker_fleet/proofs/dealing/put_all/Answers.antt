use Rattle.worker_fleet.proofs.Words.{rules, ◌<◌, ◌∙◌, ◌+◌, sym, append-nil, length, into_iter_items}
use Rattle.worker_fleet.proofs.PushedAt.{put_step, put_none}
use Rattle.worker_fleet.proofs.dealing.put_all.Goals as goal

pub loop-group-preserved : goal.loop-group-preserved
loop-group-preserved g c =
    let was = c.loop-group.invariant in
    let step = c.in-Some.ensures.steps in
    let put = c.in_ok-push_at.ensures.put in
    let low : c.in-Some.group < length c.loop-group.lists.items = let h = was.within 0 (c.in-Some.group, c.in-Some.thing) in grind rules in
    record {
      next = was.next;
      len = c.push_at.ensures.len ∙ was.len;
      within = λ k d low. let h = was.within (k + 1) d in grind rules;
      put = λ q d h. put_step q c.in-Some.group c.in-Some.thing _ _ _ _ d low put step.0 ∙ was.put q d h;
    }

pub returns-clause-put : goal.returns-clause-put
returns-clause-put g c = λ q d h.
    let none = put_none q (into_iter_items c.loop-group.group-iterator)
    (let e = c.in-None.ensures.steps in let o = c.loop-group.group-iterator.rest.ok in search rules) in
    sym (append-nil _) ∙ (rw none at (c.loop-group.invariant.put q d h))
