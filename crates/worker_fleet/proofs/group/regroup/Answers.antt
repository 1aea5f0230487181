use Rattle.worker_fleet.proofs.Words.{rules, ◌≡◌, ◌<◌, ◌∙◌, [], refl, sym, append-nil, get_or, into_iter_items, All, Driven}
use Rattle.worker_fleet.proofs.Carried.{All-first, All-rest}
use Rattle.worker_fleet.proofs.Gathered.{gathered_more, gathered_none}
use Rattle.worker_fleet.proofs.group.regroup.Goals as goal

pub put_all-requires : goal.put_all-requires
put_all-requires g c =
    let was = c.loop-driven.invariant in
    rw was.len (All-first (λ (r : Driven g.row.A.Denot g.row.A-Value.Denot). All (λ p. p.0 < c.args.width) r.stations.items) _ _ c.in-Some.driven c.in-Some.ensures.steps.0 was.within)

pub loop-driven-init : goal.loop-driven-init
loop-driven-init g c =
    let gives = c.into_iter-driven-iterator.ensures.into_iter_gives in
    record {
      next = (tt, tt);
      len = c.in_ok-lists.ensures.len;
      within = rw (gives.0) c.requires;
      put = λ q d h.
          let none : (get_or c.in_ok-lists.lists.items q d).items ≡ [] = c.in_ok-lists.ensures.empty q d (let n = c.in_ok-lists.ensures.len in search rules) in
          rw (none, gives.0) refl;
    }

pub loop-driven-preserved : goal.loop-driven-preserved
loop-driven-preserved g c =
    let was = c.loop-driven.invariant in
    let step = c.in-Some.ensures.steps in
    let put = c.in_ok-put_all.ensures.put in
    record {
      next = was.next;
      len = c.put_all.ensures.len ∙ was.len;
      within = All-rest (λ (r : Driven g.row.A.Denot g.row.A-Value.Denot). All (λ p. p.0 < c.args.width) r.stations.items) _ _ c.in-Some.driven step.0 was.within;
      put = λ q d h. gathered_more q c.in-Some.driven _ _ _ _ step.0 (put q d (rw was.len h)) ∙ was.put q d h;
    }

pub returns-clause-put : goal.returns-clause-put
returns-clause-put g c = λ q d h.
    let none = gathered_none q (into_iter_items c.loop-driven.driven-iterator)
    (let e = c.in-None.ensures.steps in let o = c.loop-driven.driven-iterator.rest.ok in search rules) in
    sym (append-nil _) ∙ (rw none at (c.loop-driven.invariant.put q d h))
