use Rattle.std.proofs.Common.{◌∙◌, ◌<◌, get_or, vec_len}
use Rattle.worker_fleet.proofs.Assigned.{IfOk_from, answers_assigned}
use Rattle.worker_fleet.proofs.fleet.fn.run_each.scope.Goals as goal

pub returns : goal.returns
returns g c =
    let own = c.in_ok-handles.ensures in
    let join = c.join_all.ensures in
    record {
      len = IfOk_from c.join_all.result join.started join.len join.len (λ v all n m. n ∙ own.all all);
      each = IfOk_from c.join_all.result join.started join.len join.each (λ v all n each k job r low.
          let inside : k < vec_len c.in_ok-handles.handles = rw (own.all all) low in
          let h = each k r inside in
          answers_assigned g.K.Assignment.answers c.captures.assignment.now k (get_or c.captures.jobs.items k job) h.0.promise (get_or v.items k r) (rw h.1 (own.assigned k h.0 job inside)) h.2);
    }
