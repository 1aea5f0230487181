use Rattle.worker_fleet.proofs.Words.{rules, arith, ◌≡◌, ◌+◌, length, get_or, vec_len, IsAssigned}
use Rattle.worker_fleet.proofs.Pushed.{AllPairs-push}
use Rattle.worker_fleet.proofs.fleet.start_all.Goals as goal

pub start_one-requires-clause-can : goal.start_one-requires-clause-can
start_one-requires-clause-can g c κs within =
    let was = c.loop-job.invariant in
    let h = was.left 0 c.in-Some.job in
    let step = c.in-Some.ensures.steps in
    let next : c.in-Some.job ≡ get_or c.args.jobs.items (vec_len c.loop-job.handles) c.in-Some.job = grind rules in
    rw was.number (c.requires.can (vec_len c.loop-job.handles) c.in-Some.job (omega arith) next)

pub loop-job-preserved : goal.loop-job-preserved
loop-job-preserved g c =
    let was = c.loop-job.invariant in
    let step = c.in-Some.ensures.steps in
    let push = c.push.ensures in
    let one = c.in-Some-start_one.ensures.some in
    let number : c.loop-job.worker ≡ length c.loop-job.handles.items = search rules in
    record {
      room = search rules;
      number = search rules;
      counted = search rules;
      left = λ k d below. let h = was.left (k + 1) d in grind rules;
      assigned = λ k d e below. AllPairs-push (λ i s h. IsAssigned c.args.assignment.now i s h.promise)
          c.args.jobs.items c.loop-job.handles.items c.push.new.self.items c.in-Some.job c.in-Some-start_one.handle
          (search rules) (λ d. let h = was.left 0 d in grind rules) (rw number at one) (λ i h s low. was.assigned i h s (search rules)) k d e (search rules);
    }
