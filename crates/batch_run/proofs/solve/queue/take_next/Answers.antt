use Rattle.batch_run.proofs.Words.{◌+◌, FromSource, kind_in, questions_in, sources_to_come}
use Rattle.batch_run.proofs.NextDiffusions.{taken}
use Rattle.batch_run.proofs.SourcesToCome.{has_next}
use Rattle.batch_run.proofs.solve.queue.take_next.Goals as goal

pub returns : goal.returns
returns g c =
    let over = c.args.over.now in
    let source = has_next (questions_in over) c.args.i c.args.j (FromSource 0) c.requires.source in
    let left = sources_to_come (questions_in over) c.args.i (c.args.j + 1) in
    let were = c.in_ok-refill.ensures.ready in
    let found = taken (g.A.PathAlgebra.meaning over.batch.now.task.algebra) over.batch.now.settings.now over.graph.now (kind_in over) _ left source.0 c.refill.new.queue (record c.refill.new.queue { waiting = c.pop_front.new.self }) c.in-Some.next source.1
    were c.in-Some.ensures.items were.chosen in
    record { next = found.0; gathered = found.1; ready = found.2; stops = tt }
