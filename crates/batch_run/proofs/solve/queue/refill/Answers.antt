use Rattle.std.proofs.Common.{◌∙◌, arith, length-take}
use Rattle.std.proofs.lemmas.List.Elements.{All-take}
use Rattle.batch_run.proofs.Words.{FromSource, IsVertexOf, kind_in, questions_in, sources_to_come}
use Rattle.batch_run.proofs.NextDiffusions.{group_waits, some_wait}
use Rattle.batch_run.proofs.SourcesToCome.{some_to_come, to_come_within}
use Rattle.batch_run.proofs.solve.queue.refill.Goals as goal

pub run_together-requires-clause-sources : goal.run_together-requires-clause-sources
run_together-requires-clause-sources g c κs within =
    rw (c.deref.ensures.value, c.in_ok-sources.ensures)
    (All-take (IsVertexOf c.args.over.now.graph.now.vertices) c.args.over.now.batch.now.settings.now.width (sources_to_come (questions_in c.args.over.now) c.args.i c.args.j)
    (to_come_within c.args.over.now.graph.now.vertices c.args.over.now.batch.now.task.questions.now c.args.i c.args.j c.args.over.now.within))

pub run_together-requires-clause-cut : goal.run_together-requires-clause-cut
run_together-requires-clause-cut g c κs within = c.requires.ready.chosen.0

pub run_together-requires-clause-pace : goal.run_together-requires-clause-pace
run_together-requires-clause-pace g c κs within = c.requires.ready.chosen.2

pub run_together-requires-clause-graph : goal.run_together-requires-clause-graph
run_together-requires-clause-graph g c κs within = c.requires.ready.chosen.1

pub returns-clause-some : goal.returns-clause-some
returns-clause-some g c =
    rw c.from.ensures.0 (some_wait (g.A.PathAlgebra.meaning c.args.over.now.batch.now.task.algebra) c.args.over.now.batch.now.settings.now c.args.over.now.graph.now (kind_in c.args.over.now) (sources_to_come (questions_in c.args.over.now) c.args.i c.args.j) c.args.over.now.batch.now.settings.now.width c.in_ok-gathered.gathered.items
    (c.in_ok-gathered.ensures.sources ∙ c.deref.ensures.value ∙ c.in_ok-sources.ensures) c.args.over.now.batch.now.in_range.width.0
    (some_to_come (questions_in c.args.over.now) c.args.i c.args.j (FromSource 0) c.requires.source))

pub returns-clause-ready : goal.returns-clause-ready
returns-clause-ready g c =
    group_waits (g.A.PathAlgebra.meaning c.args.over.now.batch.now.task.algebra) c.args.over.now.batch.now.settings.now c.args.over.now.graph.now (kind_in c.args.over.now) (sources_to_come (questions_in c.args.over.now) c.args.i c.args.j) c.args.over.now.batch.now.settings.now.width _
    (rw c.from.ensures.0 (c.in_ok-gathered.ensures.sources ∙ c.deref.ensures.value ∙ c.in_ok-sources.ensures)) c.requires.ready.chosen (rw c.from.ensures.0 c.in_ok-gathered.ensures.gathered)

pub run_together-requires-clause-width : goal.run_together-requires-clause-width
run_together-requires-clause-width g c κs within =
    rw (c.deref.ensures.value, c.in_ok-sources.ensures)
    (let l = length-take c.args.over.now.batch.now.settings.now.width (sources_to_come (questions_in c.args.over.now) c.args.i c.args.j) in omega (arith, l))
