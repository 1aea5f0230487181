use Rattle.std.proofs.Common.{◌<◌, ℕ, List, [], take, length, rules, Err, ◌+◌, subst, ap, ◌∙◌}
use Rattle.service.proofs.Words.{Consumes, Asked, graph_of, MayGiveOver, Fed, FedPart, FedLong, Finished, FinishedPart}
use Rattle.service.proofs.AnswerLaws.{stays_own}
use Rattle.service.specs.declared.feeding.Unfed.{Unfed}
use Rattle.service.proofs.ServeLaws.{served_more, served_all, read_failed, feed_fell, feed_long, end_fell, flush_fell, told_none, told_served}
use Rattle.service.proofs.serving.serve.Goals as goal

pub returns-in-Ok-finish-clause-served : goal.returns-in-Ok-finish-clause-served
returns-in-Ok-finish-clause-served g c =
    let buffer : List ℕ = c.read_piece.new.buffer in
    let nothing : Consumes (g.N.Reader.RoadRead.seen c.loop.input).left (g.N.Reader.RoadRead.seen c.read_piece.new.input).left [] =
    subst (λ k. Consumes (g.N.Reader.RoadRead.seen c.loop.input).left (g.N.Reader.RoadRead.seen c.read_piece.new.input).left (take k buffer)) c.in-Ok-eq0.field-0-test c.in-Ok-eq0.ensures.bytes.0 in
    let room : 0 < length buffer = search rules in
    served_all _ c.loop.service _ _ _ _ (g.N.Writer.RoadWrite.seen c.args.out.now) (g.N.Writer.RoadWrite.seen c.flush.new.self) (g.N.Writer.RoadWrite.seen c.loop.out) (g.N.Writer.RoadWrite.seen c.finish.new.out)
    c.loop.invariant.vertices c.loop.invariant.served nothing (c.in-Ok-eq0.ensures.bytes.1 c.in-Ok-eq0.field-0-test room) c.flush.ensures.bytes c.in-Ok.ensures.sound (stays_own (g.A.PathAlgebra.meaning c.args.answers.now.algebra) c.args.answers.now.run.now.settings.now (g.T.Gate.may_answer c.args.answers.now.run.now.gate.now) c.args.solver.now c.loop.solver c.loop.invariant.same c.requires.kind
    (λ (may : Asked → List ℕ → Type 0). Finished may c.loop.service (g.N.Writer.RoadWrite.seen c.loop.out) (g.N.Writer.RoadWrite.seen c.finish.new.out)) c.in-Ok-finish.ensures.finished)

pub loop-preserved : goal.loop-preserved
loop-preserved g c = record {
  can = tt;
  finite = tt;
  served = served_more _ c.loop.service c.feed.new.self (take c.in-Ok-read_piece.n c.read_piece.new.buffer) _ _ _ (g.N.Writer.RoadWrite.seen c.flush.new.self) (g.N.Writer.RoadWrite.seen c.loop.out) (g.N.Writer.RoadWrite.seen c.feed.new.out)
      c.loop.invariant.served c.in-Ok-read_piece.ensures.bytes.0 (stays_own (g.A.PathAlgebra.meaning c.args.answers.now.algebra) c.args.answers.now.run.now.settings.now (g.T.Gate.may_answer c.args.answers.now.run.now.gate.now) c.args.solver.now c.loop.solver c.loop.invariant.same c.requires.kind
      (λ (may : Asked → List ℕ → Type 0). Fed may c.loop.service c.feed.new.self (take c.in-Ok-read_piece.n c.read_piece.new.buffer) (g.N.Writer.RoadWrite.seen c.loop.out) (g.N.Writer.RoadWrite.seen c.feed.new.out)) c.in-Ok-feed.ensures.fed);
  held = c.in-Ok-feed.ensures.passed_on (λ e. cc) c.loop.invariant.held;
  vertices = c.feed.ensures.vertices ∙ c.loop.invariant.vertices;
  same = record { graph = c.feed.ensures.same.graph ∙ c.loop.invariant.same.graph; kind = c.feed.ensures.same.kind ∙ c.loop.invariant.same.kind };
  told = told_served _ _ _ _ _ c.loop.service _ _ _ _ _ (g.N.Writer.RoadWrite.seen c.flush.new.self) (g.N.Writer.RoadWrite.seen c.loop.out) c.loop.invariant.vertices c.loop.invariant.served
      c.flush.ensures.bytes c.in-Ok.ensures.sound c.loop.invariant.held c.loop.invariant.told c.read_piece.ensures.told c.read_piece.ensures.counted;
  sound = c.in-Ok-read_piece.ensures.sound ∙ c.loop.invariant.sound;
}

pub returns-in-Err-clause-write : goal.returns-in-Err-clause-write
returns-in-Err-clause-write g c = λ is. flush_fell (MayGiveOver g.A.PathAlgebra.meaning g.T.Gate.may_answer c.args.answers.now (graph_of c.args.solver.now)) (graph_of c.args.solver.now).vertices (g.N.Reader.RoadRead.seen c.args.input.now).left
    (g.N.Writer.RoadWrite.seen c.args.out.now) (g.N.Writer.RoadWrite.seen c.flush.new.self) c.flush.ensures.bytes c.in-Err.ensures.failed

pub returns-in-Err-read_piece-clause-read : goal.returns-in-Err-read_piece-clause-read
returns-in-Err-read_piece-clause-read g c = λ is. (
  read_failed _ c.loop.service _ _ _ _ (g.N.Writer.RoadWrite.seen c.args.out.now) (g.N.Writer.RoadWrite.seen c.flush.new.self) (g.N.Writer.RoadWrite.seen c.loop.out) (g.N.Writer.RoadWrite.seen c.loop.out)
      c.loop.invariant.vertices c.loop.invariant.served c.flush.ensures.bytes c.in-Ok.ensures.sound c.in-Err-read_piece.ensures.bytes,
  c.in-Err-read_piece.ensures.failed ∙ ap (λ k. k + 1) c.loop.invariant.sound,
)

pub returns-in-Err-finish-clause-write : goal.returns-in-Err-finish-clause-write
returns-in-Err-finish-clause-write g c = λ is. end_fell _ c.loop.service _ _ _ (g.N.Reader.RoadRead.seen c.loop.input).left
    (g.N.Writer.RoadWrite.seen c.args.out.now) (g.N.Writer.RoadWrite.seen c.flush.new.self) (g.N.Writer.RoadWrite.seen c.loop.out) (g.N.Writer.RoadWrite.seen c.finish.new.out)
    c.loop.invariant.vertices c.loop.invariant.served c.flush.ensures.bytes c.in-Ok.ensures.sound (stays_own (g.A.PathAlgebra.meaning c.args.answers.now.algebra) c.args.answers.now.run.now.settings.now (g.T.Gate.may_answer c.args.answers.now.run.now.gate.now) c.args.solver.now c.loop.solver c.loop.invariant.same c.requires.kind
    (λ (may : Asked → List ℕ → Type 0). FinishedPart may c.loop.service (g.N.Writer.RoadWrite.seen c.loop.out) (g.N.Writer.RoadWrite.seen c.finish.new.out)) c.in-Err-finish.ensures.fell)

pub returns-in-Err-Write-clause-write : goal.returns-in-Err-Write-clause-write
returns-in-Err-Write-clause-write g c = λ is.
    feed_fell _ c.loop.service _ _ _ _ (g.N.Writer.RoadWrite.seen c.args.out.now) (g.N.Writer.RoadWrite.seen c.flush.new.self) (g.N.Writer.RoadWrite.seen c.loop.out) (g.N.Writer.RoadWrite.seen c.feed.new.out)
    c.loop.invariant.vertices c.loop.invariant.served c.flush.ensures.bytes c.in-Ok.ensures.sound
    c.feed.new.self (take c.in-Ok-read_piece.n c.read_piece.new.buffer) (c.feed.ensures.vertices ∙ c.loop.invariant.vertices) c.in-Ok-read_piece.ensures.bytes.0
    (stays_own (g.A.PathAlgebra.meaning c.args.answers.now.algebra) c.args.answers.now.run.now.settings.now (g.T.Gate.may_answer c.args.answers.now.run.now.gate.now) c.args.solver.now c.loop.solver c.loop.invariant.same c.requires.kind
    (λ (may : Asked → List ℕ → Type 0). FedPart may c.loop.service c.feed.new.self (take c.in-Ok-read_piece.n c.read_piece.new.buffer) (g.N.Writer.RoadWrite.seen c.loop.out) (g.N.Writer.RoadWrite.seen c.feed.new.out)) (c.feed.ensures.fell (c.in-Err-Write.is ∙ ap (λ (e : Unfed). Err e) c.in-Err-Write.field-0-is)))

pub returns-in-Err-TooLong-clause-long : goal.returns-in-Err-TooLong-clause-long
returns-in-Err-TooLong-clause-long g c = λ is.
    feed_long _ c.loop.service _ _ _ _ (g.N.Writer.RoadWrite.seen c.args.out.now) (g.N.Writer.RoadWrite.seen c.flush.new.self) (g.N.Writer.RoadWrite.seen c.loop.out) (g.N.Writer.RoadWrite.seen c.feed.new.out)
    c.loop.invariant.vertices c.loop.invariant.served c.flush.ensures.bytes c.in-Ok.ensures.sound
    c.feed.new.self (take c.in-Ok-read_piece.n c.read_piece.new.buffer) (c.feed.ensures.vertices ∙ c.loop.invariant.vertices) c.in-Ok-read_piece.ensures.bytes.0
    (stays_own (g.A.PathAlgebra.meaning c.args.answers.now.algebra) c.args.answers.now.run.now.settings.now (g.T.Gate.may_answer c.args.answers.now.run.now.gate.now) c.args.solver.now c.loop.solver c.loop.invariant.same c.requires.kind
    (λ (may : Asked → List ℕ → Type 0). FedLong may c.loop.service c.feed.new.self (take c.in-Ok-read_piece.n c.read_piece.new.buffer) (g.N.Writer.RoadWrite.seen c.loop.out) (g.N.Writer.RoadWrite.seen c.feed.new.out)) (c.feed.ensures.long (c.in-Err-TooLong.is ∙ ap (λ (e : Unfed). Err e) c.in-Err-TooLong.field-0-is)))

pub returns-in-Err-clause-told : goal.returns-in-Err-clause-told
returns-in-Err-clause-told g c = told_none _ _ _ _ _ _

pub returns-in-Ok-finish-clause-told : goal.returns-in-Ok-finish-clause-told
returns-in-Ok-finish-clause-told g c =
    told_served _ _ _ _ _ c.loop.service _ _ _ _ _ (g.N.Writer.RoadWrite.seen c.flush.new.self) (g.N.Writer.RoadWrite.seen c.loop.out) c.loop.invariant.vertices c.loop.invariant.served
    c.flush.ensures.bytes c.in-Ok.ensures.sound c.loop.invariant.held c.loop.invariant.told c.read_piece.ensures.told c.read_piece.ensures.counted

pub returns-in-Err-read_piece-clause-told : goal.returns-in-Err-read_piece-clause-told
returns-in-Err-read_piece-clause-told g c =
    told_served _ _ _ _ _ c.loop.service _ _ _ _ _ (g.N.Writer.RoadWrite.seen c.flush.new.self) (g.N.Writer.RoadWrite.seen c.loop.out) c.loop.invariant.vertices c.loop.invariant.served
    c.flush.ensures.bytes c.in-Ok.ensures.sound c.loop.invariant.held c.loop.invariant.told c.read_piece.ensures.told c.read_piece.ensures.counted

pub returns-in-Err-finish-clause-told : goal.returns-in-Err-finish-clause-told
returns-in-Err-finish-clause-told g c =
    told_served _ _ _ _ _ c.loop.service _ _ _ _ _ (g.N.Writer.RoadWrite.seen c.flush.new.self) (g.N.Writer.RoadWrite.seen c.loop.out) c.loop.invariant.vertices c.loop.invariant.served
    c.flush.ensures.bytes c.in-Ok.ensures.sound c.loop.invariant.held c.loop.invariant.told c.read_piece.ensures.told c.read_piece.ensures.counted

pub returns-in-Err-Write-clause-told : goal.returns-in-Err-Write-clause-told
returns-in-Err-Write-clause-told g c =
    told_served _ _ _ _ _ c.loop.service _ _ _ _ _ (g.N.Writer.RoadWrite.seen c.flush.new.self) (g.N.Writer.RoadWrite.seen c.loop.out) c.loop.invariant.vertices c.loop.invariant.served
    c.flush.ensures.bytes c.in-Ok.ensures.sound c.loop.invariant.held c.loop.invariant.told c.read_piece.ensures.told c.read_piece.ensures.counted

pub returns-in-Err-TooLong-clause-told : goal.returns-in-Err-TooLong-clause-told
returns-in-Err-TooLong-clause-told g c =
    told_served _ _ _ _ _ c.loop.service _ _ _ _ _ (g.N.Writer.RoadWrite.seen c.flush.new.self) (g.N.Writer.RoadWrite.seen c.loop.out) c.loop.invariant.vertices c.loop.invariant.served
    c.flush.ensures.bytes c.in-Ok.ensures.sound c.loop.invariant.held c.loop.invariant.told c.read_piece.ensures.told c.read_piece.ensures.counted
