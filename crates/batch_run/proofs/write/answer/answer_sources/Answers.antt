use Rattle.batch_run.proofs.Words.{refl, sym, wrote_then, fell_first, fell_out, SourcesAnswer, answer_text, written_lines}
use Rattle.batch_run.proofs.WrittenLines.{lines_are_right}
use Rattle.batch_run.proofs.write.answer.answer_sources.Goals as goal

pub returns-in_err-write_sources_line : goal.returns-in_err-write_sources_line
unfolding answer_text
returns-in_err-write_sources_line g c = λ roads count best branches.
    let A = g.A.PathAlgebra.meaning c.args.algebra in
    let right = lines_are_right A roads c.args.sources.now c.args.solved.0.now c.args.solved.1.now c.args.n (sym count) best branches in (
      SourcesAnswer c.args.sources.now (written_lines A c.args.solved.0.now c.args.solved.1.now c.args.n),
      (refl, right),
      fell_out _ _ _ _ c.from_residual.result c.from_residual.ensures.1 (fell_first _ _ _ _ c.in_err-write_sources_line.ensures),
    )

pub returns : goal.returns
unfolding answer_text
returns g c = λ roads count best branches.
    let A = g.A.PathAlgebra.meaning c.args.algebra in
    let right = lines_are_right A roads c.args.sources.now c.args.solved.0.now c.args.solved.1.now c.args.n (sym count) best branches in (
      SourcesAnswer c.args.sources.now (written_lines A c.args.solved.0.now c.args.solved.1.now c.args.n),
      (refl, right),
      wrote_then _ _ _ _ _ c.write_lines.result c.in_ok-write_sources_line.ensures c.write_lines.ensures,
    )
