use Rattle.road_files.proofs.Words.{◌∙◌, ap, map, ℕ, spelled, lines_start, made_left, made_fell, made_end, fell_out, of_source, question_words}
use Rattle.road_files.proofs.writing.write_sources.Goals as goal

pub loop-source-init : goal.loop-source-init
loop-source-init g c = lines_start question_words _ (map of_source c.args.sources.now)

pub loop-source-preserved : goal.loop-source-preserved
loop-source-preserved g c = made_left question_words of_source _ _ _ _ _ c.args.sources.now c.loop-source.source-index c.source-item.result c.loop-source-test.true
    (c.as_bytes.ensures.value ∙ c.as_str.ensures.value ∙ c.fill_source.ensures ∙ ap (λ (x : ℕ). spelled (question_words (of_source x))) c.source-item.is) c.loop-source.invariant
    c.in_ok-write_bytes.ensures

pub returns-in_err-write_bytes : goal.returns-in_err-write_bytes
returns-in_err-write_bytes g c = fell_out _ _ _ _ c.from_residual.result c.from_residual.ensures.1
    (made_fell question_words of_source _ _ _ _ _ c.args.sources.now c.loop-source.source-index c.source-item.result c.loop-source-test.true
    (c.as_bytes.ensures.value ∙ c.as_str.ensures.value ∙ c.fill_source.ensures ∙ ap (λ (x : ℕ). spelled (question_words (of_source x))) c.source-item.is) c.loop-source.invariant
    c.in_err-write_bytes.ensures)

pub returns : goal.returns
returns g c = made_end question_words of_source _ _ _ c.loop-source.source-index c.args.sources.now c.loop-source-test.false c.loop-source.invariant
