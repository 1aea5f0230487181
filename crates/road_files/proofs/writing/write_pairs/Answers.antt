use Rattle.road_files.proofs.Words.{◌∙◌, ap, map, ℕ, spelled, lines_start, made_left, made_fell, made_end, fell_out, of_pair, question_words}
use Rattle.road_files.proofs.writing.write_pairs.Goals as goal

pub loop-pair-init : goal.loop-pair-init
loop-pair-init g c = lines_start question_words _ (map of_pair c.args.pairs.now)

pub loop-pair-preserved : goal.loop-pair-preserved
loop-pair-preserved g c = made_left question_words of_pair _ _ _ _ _ c.args.pairs.now c.loop-pair.pair-index c.pair-item.result c.loop-pair-test.true
    (c.as_bytes.ensures.value ∙ c.as_str.ensures.value ∙ c.fill_pair.ensures ∙ ap (λ (x : ℕ × ℕ). spelled (question_words (of_pair x))) c.pair-item.is) c.loop-pair.invariant
    c.in_ok-write_bytes.ensures

pub returns-in_err-write_bytes : goal.returns-in_err-write_bytes
returns-in_err-write_bytes g c = fell_out _ _ _ _ c.from_residual.result c.from_residual.ensures.1
    (made_fell question_words of_pair _ _ _ _ _ c.args.pairs.now c.loop-pair.pair-index c.pair-item.result c.loop-pair-test.true
    (c.as_bytes.ensures.value ∙ c.as_str.ensures.value ∙ c.fill_pair.ensures ∙ ap (λ (x : ℕ × ℕ). spelled (question_words (of_pair x))) c.pair-item.is) c.loop-pair.invariant
    c.in_err-write_bytes.ensures)

pub returns : goal.returns
returns g c = made_end question_words of_pair _ _ _ c.loop-pair.pair-index c.args.pairs.now c.loop-pair-test.false c.loop-pair.invariant
