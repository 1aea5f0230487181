use Rattle.road_files.proofs.Words.{◌∙◌, ℕ, ap, map, sym, length-map, spelled, Pairs, of_pair, problem_words, fell_out}
use Rattle.road_files.proofs.WrittenQuestions.{questions_then, questions_fell}
use Rattle.road_files.proofs.writing.write_p2p.Goals as goal

pub returns : goal.returns
returns g c = questions_then _ _ _ _ (record { kind = Pairs; questions = map of_pair c.args.pairs.now }) _
    (c.as_bytes.ensures.value ∙ c.as_str.ensures.value ∙ c.line_of_problem-line.ensures
    ∙ ap (λ (k : ℕ). spelled (problem_words Pairs k)) (sym (length-map c.args.pairs.now of_pair))) c.in_ok-write_bytes.ensures c.write_pairs.ensures

pub returns-in_err-write_bytes : goal.returns-in_err-write_bytes
returns-in_err-write_bytes g c = fell_out _ _ _ _ c.from_residual.result c.from_residual.ensures.1 (questions_fell _ _ _ (record { kind = Pairs; questions = map of_pair c.args.pairs.now })
    (c.as_bytes.ensures.value ∙ c.as_str.ensures.value ∙ c.line_of_problem-line.ensures
    ∙ ap (λ (k : ℕ). spelled (problem_words Pairs k)) (sym (length-map c.args.pairs.now of_pair))) c.in_err-write_bytes.ensures)
