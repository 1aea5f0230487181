use Rattle.road_files.proofs.Words.{◌∙◌, ℕ, ap, map, sym, length-map, spelled, Sources, of_source, problem_words, fell_out}
use Rattle.road_files.proofs.WrittenQuestions.{questions_then, questions_fell}
use Rattle.road_files.proofs.writing.write_ss.Goals as goal

pub returns : goal.returns
returns g c = questions_then _ _ _ _ (record { kind = Sources; questions = map of_source c.args.sources.now }) _
    (c.as_bytes.ensures.value ∙ c.as_str.ensures.value ∙ c.line_of_problem-line.ensures
    ∙ ap (λ (k : ℕ). spelled (problem_words Sources k)) (sym (length-map c.args.sources.now of_source))) c.in_ok-write_bytes.ensures c.write_sources.ensures

pub returns-in_err-write_bytes : goal.returns-in_err-write_bytes
returns-in_err-write_bytes g c = fell_out _ _ _ _ c.from_residual.result c.from_residual.ensures.1
    (questions_fell _ _ _ (record { kind = Sources; questions = map of_source c.args.sources.now })
    (c.as_bytes.ensures.value ∙ c.as_str.ensures.value ∙ c.line_of_problem-line.ensures
    ∙ ap (λ (k : ℕ). spelled (problem_words Sources k)) (sym (length-map c.args.sources.now of_source))) c.in_err-write_bytes.ensures)
