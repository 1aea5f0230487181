use Rattle.road_files.proofs.Words.{◌∙◌, ℕ, ap, map, sym, length-map, spelled, Multi, of_list, problem_words, fell_out}
use Rattle.road_files.proofs.WrittenQuestions.{questions_then, questions_fell}
use Rattle.road_files.proofs.writing.write_ms.Goals as goal

pub returns : goal.returns
returns g c = questions_then _ _ _ _ (record { kind = Multi; questions = map of_list c.args.lists.now }) _
    (c.as_bytes.ensures.value ∙ c.as_str.ensures.value ∙ c.line_of_problem-line.ensures
    ∙ ap (λ (k : ℕ). spelled (problem_words Multi k)) (sym (length-map c.args.lists.now of_list))) c.in_ok-write_bytes.ensures c.write_lists.ensures

pub returns-in_err-write_bytes : goal.returns-in_err-write_bytes
returns-in_err-write_bytes g c = fell_out _ _ _ _ c.from_residual.result c.from_residual.ensures.1 (questions_fell _ _ _ (record { kind = Multi; questions = map of_list c.args.lists.now })
    (c.as_bytes.ensures.value ∙ c.as_str.ensures.value ∙ c.line_of_problem-line.ensures
    ∙ ap (λ (k : ℕ). spelled (problem_words Multi k)) (sym (length-map c.args.lists.now of_list))) c.in_err-write_bytes.ensures)
