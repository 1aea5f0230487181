-- A problem line and then the lines of questions, as they are written.
use Rattle.road_files.proofs.Words.{◌≡◌, ℕ, List, [], length, map, Result, subst, text_of, spelled, Asked, problem_words, question_words, questions_text}
use Rattle.text_lines.specs.Streams.{Output}
use Rattle.text_lines.specs.Written.{WrotePrefix, FailedAfterPrefix, WritesText}
use Rattle.text_lines.proofs.WriteLaws.{wrote_then, fell_first}

module _ {X : Type 0} (old mid new : Output X) (line : List ℕ) where
  -- a problem line, and then the lines of questions
  pub questions_then : {B E : Type 0} (q : Asked) (r : Result B E) → line ≡ spelled (problem_words q.kind (length q.questions)) → WrotePrefix old mid line [] →
      WritesText mid new (text_of (map question_words q.questions)) r → WritesText old new (questions_text q) r
  unfolding questions_text
  questions_then q r is was next = wrote_then old mid new (spelled (problem_words q.kind (length q.questions))) (text_of (map question_words q.questions)) r
      (subst (λ x. WrotePrefix old mid x []) is was) next

module _ {X : Type 0} (old new : Output X) (line : List ℕ) where
  pub questions_fell : (q : Asked) → line ≡ spelled (problem_words q.kind (length q.questions)) → FailedAfterPrefix old new line → FailedAfterPrefix old new (questions_text q)
  unfolding questions_text
  questions_fell q is was = fell_first old new (spelled (problem_words q.kind (length q.questions))) (text_of (map question_words q.questions)) (subst (FailedAfterPrefix old new) is was)
