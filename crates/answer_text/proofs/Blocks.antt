-- Answers in a row, and the last line of one.
use Rattle.answer_text.proofs.Words.{◌≡◌, ℕ, ◌+◌, ◌<◌, List, [], ◌∷◌, ◌++◌, length, drop, get_or, map, Result, sym, ap, ◌∙◌, drop-cons, add-one, append-nil, subst, length-map, spelled, text_of, Output, wrote_then, left_step, fell_step, fell_first, answer_text, answers_text, blocks_text, header_text, Answers, AnswerData, answer_data, answer_list}
use Rattle.text_lines.specs.Written.{WrotePrefix, FailedAfterPrefix, WritesText}
use Rattle.answer_text.specs.declared.answers.Answer.{Answer}

pub blocks_next : (i : ℕ) (answers : List Answer) (d : Answer) → i < length answers
    → blocks_text (map answer_data (drop i answers)) ≡ answer_text (answer_data (get_or answers i d)) ++ blocks_text (map answer_data (drop (i + 1) answers))
blocks_next i answers d lt = ap (λ as'. blocks_text (map answer_data as')) (drop-cons answers i d lt)
    ∙ ap (λ k. answer_text (answer_data (get_or answers i d)) ++ blocks_text (map answer_data (drop k answers))) (sym (add-one i))

-- the last line of a text
pub list_last : {B E X : Type 0} (old mid new : Output X) (x : List ℕ) (words : List (List ℕ)) (r : Result B E)
    → WrotePrefix old mid x [] → WritesText mid new (spelled words) r → WritesText old new (x ++ text_of (words ∷ [])) r
list_last old mid new x words r was next = wrote_then old mid new x (text_of (words ∷ [])) r was (subst (λ t. WritesText mid new t r) (sym (append-nil (spelled words))) next)

module _ {X : Type 0} (old mid new : Output X) (text line : List ℕ) (answers : List Answer) (i : ℕ) (d : Answer) (lt : i < length answers)
    (is : line ≡ answer_text (answer_data (get_or answers i d)))
    (was : WrotePrefix old mid text (blocks_text (map answer_data (drop i answers)))) where
  pub answer_left : WrotePrefix mid new line [] → WrotePrefix old new text (blocks_text (map answer_data (drop (i + 1) answers)))
  answer_left piece = left_step old mid new text (blocks_text (map answer_data (drop i answers))) (answer_text (answer_data (get_or answers i d))) line
      (blocks_text (map answer_data (drop (i + 1) answers))) (blocks_next i answers d lt) is was piece

  pub answer_fell : FailedAfterPrefix mid new line → FailedAfterPrefix old new text
  answer_fell piece = fell_step old mid new text (blocks_text (map answer_data (drop i answers))) (answer_text (answer_data (get_or answers i d))) line
      (blocks_text (map answer_data (drop (i + 1) answers))) (blocks_next i answers d lt) is was piece

-- the header, and then the answers
pub header_then : {B E X : Type 0} (old mid new : Output X) (answers : Answers) (items : List Answer) (count : ℕ) (r : Result B E) → items ≡ answers.list.items →
    count ≡ length answers.list.items
    → WrotePrefix old mid (header_text answers.kind count answers.name) [] → WritesText mid new (blocks_text (map answer_data items)) r → WritesText old new (answers_text (answer_list answers)) r
header_then old mid new answers items count r same is was next =
    let told : List AnswerData = map answer_data answers.list.items in
    wrote_then old mid new (header_text answers.kind (length told) answers.name) (blocks_text told) r
    (subst (λ k. WrotePrefix old mid (header_text answers.kind k answers.name) []) (is ∙ sym (length-map answers.list.items answer_data)) was)
    (subst (λ xs. WritesText mid new (blocks_text (map answer_data xs)) r) same next)

-- the header was cut short
pub header_fell : {X : Type 0} (old new : Output X) (answers : Answers) (count : ℕ) → count ≡ length answers.list.items →
    FailedAfterPrefix old new (header_text answers.kind count answers.name) → FailedAfterPrefix old new (answers_text (answer_list answers))
header_fell old new answers count is was =
    let told : List AnswerData = map answer_data answers.list.items in
    fell_first old new (header_text answers.kind (length told) answers.name) (blocks_text told)
    (subst (λ k. FailedAfterPrefix old new (header_text answers.kind k answers.name)) (is ∙ sym (length-map answers.list.items answer_data)) was)
