-- A service's line, as its parser takes it.
use Rattle.road_files.proofs.Words.{◌≡◌, ℕ, List, [], ◌∷◌, map, Option, None, Ok, Err, sym, ap, ◌∙◌, inl, Slot, fields, word_in, ShowsLine, QuestionParser, AskedSoFar, question_line_of, question_rules, question_end, ListSoFar, sources_given, questions_begun}
use Rattle.road_files.specs.ServiceText.{Passes, Step, given, whole_or_on, GiveMay}
use Rattle.road_files.proofs.QuestionParserLaws.{list_rule}

module _ (p : QuestionParser) (any : p.only ≡ None) (slots : List Slot) (l : List ℕ) (shown : ShowsLine slots l) (h : ListSoFar p.list (fields l)) where
  rule_is : (question_rules p.list.vertices None).line (questions_begun p) (fields l) ≡ question_line_of p.list.vertices p.only (questions_begun p)
      (map word_in slots) p.list.is_list p.list.count (sources_given p.list)
  rule_is = rw any (list_rule p.list None (questions_begun p) slots l shown h)

  -- the line is taken
  pub taken_step : (s : Option AskedSoFar) (step : Step) → question_line_of p.list.vertices p.only (questions_begun p) (map word_in slots) p.list.is_list p.list.count (sources_given p.list) ≡ Ok s
      → whole_or_on s (question_end s) ≡ step → GiveMay p.list.vertices (fields l) (questions_begun p) step
  taken_step s step e g = inl (sym (ap given (rule_is ∙ e) ∙ g))

  -- the line breaks a rule
  pub broken_step : (number : ℕ) → question_line_of p.list.vertices p.only (questions_begun p) (map word_in slots) p.list.is_list p.list.count (sources_given p.list) ≡ Err number
      → GiveMay p.list.vertices (fields l) (questions_begun p) (record { ended = Err number ∷ []; next = Passes })
  broken_step number e = inl (sym (ap given (rule_is ∙ e)))
