-- What a parser of answer texts gives, by the rules.
use Rattle.answer_text.proofs.Words.{◌≡◌, ℕ, ◌+◌, List, ◌∷◌, Bool, None, Ok, Err, Result, map, sym, ap, ◌∙◌, subst, ReadFault, Slot, fields, word_in, Answers, answer_list, line_given, answer_rules}
use Rattle.text_lines.specs.declared.faults.Rule.{Rule}
use Rattle.text_lines.specs.Rules.{value_of_lines, fault_at}
use Rattle.text_lines.specs.Takes.{ShowsLine, GivesBy}
use Rattle.text_lines.proofs.ParserLaws.{gives_taken, gives_broken}
use Rattle.answer_text.specs.declared.answer_parser.AnswerParser.{AnswerParser}
use Rattle.answer_text.specs.AnswerTakes.{NumbersSoFar, answers_begun, numbers_given, GivesAnswers}
use Rattle.answer_text.proofs.HeldAnswerLines.{line_rule}

module _ (old : AnswerParser) (slots : List Slot) (l : List ℕ) (shown : ShowsLine slots l) (h : NumbersSoFar old.present (fields l)) where
  pub line_taken : (new : AnswerParser) (cut : Bool) (at : ℕ) (rest : List (List ℕ)) (r : Result Answers ReadFault) → new.n ≡ old.n
      → line_given old.n (answers_begun old) (map word_in slots) old.present.count (numbers_given old.present) ≡ Ok (answers_begun new) → GivesAnswers cut new (at + 1) rest r →
      GivesAnswers cut old at (l ∷ rest) r
  line_taken new cut at rest r same e g =
      gives_taken (answer_rules old.n) answer_list (answers_begun old) (answers_begun new) cut at l rest r (line_rule old.n (answers_begun old) old.present slots l shown h ∙ e)
      (subst (λ k. GivesBy (answer_rules k) (answers_begun new) answer_list cut (at + 1) rest r) same g)

  pub line_broken : (cut : Bool) (at : ℕ) (rest : List (List ℕ)) (rule : Rule) →
      line_given old.n (answers_begun old) (map word_in slots) old.present.count (numbers_given old.present) ≡ Err rule.number
      → GivesAnswers cut old at (l ∷ rest) (Err (fault_at at rule.number))
  line_broken cut at rest rule e = gives_broken (answer_rules old.n) answer_list (answers_begun old) cut at l rest rule.number (line_rule old.n (answers_begun old) old.present slots l shown h ∙ e)

-- what a new parser gives is the text's by the rules
module _ (s : AnswerParser) (n : ℕ) (none : answers_begun s ≡ None) (same : s.n ≡ n) where
  both : (cut : Bool) (ls : List (List ℕ)) → value_of_lines cut (answer_rules s.n) 1 (answers_begun s) ls ≡ value_of_lines cut (answer_rules n) 1 None ls
  both cut ls = ap (λ k. value_of_lines cut (answer_rules k) 1 (answers_begun s) ls) same ∙ ap (λ o. value_of_lines cut (answer_rules n) 1 o ls) none

  pub by_value : (cut : Bool) (ls : List (List ℕ)) (v : Answers) → GivesAnswers cut s 1 ls (Ok v) → value_of_lines cut (answer_rules n) 1 None ls ≡ Ok (answer_list v)
  by_value cut ls v h = sym (both cut ls) ∙ h

  pub by_fault : (cut : Bool) (ls : List (List ℕ)) (f : ReadFault) → GivesAnswers cut s 1 ls (Err f) → value_of_lines cut (answer_rules n) 1 None ls ≡ Err f
  by_fault cut ls f h = sym (both cut ls) ∙ h
