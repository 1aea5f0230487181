-- A question's line, as its parser takes it.
use Rattle.road_files.proofs.Words.{◌≡◌, ℕ, ◌+◌, List, ◌∷◌, map, Bool, Option, None, Result, Ok, Err, ◌∙◌, arith, subst, ReadFault, Slot, fields, word_in, word_of, gives_taken, gives_broken, Kind, Questions, PresentList, QuestionParser, asked_of, AskedSoFar, question_line, question_line_of, question_rules}
use Rattle.std.specs.Result.{IfOk}
use Rattle.text_lines.specs.declared.faults.Rule.{Rule}
use Rattle.text_lines.specs.Rules.{value_of_lines, fault_at}
use Rattle.text_lines.specs.Takes.{ShowsLine, GivesBy}
use Rattle.road_files.specs.QuestionTakes.{ListSoFar, sources_given, questions_begun, FitsFile, GivesQuestions}
use Rattle.road_files.proofs.HeldQuestionLines.{question_line_kept}

-- the rule of the line is that of its slots and of the list that was kept
pub list_rule : (list : PresentList) (only : Option Kind) (s : Option AskedSoFar) (slots : List Slot) (l : List ℕ) → ShowsLine slots l → ListSoFar list (fields l)
    → question_line list.vertices only s (map word_of (fields l)) ≡ question_line_of list.vertices only s (map word_in slots) list.is_list list.count (sources_given list)
list_rule list only s slots l shown h = question_line_kept list.vertices only s (map word_in slots) (fields l) list.is_list list.count (sources_given list)
    (omega (arith, list.few)) shown h.letter h.count h.sources

module _ (old : QuestionParser) (slots : List Slot) (l : List ℕ) (shown : ShowsLine slots l) (h : ListSoFar old.list (fields l)) where
  rule : question_line old.list.vertices old.only (questions_begun old) (map word_of (fields l)) ≡ question_line_of old.list.vertices old.only (questions_begun old)
      (map word_in slots) old.list.is_list old.list.count (sources_given old.list)
  rule = list_rule old.list old.only (questions_begun old) slots l shown h

  -- a line that the parser takes
  pub line_taken : (n : ℕ) (only : Option Kind) (s : Option AskedSoFar) (cut : Bool) (at : ℕ) (rest : List (List ℕ)) (r : Result Questions ReadFault) → n ≡ old.list.vertices → only ≡ old.only
      → question_line_of old.list.vertices old.only (questions_begun old) (map word_in slots) old.list.is_list old.list.count (sources_given old.list) ≡ Ok s
      → GivesBy (question_rules n only) s asked_of cut (at + 1) rest r × IfOk r (FitsFile n only) → GivesQuestions cut old at (l ∷ rest) r
  line_taken n only s cut at rest r same_n same_only e g =
      let moved : GivesBy (question_rules old.list.vertices old.only) s asked_of cut (at + 1) rest r × IfOk r (FitsFile old.list.vertices old.only) =
      subst (λ o. GivesBy (question_rules old.list.vertices o) s asked_of cut (at + 1) rest r × IfOk r (FitsFile old.list.vertices o)) same_only
      (subst (λ m. GivesBy (question_rules m only) s asked_of cut (at + 1) rest r × IfOk r (FitsFile m only)) same_n g) in
      (gives_taken (question_rules old.list.vertices old.only) asked_of (questions_begun old) s cut at l rest r (rule ∙ e) moved.0, moved.1)

  -- a line that breaks a rule
  pub line_broken : (cut : Bool) (at : ℕ) (rest : List (List ℕ)) (broken : Rule)
      → question_line_of old.list.vertices old.only (questions_begun old) (map word_in slots) old.list.is_list old.list.count (sources_given old.list) ≡ Err broken.number
      → GivesQuestions cut old at (l ∷ rest) (Err (fault_at at broken.number))
  line_broken cut at rest broken e = (gives_broken (question_rules old.list.vertices old.only) asked_of (questions_begun old) cut at l rest broken.number (rule ∙ e), tt)

-- what a new parser gives is the text's by the rules
module _ (s : QuestionParser) (none : questions_begun s ≡ None) (n : ℕ) (only : Option Kind) (same_n : s.list.vertices ≡ n) (same_only : s.only ≡ only) where
  pub by_value : (cut : Bool) (ls : List (List ℕ)) (q : Questions) → GivesQuestions cut s 1 ls (Ok q) → value_of_lines cut (question_rules n only) 1 None ls ≡ Ok (asked_of q)
  by_value cut ls q h = subst (λ o. value_of_lines cut (question_rules n o) 1 None ls ≡ Ok (asked_of q)) same_only
      (subst (λ m. value_of_lines cut (question_rules m s.only) 1 None ls ≡ Ok (asked_of q)) same_n
      (subst (λ b. value_of_lines cut (question_rules s.list.vertices s.only) 1 b ls ≡ Ok (asked_of q)) none h.0))

  pub by_fault : (cut : Bool) (ls : List (List ℕ)) (f : ReadFault) → GivesQuestions cut s 1 ls (Err f) → value_of_lines cut (question_rules n only) 1 None ls ≡ Err f
  by_fault cut ls f h = subst (λ o. value_of_lines cut (question_rules n o) 1 None ls ≡ Err f) same_only
      (subst (λ m. value_of_lines cut (question_rules m s.only) 1 None ls ≡ Err f) same_n (subst (λ b. value_of_lines cut (question_rules s.list.vertices s.only) 1 b ls ≡ Err f) none h.0))

  pub by_fit : (cut : Bool) (ls : List (List ℕ)) (q : Questions) → GivesQuestions cut s 1 ls (Ok q) → FitsFile n only q
  by_fit cut ls q h = subst (λ o. FitsFile n o q) same_only (subst (λ m. FitsFile m s.only q) same_n h.1)
