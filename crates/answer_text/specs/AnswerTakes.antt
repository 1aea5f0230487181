-- The state of the parser of an answer text, in the terms of the rules.
use Rattle.std.specs.Prelude.{◌≡◌, ℕ, ◌<◌, ◌⊎◌, min, ◌||◌, List, [], ◌∷◌, ◌++◌, length, drop, map, Bool, true, false, Option, Some, None, option_map, Result, Ok, Err, codes, bytes_eq}
use Rattle.text_lines.specs.declared.faults.ReadFault.{ReadFault}
use Rattle.text_lines.specs.declared.faults.Rule.{Rule}
use Rattle.text_lines.specs.Rules.{◌>>=◌}
use Rattle.text_lines.specs.Takes.{GivesBy}
use Rattle.text_lines.specs.Meaning.{Meaning}
use Rattle.text_lines.specs.Words.{word_of}
use Rattle.answer_text.specs.declared.answers.Answers.{Answers}
use Rattle.answer_text.specs.declared.present_numbers.PresentNumbers.{PresentNumbers}
use Rattle.answer_text.specs.declared.answers_builder.Awaited.{Awaited}
use Rattle.answer_text.specs.declared.answers_builder.Awaited.TheVariants as awaits
use Rattle.answer_text.specs.declared.answers_builder.AnswersBuilder.{AnswersBuilder}
use Rattle.answer_text.specs.declared.answer_parser.AnswerParser.{AnswerParser}
use Rattle.answer_text.specs.AnswerData.{answer_data, answer_list}
use Rattle.answer_text.specs.AnswerFiles.{Stage, Between, InLines, AfterPair, AfterFound, OneSource, ManySources, AnswersSoFar, answer_number, numbers_in, answer_rules}

-- the numbers that were listed, or the first fault among them
abbrev pub numbers_or : Option Rule → List ℕ → Result (List ℕ) ℕ
numbers_or None numbers = Ok numbers
numbers_or (Some rule) numbers = Err rule.number

-- what the numbers of the present line give so far
abbrev pub numbers_given : PresentNumbers → Result (List ℕ) ℕ
numbers_given l = numbers_or l.broken l.numbers.items

-- these numbers and one more, or the first fault
abbrev pub one_number_more : Result (List ℕ) ℕ → Option ℕ → Result (List ℕ) ℕ
one_number_more numbers o = numbers >>= λ vs. answer_number 4294967295 o >>= λ v. Ok (vs ++ v ∷ [])

-- whether the first field is `r` or `m`
abbrev pub begins_numbers : List (List ℕ) → Bool
begins_numbers [] = false
begins_numbers (f ∷ fs) = bytes_eq f (codes "r") || bytes_eq f (codes "m")

-- whether the first field is `r`
abbrev pub begins_route : List (List ℕ) → Bool
begins_route [] = false
begins_route (f ∷ fs) = bytes_eq f (codes "r")

-- these are the fields of the present line so far; the numbers are unspecified if a list of sources
-- is too long
pub record NumbersSoFar (l : PresentNumbers) (fs : List (List ℕ)) : Type 0 where
  pub count_is : l.count ≡ min (length fs) 1026
  pub letter_is : l.is_list ≡ begins_numbers fs
  pub route_is : l.is_route ≡ begins_route fs
  pub numbers_are : l.is_list ≡ true → (l.is_route ≡ true) ⊎ (length fs < 1026) → numbers_in (drop 1 (map word_of fs)) ≡ numbers_given l

-- which line is expected
abbrev pub stage_at : AnswersBuilder → Awaited → Stage
stage_at t awaits.Between = Between
stage_at t (awaits.Source source) = InLines (OneSource source) t.lines.items
stage_at t awaits.Sources = InLines (ManySources t.sources.items) t.lines.items
stage_at t (awaits.Pair source target) = AfterPair source target
stage_at t (awaits.Found source target code hops) = AfterFound source target code hops

-- the answers that were taken, and the line that is expected
abbrev pub answers_so_far : AnswersBuilder → AnswersSoFar
answers_so_far t = record { kind = t.kind; name = t.name; announced = t.announced; list = map answer_data t.list.items; stage = stage_at t t.awaited }

-- the same, if a header was read
abbrev pub answers_begun : AnswerParser → Option AnswersSoFar
answers_begun s = option_map answers_so_far s.begun

-- the lines from a line number on give this
abbrev pub GivesAnswers : Bool → AnswerParser → ℕ → List (List ℕ) → Result Answers ReadFault → Type 0
GivesAnswers cut s at ls r = GivesBy (answer_rules s.n) (answers_begun s) answer_list cut at ls r

-- the numbers of a list are kept before its line ends
abbrev pub answer_meaning : Meaning AnswerParser Answers
answer_meaning = record { gives = GivesAnswers; so_far = λ s fs. NumbersSoFar s.present fs }
