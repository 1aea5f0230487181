-- What is kept of a line is enough for the rules of an answer text.
use Rattle.std.proofs.Common.{◌≡◌, ℕ, ◌+◌, ◌<◌, min, List, [], ◌∷◌, length, take, drop, map, Option, Some, None, Result, Bool, true, false, ◌&&◌, nat_lt, ◌⊎◌, inl, inr, refl, sym, ap, ◌∙◌, arith, lit<, codes}
use Rattle.std.proofs.lemmas.Bool.{cases_lt, lt-ltb, le-ltb, or_left, or_right}
use Rattle.std.proofs.lemmas.Bool.Decides.{nat_tests}
use Rattle.answer_text.proofs.Words.{length-map, name_of_text, Slot, fields, word_in, ShowsLine, Word, word_of, word_at, Kind, Sources, Pairs, Multi, PresentNumbers, NumbersSoFar, begins_numbers, begins_route, numbers_given}
use Rattle.std.specs.Str.{bytes_eq}
use Rattle.text_lines.proofs.WordLaws.{Keeps, keeps, short_word, first_byte, number_held}
use Rattle.road_files.proofs.HeldQuestionLines.{kind_held}
use Rattle.answer_text.specs.AnswerFiles.{Stage, Between, InLines, AfterPair, AfterFound, AnswersSoFar, numbers_in, begins, header_line, source_line, pair_line, list_line, sources_line, route_line, reached_line, unreached_line, vertex_line, value_line, none_line, found_line, heading_line, answer_line, told_after, line_given, line_read}

name_held : (w : List ℕ) → name_of_text (take 9 w) ≡ name_of_text w
name_held w = rw (
  short_word w (codes "shortest") (lit< tt),
  short_word w (codes "widest") (lit< tt),
  short_word w (codes "reach") (lit< tt),
  short_word w (codes "hops") (lit< tt),
  short_word w (codes "reliable") (lit< tt),
  short_word w (codes "within") (lit< tt),
  short_word w (codes "own") (lit< tt),
) refl

module _ (kept ws : List Word) (h : Keeps kept ws) where
  begins_held : (word : List ℕ) → length word < 9 → begins word kept ≡ begins word ws
  begins_held word short = rw (h.word 0 (lit< tt)) (short_word (word_at 0 ws).text word short)

  header_held : header_line kept ≡ header_line ws
  unfolding header_line
  header_held = rw (
    h.count 5 (lit< tt),
    h.word 1 (lit< tt),
    h.word 2 (lit< tt),
    h.word 3 (lit< tt),
    h.word 4 (lit< tt),
    short_word (word_at 1 ws).text (codes "ans") (lit< tt),
    kind_held (word_at 2 ws).text,
    name_held (word_at 4 ws).text,
    number_held 34 35 1048576 (word_at 3 ws).number (lit< tt),
  ) refl

  source_held : source_line kept ≡ source_line ws
  unfolding source_line
  source_held = rw (h.count 2 (lit< tt), begins_held (codes "s") (lit< tt), h.word 1 (lit< tt), number_held 34 35 4294967295 (word_at 1 ws).number (lit< tt)) refl

  pair_held : pair_line kept ≡ pair_line ws
  unfolding pair_line
  pair_held = rw (
    h.count 3 (lit< tt),
    begins_held (codes "q") (lit< tt),
    h.word 1 (lit< tt),
    h.word 2 (lit< tt),
    number_held 34 35 4294967295 (word_at 1 ws).number (lit< tt),
    number_held 34 35 4294967295 (word_at 2 ws).number (lit< tt),
  ) refl

  reached_held : (v : ℕ) → reached_line v kept ≡ reached_line v ws
  unfolding reached_line
  reached_held v = rw (
    h.count 5 (lit< tt),
    h.word 1 (lit< tt),
    h.word 2 (lit< tt),
    h.word 3 (lit< tt),
    h.word 4 (lit< tt),
    number_held 34 35 4294967295 (word_at 1 ws).number (lit< tt),
    number_held 34 35 18446744073709551615 (word_at 2 ws).number (lit< tt),
    number_held 34 35 4294967295 (word_at 3 ws).number (lit< tt),
    number_held 34 35 4294967295 (word_at 4 ws).number (lit< tt),
  ) refl

  unreached_held : (v : ℕ) → unreached_line v kept ≡ unreached_line v ws
  unfolding unreached_line
  unreached_held v = rw (h.count 2 (lit< tt), h.word 1 (lit< tt), number_held 34 35 4294967295 (word_at 1 ws).number (lit< tt)) refl

  vertex_held : (v : ℕ) → vertex_line v kept ≡ vertex_line v ws
  unfolding vertex_line
  vertex_held v = rw (begins_held (codes "d") (lit< tt), begins_held (codes "u") (lit< tt), reached_held v, unreached_held v) refl

  value_held : value_line kept ≡ value_line ws
  unfolding value_line
  value_held = rw (
    h.count 3 (lit< tt),
    h.word 1 (lit< tt),
    h.word 2 (lit< tt),
    number_held 34 35 18446744073709551615 (word_at 1 ws).number (lit< tt),
    number_held 34 35 4294967295 (word_at 2 ws).number (lit< tt),
  ) refl

  none_held : none_line kept ≡ none_line ws
  unfolding none_line
  none_held = rw (h.count 1 (lit< tt)) refl

  found_held : found_line kept ≡ found_line ws
  unfolding found_line
  found_held = rw (begins_held (codes "d") (lit< tt), begins_held (codes "u") (lit< tt), value_held, none_held) refl

  sources_held : (m : ℕ) (q : Result (List ℕ) ℕ) → sources_line kept m q ≡ sources_line ws m q
  unfolding sources_line
  sources_held m q = rw (begins_held (codes "m") (lit< tt)) refl

  route_held : (m : ℕ) (q : Result (List ℕ) ℕ) → route_line kept m q ≡ route_line ws m q
  unfolding route_line
  route_held m q = rw (begins_held (codes "r") (lit< tt)) refl

  module _ (n m : ℕ) (q : Result (List ℕ) ℕ) where
    question_held : (s : AnswersSoFar) (kind : Kind) → heading_line n s kept m q kind ≡ heading_line n s ws m q kind
    question_held s Sources = rw source_held refl
    question_held s Pairs = rw pair_held refl
    question_held s Multi = rw (sources_held m q) refl

    answer_held : (s : AnswersSoFar) (stage : Stage) → answer_line n s kept m q stage ≡ answer_line n s ws m q stage
    answer_held s Between = rw (question_held s s.kind) refl
    answer_held s (InLines named lines) = rw (vertex_held (length lines + 1)) refl
    answer_held s (AfterPair source target) = rw found_held refl
    answer_held s (AfterFound source target code hops) = rw (route_held m q) refl

    told_held : (s : Option AnswersSoFar) → told_after n s kept m q ≡ told_after n s ws m q
    told_held None = rw (begins_held (codes "p") (lit< tt), header_held) refl
    told_held (Some s) = rw (answer_held s s.stage) refl

    line_held : (s : Option AnswersSoFar) → line_given n s kept m q ≡ line_given n s ws m q
    unfolding line_given
    line_held s = rw (h.count 0 (lit< tt), h.word 0 (lit< tt), first_byte (word_at 0 ws).text, told_held s) refl

-- where the letter is another the numbers do not matter
list_same : (letter : Bool) (c d : Bool) (p q : Result (List ℕ) ℕ) → c ≡ d → (letter ≡ true → c ≡ true → p ≡ q) → list_line letter c p ≡ list_line letter d q
list_same false c d p q e h = refl
list_same true false d p q e h = rw (← e) refl
list_same true true d p q e h = rw (← e, h refl refl) refl

-- so many are not too many
few_fields : (n : ℕ) → (nat_lt 1 n && nat_lt n 1026) ≡ true → n < 1026
few_fields n e = grind (arith, nat_tests)

few_same : (n m : ℕ) → m ≡ min n 1026 → (nat_lt 1 n && nat_lt n 1026) ≡ (nat_lt 1 m && nat_lt m 1026)
few_same n m e = elim (cases_lt n 1026) [
  | inl lt ↦ let same : n ≡ m = omega arith in ap (λ k. nat_lt 1 k && nat_lt k 1026) same
  | inr ge ↦ let big : m ≡ 1026 = omega arith in rw (big, le-ltb n 1026 ge, lt-ltb 1 n (omega arith)) refl
]

some_same : (n m : ℕ) → m ≡ min n 1026 → nat_lt 1 n ≡ nat_lt 1 m
some_same n m e = elim (cases_lt 1 n) [
  | inl lt ↦ rw (lt-ltb 1 n lt, lt-ltb 1 m (omega arith)) refl
  | inr ge ↦ rw (le-ltb 1 n ge, le-ltb 1 m (omega arith)) refl
]

-- only the number of fields up to a limit matters, and the numbers only of a list
module _ (n : ℕ) (ws : List Word) (m : ℕ) (p q : Result (List ℕ) ℕ) (e : m ≡ min (length ws) 1026) (pm : begins (codes "m") ws ≡ true → length ws < 1026 → p ≡ q)
    (pr : begins (codes "r") ws ≡ true → p ≡ q) where
  sources_same : sources_line ws (length ws) p ≡ sources_line ws m q
  unfolding sources_line
  sources_same = list_same (begins (codes "m") ws) _ _ p q (few_same (length ws) m e) (λ on few. pm on (few_fields (length ws) few))

  route_same : route_line ws (length ws) p ≡ route_line ws m q
  unfolding route_line
  route_same = list_same (begins (codes "r") ws) _ _ p q (some_same (length ws) m e) (λ on _. pr on)

  question_same : (s : AnswersSoFar) (kind : Kind) → heading_line n s ws (length ws) p kind ≡ heading_line n s ws m q kind
  question_same s Sources = refl
  question_same s Pairs = refl
  question_same s Multi = rw sources_same refl

  answer_same : (s : AnswersSoFar) (stage : Stage) → answer_line n s ws (length ws) p stage ≡ answer_line n s ws m q stage
  answer_same s Between = rw (question_same s s.kind) refl
  answer_same s (InLines named lines) = refl
  answer_same s (AfterPair source target) = refl
  answer_same s (AfterFound source target code hops) = rw route_same refl

  told_same : (s : Option AnswersSoFar) → told_after n s ws (length ws) p ≡ told_after n s ws m q
  told_same None = refl
  told_same (Some s) = rw (answer_same s s.stage) refl

  given_same : (s : Option AnswersSoFar) → line_given n s ws (length ws) p ≡ line_given n s ws m q
  unfolding line_given
  given_same s = rw (told_same s) refl

begun_by_m : (fs : List (List ℕ)) → begins (codes "m") (map word_of fs) ≡ true → begins_numbers fs ≡ true
begun_by_m [] e = e
begun_by_m (f ∷ fs) e = or_right (bytes_eq f (codes "r")) (bytes_eq f (codes "m")) e

begun_by_r : (fs : List (List ℕ)) → begins (codes "r") (map word_of fs) ≡ true → begins_numbers fs ≡ true
begun_by_r [] e = e
begun_by_r (f ∷ fs) e = or_left (bytes_eq f (codes "r")) (bytes_eq f (codes "m")) e

route_by_r : (fs : List (List ℕ)) → begins (codes "r") (map word_of fs) ≡ true → begins_route fs ≡ true
route_by_r [] e = e
route_by_r (f ∷ fs) e = e

-- the rule of the line is that of its slots and of the list that was kept
pub line_rule : (n : ℕ) (s : Option AnswersSoFar) (l : PresentNumbers) (slots : List Slot) (line : List ℕ) → ShowsLine slots line → NumbersSoFar l (fields line)
    → line_read n s (map word_of (fields line)) ≡ line_given n s (map word_in slots) l.count (numbers_given l)
line_rule n s l slots line shown h =
    let ws : List Word = map word_of (fields line) in
    let many : length ws ≡ length (fields line) = length-map (fields line) word_of in
    let same : begins_numbers (fields line) ≡ true → (l.is_route ≡ true) ⊎ (length (fields line) < 1026) → numbers_in (drop 1 ws) ≡ numbers_given l = λ on. h.numbers_are (h.letter_is ∙ on) in
    given_same n ws l.count (numbers_in (drop 1 ws)) (numbers_given l) (h.count_is ∙ ap (λ k. min k 1026) (sym many)) (λ on few. same (begun_by_m (fields line) on) (inr (omega (arith, few, many))))
    (λ on. same (begun_by_r (fields line) on) (inl (h.route_is ∙ route_by_r (fields line) on))) s
    ∙ sym (line_held (map word_in slots) ws (keeps (map word_in slots) (fields line) shown) n l.count (numbers_given l) s)
