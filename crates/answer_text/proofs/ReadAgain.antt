-- Answers that are written are read again.
use Rattle.answer_text.proofs.Words.{◌≡◌, ℕ, suc, ◌+◌, ◌<◌, ◌≤◌, ◌^◌, List, [], ◌∷◌, ◌++◌, length, map, Option, Some, None, Ok, Result, false, decimal, refl, sym, ap, ◌∙◌, subst, arith, codes, append_assoc, append-nil, length-append, length-map, AlgebraName, ReadFault, word_of, Kind, Sources, Pairs, Multi, Reached, AnswerData, SourceAnswer, PairAnswer, SourcesAnswer, AnswerList, AreSmall, IsLineWritable, AreLinesWritable, IsAnswerWritable, AreWritable}
use Rattle.std.proofs.lemmas.Bool.{eq-eqb, ne_eqb, lt-ltb, le-ltb}
use Rattle.std.specs.List.{AllByRecursion, join_with_byte}
use Rattle.path_algebra.specs.declared.name.AlgebraName.TheVariants as names
use Rattle.path_algebra.specs.Names.{name_text, name_of_text}
use Rattle.text_lines.specs.Lines.{lines, number}
use Rattle.text_lines.specs.Rules.{value_of_lines, text_value, text_read}
use Rattle.text_lines.specs.Texts.{spelled, text_of, IsWord, list_words}
use Rattle.text_lines.proofs.RoundTrip.{decimal_is_number, fields_join, lines_text, word_of_number, word_by_test}
use Rattle.road_files.specs.QuestionFiles.{kind_named}
use Rattle.road_files.specs.WrittenQuestions.{kind_word}
use Rattle.answer_text.specs.AnswerText.{header_words, source_words, pair_words, found_words, vertex_words, vertex_lines, answer_lines, answer_text, blocks_text, header_text, answers_text}
use Rattle.answer_text.specs.AnswerFiles.{Named, OneSource, ManySources, Between, InLines, AfterPair, AfterFound, AnswersSoFar, numbers_in, header_line, source_line, pair_line, sources_line, route_line, reached_line, unreached_line, vertex_line, value_line, none_line, found_line, with_answer, with_stage, with_lines, told_lines, line_given, line_read, answer_rules}

small_word : (n : ℕ) → n < 2 ^ 32 → IsWord (decimal n)
small_word n h = word_of_number n (omega arith)

small_number : (n : ℕ) → n < 2 ^ 32 → number (decimal n) ≡ Some n
small_number n h = decimal_is_number n (omega arith)

number_words : (ns : List ℕ) → AreSmall ns → AllByRecursion IsWord (map decimal ns)
number_words [] h = tt
number_words (n ∷ ns) h = (small_word n h.0, number_words ns h.1)

numbers_again : (ns : List ℕ) → AreSmall ns → numbers_in (map word_of (map decimal ns)) ≡ Ok ns
numbers_again [] h = refl
numbers_again (n ∷ ns) h = let lt : n < 2 ^ 32 = h.0 in rw (small_number n lt, le-ltb 4294967295 n (omega arith), numbers_again ns h.1) refl

kind_is_word : (kind : Kind) → IsWord (kind_word kind)
kind_is_word Sources = word_by_test (codes "ss") refl
kind_is_word Pairs = word_by_test (codes "p2p") refl
kind_is_word Multi = word_by_test (codes "ms") refl

name_is_word : (name : AlgebraName) → IsWord (name_text name)
name_is_word names.Shortest = word_by_test (codes "shortest") refl
name_is_word names.Widest = word_by_test (codes "widest") refl
name_is_word names.Reach = word_by_test (codes "reach") refl
name_is_word names.Hops = word_by_test (codes "hops") refl
name_is_word names.Reliable = word_by_test (codes "reliable") refl
name_is_word names.Within = word_by_test (codes "within") refl
name_is_word names.Own = word_by_test (codes "own") refl

header_are_words : (kind : Kind) (k : ℕ) (name : AlgebraName) → k ≤ 1048576 → AllByRecursion IsWord (header_words kind k name)
header_are_words kind k name h = (word_by_test (codes "p") refl, (word_by_test (codes "ans") refl, (kind_is_word kind, (small_word k (omega arith), (name_is_word name, tt)))))

vertex_are_words : (v : ℕ) (x : Option Reached) → v < 2 ^ 32 → IsLineWritable x → AllByRecursion IsWord (vertex_words v x)
vertex_are_words v None lt h = (word_by_test (codes "u") refl, (small_word v lt, tt))
vertex_are_words v (Some r) lt h = (word_by_test (codes "d") refl, (small_word v lt, (word_of_number r.code h.0, (small_word r.hops h.1, (small_word r.parent h.2, tt)))))

-- what is read so far, between two answers
abbrev between : Kind → AlgebraName → ℕ → List AnswerData → AnswersSoFar
between kind name k list = record { kind = kind; name = name; announced = k; list = list; stage = Between }

module _ (n : ℕ) (result : Result AnswerList ReadFault) where
  -- these lines, behind what was read, give the result
  abbrev Goes : Option AnswersSoFar → List (List (List ℕ)) → Type 0
  Goes s ls = (at : ℕ) → value_of_lines false (answer_rules n) at s (map (join_with_byte 32) ls) ≡ result

  step : (s t : Option AnswersSoFar) (ws : List (List ℕ)) (more : List (List (List ℕ))) → AllByRecursion IsWord ws → line_read n s (map word_of ws) ≡ Ok t → Goes t more → Goes s (ws ∷ more)
  step s t ws more words e h at = rw (fields_join ws words, e) (h (at + 1))

  vertex_again : (s : AnswersSoFar) (named : Named) (done : List (Option Reached)) (v : ℕ) (x : Option Reached) → v ≡ length done + 1 → v < 2 ^ 32 → IsLineWritable x
      → line_read n (Some (with_stage s (InLines named done))) (map word_of (vertex_words v x)) ≡ Ok (Some (with_lines n s named (done ++ x ∷ [])))
  unfolding line_given vertex_line reached_line unreached_line
  vertex_again s named done v None e lt h = rw (small_number v lt, le-ltb 4294967295 v (omega arith), eq-eqb v (length done + 1) e) refl
  vertex_again s named done v (Some r) e lt h =
      let code : r.code < 2 ^ 64 = h.0 in
      let hops : r.hops < 2 ^ 32 = h.1 in
      let parent : r.parent < 2 ^ 32 = h.2 in
      rw (
        small_number v lt,
        decimal_is_number r.code code,
        small_number r.hops hops,
        small_number r.parent parent,
        le-ltb 4294967295 v (omega arith),
        le-ltb 18446744073709551615 r.code (omega arith),
        le-ltb 4294967295 r.hops (omega arith),
        le-ltb 4294967295 r.parent (omega arith),
        eq-eqb v (length done + 1) e,
      ) refl

  lines_again : (s : AnswersSoFar) (named : Named) (done rest : List (Option Reached)) (v : ℕ) (more : List (List (List ℕ))) → v ≡ length done + 1 → length done + length rest ≡ n → n < 2 ^ 32
      → AllByRecursion IsLineWritable rest → Goes (Some (with_answer s (told_lines named (done ++ rest)))) more → Goes (Some (with_lines n s named done)) (vertex_lines v rest ++ more)
  lines_again s named done [] v more e all small h go = λ at.
      rw (eq-eqb (length done) n (omega arith)) (subst (λ xs. Goes (Some (with_answer s (told_lines named xs))) more) (append-nil done) go at)
  lines_again s named done (x ∷ rest) v more e all small h go = λ at.
      rw (ne_eqb (length done) n (λ p. omega arith))
      (step (Some (with_stage s (InLines named done))) (Some (with_lines n s named (done ++ x ∷ []))) (vertex_words v x) (vertex_lines (v + 1) rest ++ more) (vertex_are_words v x (omega arith) h.0)
      (vertex_again s named done v x e (omega arith) h.0)
      (lines_again s named (done ++ x ∷ []) rest (v + 1) more (omega (arith, length-append done (x ∷ []))) (omega (arith, length-append done (x ∷ []))) small h.1
      (subst (λ xs. Goes (Some (with_answer s (told_lines named xs))) more) (sym (append_assoc done (x ∷ []) rest)) go)) at)

  module _ (name : AlgebraName) (k : ℕ) (list : List AnswerData) (room : length list < k) where
    source_again : (s : ℕ) → s < 2 ^ 32 → line_read n (Some (between Sources name k list)) (map word_of (source_words s)) ≡ Ok (Some (with_lines n (between Sources name k list) (OneSource s) []))
    unfolding line_given source_line
    source_again s lt = rw (lt-ltb (length list) k room, small_number s lt, le-ltb 4294967295 s (omega arith)) refl

    pair_again : (s t : ℕ) → s < 2 ^ 32 → t < 2 ^ 32 → line_read n (Some (between Pairs name k list)) (map word_of (pair_words s t)) ≡ Ok
        (Some (with_stage (between Pairs name k list) (AfterPair s t)))
    unfolding line_given pair_line
    pair_again s t ls lt = rw (lt-ltb (length list) k room, small_number s ls, small_number t lt, le-ltb 4294967295 s (omega arith), le-ltb 4294967295 t (omega arith)) refl

    sources_again : (ss : List ℕ) → 1 ≤ length ss → length ss ≤ 1024 → AreSmall ss
        → line_read n (Some (between Multi name k list)) (map word_of (list_words (codes "m") ss)) ≡ Ok (Some (with_lines n (between Multi name k list) (ManySources ss) []))
    unfolding line_given sources_line
    sources_again ss some few small = rw (
      lt-ltb (length list) k room,
      numbers_again ss small,
      length-map (map decimal ss) word_of,
      length-map ss decimal,
      ne_eqb (suc (length ss)) 0 (λ e. omega arith),
      lt-ltb 1 (suc (length ss)) (omega arith),
      lt-ltb (suc (length ss)) 1026 (omega arith),
    ) refl

    none_again : (s t : ℕ) → line_read n (Some (with_stage (between Pairs name k list) (AfterPair s t))) (map word_of (codes "u" ∷ [])) ≡ Ok
        (Some (with_answer (between Pairs name k list) (PairAnswer s t None)))
    unfolding line_given found_line none_line
    none_again s t = refl

    value_again : (s t code hops : ℕ) → code < 2 ^ 64 → hops < 2 ^ 32
        → line_read n (Some (with_stage (between Pairs name k list) (AfterPair s t))) (map word_of (found_words code hops)) ≡ Ok
        (Some (with_stage (between Pairs name k list) (AfterFound s t code hops)))
    unfolding line_given found_line value_line
    value_again s t code hops lc lh = rw (decimal_is_number code lc, small_number hops lh, le-ltb 18446744073709551615 code (omega arith), le-ltb 4294967295 hops (omega arith)) refl

    route_again : (s t code hops : ℕ) (route : List ℕ) → 1 ≤ length route → AreSmall route
        → line_read n (Some (with_stage (between Pairs name k list) (AfterFound s t code hops))) (map word_of (list_words (codes "r") route))
        ≡ Ok (Some (with_answer (between Pairs name k list) (PairAnswer s t (Some (record { code = code; hops = hops; route = route })))))
    unfolding line_given route_line
    route_again s t code hops route some small = rw (
      numbers_again route small,
      length-map (map decimal route) word_of,
      length-map route decimal,
      ne_eqb
          (suc (length route)) 0 (λ e. omega arith),
      lt-ltb 1 (suc (length route)) (omega arith),
    ) refl

    answer_again : (kind : Kind) (t : AnswerData) (more : List (List (List ℕ))) → n < 2 ^ 32 → IsAnswerWritable kind n t → Goes (Some (between kind name k (list ++ t ∷ []))) more →
        Goes (Some (between kind name k list)) (answer_lines t ++ more)
    answer_again Sources (SourceAnswer s ls) more small h go =
        let count : length ls ≡ n = h.1.count in
        step _ _ (source_words s) (vertex_lines 1 ls ++ more) (word_by_test (codes "s") refl, (small_word s h.0, tt)) (source_again s h.0)
        (lines_again (between Sources name k list) (OneSource s) [] ls 1 more refl (omega arith) small h.1.sizes go)
    answer_again Multi (SourcesAnswer ss ls) more small h go =
        let count : length ls ≡ n = h.3.count in
        step _ _ (list_words (codes "m") ss) (vertex_lines 1 ls ++ more) (word_by_test (codes "m") refl, number_words ss h.2) (sources_again ss h.0 h.1 h.2)
        (lines_again (between Multi name k list) (ManySources ss) [] ls 1 more refl (omega arith) small h.3.sizes go)
    answer_again Pairs (PairAnswer s t None) more small h go =
        step _ _ (pair_words s t) ((codes "u" ∷ []) ∷ more) (word_by_test (codes "q") refl, (small_word s h.0, (small_word t h.1, tt))) (pair_again s t h.0 h.1)
        (step _ _ (codes "u" ∷ []) more (word_by_test (codes "u") refl, tt) (none_again s t) go)
    answer_again Pairs (PairAnswer s t (Some f)) more small h go =
        let g = h.2 in
        step _ _ (pair_words s t) (found_words f.code f.hops ∷ list_words (codes "r") f.route ∷ more)
        (word_by_test (codes "q") refl, (small_word s h.0, (small_word t h.1, tt))) (pair_again s t h.0 h.1)
        (step _ _ (found_words f.code f.hops) (list_words (codes "r") f.route ∷ more)
        (word_by_test (codes "d") refl, (word_of_number f.code g.0, (small_word f.hops g.1, tt))) (value_again s t f.code f.hops g.0 g.1)
        (step _ _ (list_words (codes "r") f.route) more (word_by_test (codes "r") refl, number_words f.route g.3) (route_again s t f.code f.hops f.route g.2 g.3) go))
    answer_again Sources (PairAnswer s t f) more small h go = absurd h
    answer_again Sources (SourcesAnswer ss ls) more small h go = absurd h
    answer_again Pairs (SourceAnswer s ls) more small h go = absurd h
    answer_again Pairs (SourcesAnswer ss ls) more small h go = absurd h
    answer_again Multi (SourceAnswer s ls) more small h go = absurd h
    answer_again Multi (PairAnswer s t f) more small h go = absurd h

-- the lines of answers, one after the other
abbrev block_lines : List AnswerData → List (List (List ℕ))
block_lines [] = []
block_lines (t ∷ ts) = answer_lines t ++ block_lines ts

module _ (n : ℕ) (kind : Kind) (name : AlgebraName) (k : ℕ) where
  answers_again : (done ts : List AnswerData) → n < 2 ^ 32 → length done + length ts ≡ k → AllByRecursion (IsAnswerWritable kind n) ts
      → Goes n (Ok (record { name = name; kind = kind; n = n; list = done ++ ts })) (Some (between kind name k done)) (block_lines ts)
  answers_again done [] small e h = λ at. rw (eq-eqb (length done) k (omega arith), append-nil) refl
  answers_again done (t ∷ ts) small e h =
      answer_again n _ name k done (omega arith) kind t (block_lines ts) small h.0
      (subst (λ xs. Goes n (Ok (record { name = name; kind = kind; n = n; list = xs })) (Some (between kind name k (done ++ t ∷ []))) (block_lines ts)) (append_assoc done (t ∷ []) ts)
      (answers_again (done ++ t ∷ []) ts small (omega (arith, e, length-append done (t ∷ []))) h.1))

header_again : (n : ℕ) (kind : Kind) (k : ℕ) (name : AlgebraName) → k ≤ 1048576 → line_read n None (map word_of (header_words kind k name)) ≡ Ok (Some (between kind name k []))
unfolding line_given header_line
header_again n kind k name h = rw (small_number k (omega arith), le-ltb 1048576 k h, kind_again kind, name_again name) refl
  where
    kind_again : (kind : Kind) → kind_named (kind_word kind) ≡ Some kind
    kind_again Sources = refl
    kind_again Pairs = refl
    kind_again Multi = refl

    name_again : (name : AlgebraName) → name_of_text (name_text name) ≡ Some name
    name_again names.Shortest = refl
    name_again names.Widest = refl
    name_again names.Reach = refl
    name_again names.Hops = refl
    name_again names.Reliable = refl
    name_again names.Within = refl
    name_again names.Own = refl

text_append : (xs ys : List (List (List ℕ))) → text_of (xs ++ ys) ≡ text_of xs ++ text_of ys
text_append [] ys = refl
text_append (x ∷ xs) ys = ap (λ z. spelled x ++ z) (text_append xs ys) ∙ sym (append_assoc (spelled x) (text_of xs) (text_of ys))

blocks_are : (ts : List AnswerData) → blocks_text ts ≡ text_of (block_lines ts)
unfolding answer_text
blocks_are [] = refl
blocks_are (t ∷ ts) = ap (λ z. text_of (answer_lines t) ++ z) (blocks_are ts) ∙ sym (text_append (answer_lines t) (block_lines ts))

text_is : (t : AnswerList) → answers_text t ≡ text_of (header_words t.kind (length t.list) t.name ∷ block_lines t.list)
unfolding header_text
text_is t = ap (λ z. spelled (header_words t.kind (length t.list) t.name) ++ z) (blocks_are t.list)

-- all lines of a written text are words
lines_append : (xs ys : List (List (List ℕ))) → AllByRecursion (AllByRecursion IsWord) xs → AllByRecursion (AllByRecursion IsWord) ys → AllByRecursion (AllByRecursion IsWord) (xs ++ ys)
lines_append [] ys p q = q
lines_append (x ∷ xs) ys p q = (p.0, lines_append xs ys p.1 q)

vertices_are_words : (v : ℕ) (rest : List (Option Reached)) → v + length rest ≤ 2 ^ 32 → AllByRecursion IsLineWritable rest → AllByRecursion (AllByRecursion IsWord) (vertex_lines v rest)
vertices_are_words v [] le h = tt
vertices_are_words v (x ∷ rest) le h = (vertex_are_words v x (omega arith) h.0, vertices_are_words (v + 1) rest (omega arith) h.1)

all_vertices_are_words : (n : ℕ) (lines : List (Option Reached)) → n < 2 ^ 32 → AreLinesWritable n lines → AllByRecursion (AllByRecursion IsWord) (vertex_lines 1 lines)
all_vertices_are_words n lines small h = let count : length lines ≡ n = h.count in vertices_are_words 1 lines (omega arith) h.sizes

answer_are_words : (n : ℕ) (kind : Kind) (t : AnswerData) → n < 2 ^ 32 → IsAnswerWritable kind n t → AllByRecursion (AllByRecursion IsWord) (answer_lines t)
answer_are_words n Sources (SourceAnswer s ls) small h = ((word_by_test (codes "s") refl, (small_word s h.0, tt)), all_vertices_are_words n ls small h.1)
answer_are_words n Multi (SourcesAnswer ss ls) small h = ((word_by_test (codes "m") refl, number_words ss h.2), all_vertices_are_words n ls small h.3)
answer_are_words n Pairs (PairAnswer s t None) small h = ((word_by_test (codes "q") refl, (small_word s h.0, (small_word t h.1, tt))), ((word_by_test (codes "u") refl, tt), tt))
answer_are_words n Pairs (PairAnswer s t (Some f)) small h =
    let g = h.2 in (
      (word_by_test (codes "q") refl, (small_word s h.0, (small_word t h.1, tt))),
      (
        (word_by_test (codes "d") refl, (word_of_number f.code g.0, (small_word f.hops g.1, tt))),
        ((word_by_test (codes "r") refl, number_words f.route g.3), tt),
      ),
    )
answer_are_words n Sources (PairAnswer s t f) small h = absurd h
answer_are_words n Sources (SourcesAnswer ss ls) small h = absurd h
answer_are_words n Pairs (SourceAnswer s ls) small h = absurd h
answer_are_words n Pairs (SourcesAnswer ss ls) small h = absurd h
answer_are_words n Multi (SourceAnswer s ls) small h = absurd h
answer_are_words n Multi (PairAnswer s t f) small h = absurd h

blocks_are_words : (n : ℕ) (kind : Kind) (ts : List AnswerData) → n < 2 ^ 32 → AllByRecursion (IsAnswerWritable kind n) ts → AllByRecursion (AllByRecursion IsWord) (block_lines ts)
blocks_are_words n kind [] small h = tt
blocks_are_words n kind (t ∷ ts) small h = lines_append (answer_lines t) (block_lines ts) (answer_are_words n kind t small h.0) (blocks_are_words n kind ts small h.1)

text_again : (t : AnswerList) → AreWritable t → text_value (answer_rules t.n) (answers_text t) ≡ Ok t
text_again t h =
    let few : length t.list ≤ 1048576 = h.few in
    let head : List (List ℕ) = header_words t.kind (length t.list) t.name in
    let words : AllByRecursion IsWord head = header_are_words t.kind (length t.list) t.name few in
    ap (λ b. value_of_lines false (answer_rules t.n) 1 None (lines false b)) (text_is t)
    ∙ ap (value_of_lines false (answer_rules t.n) 1 None) (lines_text (head ∷ block_lines t.list) (words, blocks_are_words t.n t.kind t.list h.vertices h.answers))
    ∙ step t.n (Ok t) None (Some (between t.kind t.name (length t.list) [])) head (block_lines t.list) words (header_again t.n t.kind (length t.list) t.name few)
    (answers_again t.n t.kind t.name (length t.list) [] t.list h.vertices (omega arith) h.answers) 1

-- a written answer list is read again
pub written_again : (t : AnswerList) → AreWritable t → length (answers_text t) ≤ 4294967296 → text_read (answer_rules t.n) (answers_text t) ≡ Ok t
written_again t h short = rw (le-ltb 4294967296 (length (answers_text t)) short) (text_again t h)
