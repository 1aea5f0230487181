-- What is kept of a line is enough for the rules of a question file.
use Rattle.std.proofs.Common.{◌≡◌, ℕ, ◌<◌, ◌≤◌, min, List, [], ◌∷◌, length, take, drop, map, cond, eqb, Option, Result, Ok, Err, Bool, true, false, get_or, refl, sym, ap, ◌∙◌, arith, lit<, codes, inl, inr}
use Rattle.std.proofs.lemmas.Bool.{cases_lt, lt-ltb, le-ltb}
use Rattle.road_files.proofs.Words.{length-map, Word, word_of, word_at, held_word, vertex_held, Kind, Sources, Pairs, Multi}
use Rattle.std.specs.Str.{bytes_eq}
use Rattle.text_lines.proofs.WordLaws.{Keeps, keeps, short_word, first_byte, number_held}
use Rattle.road_files.specs.QuestionFiles.{AskedSoFar, kind_named, question_problem, vertices_in, source_of_line, pair_of_line, sources_of_line, one_question, begins_list, question_line_of, question_line}

pub kind_held : (w : List ℕ) → kind_named (take 9 w) ≡ kind_named w
kind_held w = rw (short_word w (codes "ss") (lit< tt), short_word w (codes "p2p") (lit< tt), short_word w (codes "ms") (lit< tt)) refl

module _ (kept ws : List Word) (k : Keeps kept ws) where
  pub problem_held : (only : Option Kind) (s : Option AskedSoFar) → question_problem only s kept ≡ question_problem only s ws
  unfolding question_problem
  problem_held only s = rw (
    k.count 5 (lit< tt),
    k.word 1 (lit< tt),
    k.word 2 (lit< tt),
    k.word 3 (lit< tt),
    k.word 4 (lit< tt),
    short_word (word_at 1 ws).text (codes "aux") (lit< tt),
    short_word (word_at 2 ws).text (codes "sp") (lit< tt),
    kind_held (word_at 3 ws).text,
    number_held 15 16 1048576 (word_at 4 ws).number (lit< tt),
  ) refl

  source_held : (n : ℕ) → n < 18446744073709551616 → source_of_line n kept ≡ source_of_line n ws
  unfolding source_of_line
  source_held n small = rw (k.count 2 (lit< tt), k.word 1 (lit< tt), vertex_held n (word_at 1 ws).number small) refl

  pair_held : (n : ℕ) → n < 18446744073709551616 → pair_of_line n kept ≡ pair_of_line n ws
  unfolding pair_of_line
  pair_held n small = rw (
    k.count 3 (lit< tt),
    k.word 1 (lit< tt),
    k.word 2 (lit< tt),
    vertex_held n (word_at 1 ws).number small,
    vertex_held n (word_at 2 ws).number small,
  ) refl

  line_held : (n : ℕ) (only : Option Kind) (s : Option AskedSoFar) (in_list : Bool) (m : ℕ) (q : Result (List ℕ) ℕ) → n < 18446744073709551616
      → question_line_of n only s kept in_list m q ≡ question_line_of n only s ws in_list m q
  unfolding question_line_of
  line_held n only s in_list m q small = rw (
    k.count 0 (lit< tt),
    k.word 0 (lit< tt),
    problem_held only s,
    source_held n small,
    pair_held n small,
    short_word (word_at 0 ws).text (codes "p") (lit< tt),
    short_word (word_at 0 ws).text (codes "s") (lit< tt),
    short_word (word_at 0 ws).text (codes "q") (lit< tt),
    first_byte (word_at 0 ws).text,
  ) refl

-- where the number of fields is wrong the vertices do not matter
list_same : (n m : ℕ) (p q : Result (List ℕ) ℕ) → m ≡ min n 1026 → (n ≤ 1025 → p ≡ q) → sources_of_line n p ≡ sources_of_line m q
unfolding sources_of_line
list_same n m p q e h = elim (cases_lt n 1026) [
  | inl lt ↦ let same : m ≡ n = omega arith in rw (same, h (omega arith)) refl
  | inr ge ↦ let big : m ≡ 1026 = omega arith in rw (big, lt-ltb 1 n (omega arith), le-ltb n 1026 ge) refl
]

cond_same : {A : Type 0} (b : Bool) (x y z : A) → (b ≡ true → x ≡ y) → cond b x z ≡ cond b y z
cond_same true x y z h = h refl
cond_same false x y z h = refl

-- only the number of fields up to the limit matters, and the vertices only of a list
line_same : (n : ℕ) (only : Option Kind) (s : Option AskedSoFar) (ws : List Word) (b : Bool) (m : ℕ) (p q : Result (List ℕ) ℕ) → m ≡ min (length ws) 1026 → (b ≡ true → length ws ≤ 1025 → p ≡ q)
    → question_line_of n only s ws b (length ws) p ≡ question_line_of n only s ws b m q
unfolding question_line_of
line_same n only s [] b m p q e h = refl
line_same n only s (w ∷ ws) b m p q e h =
    let in_list : cond b (one_question Multi s (sources_of_line (length (w ∷ ws)) p)) (Err 13) ≡ cond b (one_question Multi s (sources_of_line m q)) (Err 13) =
    cond_same b _ _ (Err 13) (λ on. ap (one_question Multi s) (list_same (length (w ∷ ws)) m p q e (h on))) in
    ap (λ x. cond (eqb (length (w ∷ ws)) 0) (Ok s) (cond (eqb (get_or w.text 0 0) 99) (Ok s) (cond (bytes_eq w.text (codes "p")) (question_problem only s (w ∷ ws))
    (cond (bytes_eq w.text (codes "s")) (one_question Sources s (source_of_line n (w ∷ ws))) (cond (bytes_eq w.text (codes "q")) (one_question Pairs s (pair_of_line n (w ∷ ws))) x))))) in_list

-- the rule gives the same of the words and of what is kept of the fields
pub question_line_kept : (n : ℕ) (only : Option Kind) (s : Option AskedSoFar) (kept : List Word) (fs : List (List ℕ)) (b : Bool) (m : ℕ) (q : Result (List ℕ) ℕ) → n < 18446744073709551616
    → kept ≡ take 6 (map held_word fs) → b ≡ begins_list (map word_of fs) → m ≡ min (length fs) 1026 → (b ≡ true → length fs ≤ 1025 → vertices_in n (drop 1 (map word_of fs)) ≡ q)
    → question_line n only s (map word_of fs) ≡ question_line_of n only s kept b m q
question_line_kept n only s kept fs b m q small e letter count h =
    let many : length (map word_of fs) ≡ length fs = length-map fs word_of in
    ap (λ x. question_line_of n only s (map word_of fs) x (length (map word_of fs)) (vertices_in n (drop 1 (map word_of fs)))) (sym letter)
    ∙ line_same n only s (map word_of fs) b m _ q (rw many count) (λ on le. h on (rw (← many) le))
    ∙ sym (line_held kept (map word_of fs) (keeps kept fs e) n only s b m q small)
