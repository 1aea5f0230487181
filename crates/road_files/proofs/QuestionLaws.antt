-- Questions: the sources of each by the kind, and that questions which are written are read again.
use Rattle.std.proofs.Common.{◌≡◌, ℕ, ◌<◌, ◌≤◌, List, [], ◌∷◌, length, get_or, map, refl, sym, ap, ◌∙◌, subst, Vec, Global, arith, ◌≢◌, ◌+◌, ◌*◌, ◌++◌, true, Option, Some, None, Ok, lit<, codes, decimal, append_assoc, append-nil, length-append}
use Rattle.std.specs.List.{All, AllByRecursion}
use Rattle.std.proofs.lemmas.List.Elements.{All-nil, All-cons, recursion_from_All}
use Rattle.std.proofs.lemmas.List.{get_or-map, length-map}
use Rattle.std.proofs.lemmas.Bool.{ne_eqb, lt-ltb, le-ltb}
use Rattle.std.proofs.lemmas.Fmt.{length-decimal-le}
use Rattle.road_files.proofs.Words.{◌>>=◌, text_value, text_read, word_of, vertex_in, Questions, Kind, Sources, Pairs, Multi, may_be, question_problem, vertices_in, source_of_line, pair_of_line, sources_of_line, question_line_of, question_rules, question_end}
use Rattle.text_lines.specs.Texts.{text_of, spelled, AreLines, IsWord, list_words}
use Rattle.text_lines.proofs.RoundTrip.{decimal_is_number, word_of_number, word_by_test, after, value_again, read_again}
use Rattle.graph_text.specs.Vertices.{IsVertexOf}
use Rattle.road_files.specs.Asked.{AskWithin, Question, asked_of, of_source, of_pair, of_list, sources_of, FromSource, BetweenPair, FromSources, AreQuestionsOf}
use Rattle.road_files.specs.Vertices.{IsVertexPairOf, AreSourcesOf}
use Rattle.road_files.specs.WrittenQuestions.{kind_word, problem_words, question_words, question_lines, questions_text}
use Rattle.road_files.specs.declared.questions.Questions.TheVariants as variants

-- the sources of a question
module _ (q : Questions) (i : ℕ) where
  within : {X : Type 0} (f : X → Question) (xs : List X) (p : Questions) → (asked_of p).questions ≡ map f xs → q ≡ p → i < length (asked_of q).questions → i < length xs
  within f xs p is e low = rw (sym (length-map xs f)) (subst (λ (l : List Question). i < length l) (ap (λ (y : Questions). (asked_of y).questions) e ∙ is) low)

  pub in_sources : (vs : Vec ℕ Global) → q ≡ variants.Sources vs → i < length (asked_of q).questions → i < length vs.items
  in_sources vs = within of_source vs.items (variants.Sources vs) refl

  pub in_pairs : (ps : Vec (ℕ × ℕ) Global) → q ≡ variants.Pairs ps → i < length (asked_of q).questions → i < length ps.items
  in_pairs ps = within of_pair ps.items (variants.Pairs ps) refl

  pub in_lists : (ls : Vec (Vec ℕ Global) Global) → q ≡ variants.Multi ls → i < length (asked_of q).questions → i < length ls.items
  in_lists ls = within of_list ls.items (variants.Multi ls) refl

  pub source_at : (vs : Vec ℕ Global) (x : ℕ) → q ≡ variants.Sources vs → i < length (asked_of q).questions → x ≡ get_or vs.items i x → (d : Question) →
      sources_of (get_or (asked_of q).questions i d) ≡ x ∷ []
  source_at vs x e low is d = ap (λ y. sources_of (get_or (asked_of y).questions i d)) e ∙ ap sources_of (get_or-map of_source vs.items i x d (in_sources vs e low)) ∙ ap (λ (y : ℕ). y ∷ []) (sym is)

  pub pair_at : (ps : Vec (ℕ × ℕ) Global) (p : ℕ × ℕ) → q ≡ variants.Pairs ps → i < length (asked_of q).questions → p ≡ get_or ps.items i p → (d : Question) →
      sources_of (get_or (asked_of q).questions i d) ≡ p.0 ∷ []
  pair_at ps p e low is d = ap (λ y. sources_of (get_or (asked_of y).questions i d)) e ∙ ap sources_of (get_or-map of_pair ps.items i p d (in_pairs ps e low)) ∙ ap (λ (y : ℕ × ℕ). y.0 ∷ []) (sym is)

  pub list_at : (ls : Vec (Vec ℕ Global) Global) (l : Vec ℕ Global) → q ≡ variants.Multi ls → i < length (asked_of q).questions → l ≡ get_or ls.items i l → (d : Question) →
      sources_of (get_or (asked_of q).questions i d) ≡ l.items
  list_at ls l e low is d = ap (λ y. sources_of (get_or (asked_of y).questions i d)) e ∙ ap sources_of (get_or-map of_list ls.items i l d (in_lists ls e low))
      ∙ ap (λ (y : Vec ℕ Global). y.items) (sym is)

-- an element of a list that has one
pub any_of : {X : Type 0} (xs : List X) (q : ℕ) → q < length xs → X
any_of [] q h = absurd (omega (arith, h))
any_of (x ∷ xs) q h = x

-- the sources of each question are some, and vertices of the graph
pub asked_within : (n : ℕ) (q : Questions) (i : ℕ) → AskWithin n q → i < length (asked_of q).questions → (d : Question) →
    (1 ≤ length (sources_of (get_or (asked_of q).questions i d))) × All (IsVertexOf n) (sources_of (get_or (asked_of q).questions i d))
asked_within n (variants.Sources vs) i w low d =
    let at = in_sources (variants.Sources vs) i vs refl low in
    subst (λ (y : Question). (1 ≤ length (sources_of y)) × All (IsVertexOf n) (sources_of y)) (sym (get_or-map of_source vs.items i 0 d at))
    (omega arith, All-cons (IsVertexOf n) (get_or vs.items i 0) [] (w i 0 at) (All-nil (IsVertexOf n)))
asked_within n (variants.Pairs ps) i w low d =
    let at = in_pairs (variants.Pairs ps) i ps refl low in
    subst (λ (y : Question). (1 ≤ length (sources_of y)) × All (IsVertexOf n) (sources_of y)) (sym (get_or-map of_pair ps.items i (0, 0) d at))
    (omega arith, All-cons (IsVertexOf n) (get_or ps.items i (0, 0)).0 [] ((w i (0, 0) at).0) (All-nil (IsVertexOf n)))
asked_within n (variants.Multi ls) i w low d =
    let at = in_lists (variants.Multi ls) i ls refl low in
    let one = any_of ls.items i at in
    subst (λ (y : Question). (1 ≤ length (sources_of y)) × All (IsVertexOf n) (sources_of y)) (sym (get_or-map of_list ls.items i one d at)) ((w i one at).some, (w i one at).vertices)

-- a question of this kind, of vertices of a graph with n alone
abbrev pub IsQuestionOf : ℕ → Kind → Question → Type 0
IsQuestionOf n Sources (FromSource s) = IsVertexOf n s
IsQuestionOf n Pairs (BetweenPair s t) = IsVertexOf n s × IsVertexOf n t
IsQuestionOf n Multi (FromSources ss) = AreSourcesOf n ss
IsQuestionOf n _ _ = ⊥

sources_are : (n : ℕ) (vs : List ℕ) → AllByRecursion (IsVertexOf n) vs → AllByRecursion (IsQuestionOf n Sources) (map of_source vs)
sources_are n [] h = tt
sources_are n (v ∷ vs) h = (h.0, sources_are n vs h.1)

pairs_are : (n : ℕ) (ps : List (ℕ × ℕ)) → AllByRecursion (IsVertexPairOf n) ps → AllByRecursion (IsQuestionOf n Pairs) (map of_pair ps)
pairs_are n [] h = tt
pairs_are n (p ∷ ps) h = (h.0, pairs_are n ps h.1)

lists_are : (n : ℕ) (ls : List (Vec ℕ Global)) → AllByRecursion (λ (l : Vec ℕ Global). AreSourcesOf n l.items) ls → AllByRecursion (IsQuestionOf n Multi) (map of_list ls)
lists_are n [] h = tt
lists_are n (l ∷ ls) h = (h.0, lists_are n ls h.1)

pub questions_of : (n : ℕ) (q : Questions) → AskWithin n q → AllByRecursion (IsQuestionOf n (asked_of q).kind) (asked_of q).questions
questions_of n (variants.Sources vs) h = sources_are n vs.items (recursion_from_All (IsVertexOf n) vs.items h)
questions_of n (variants.Pairs ps) h = pairs_are n ps.items (recursion_from_All (IsVertexPairOf n) ps.items h)
questions_of n (variants.Multi ls) h = lists_are n ls.items (recursion_from_All (λ (l : Vec ℕ Global). AreSourcesOf n l.items) ls.items h)

pub problem_step : (only : Option Kind) (kind : Kind) (k : ℕ) → may_be only kind ≡ true → k ≤ 1048576 →
    question_problem only None (map word_of (problem_words kind k)) ≡ Ok (Some (record { kind = kind; announced = k; questions = [] }))
unfolding question_problem
problem_step only Sources k may small = rw (may, decimal_is_number k (omega arith), le-ltb 1048576 k small) refl
problem_step only Pairs k may small = rw (may, decimal_is_number k (omega arith), le-ltb 1048576 k small) refl
problem_step only Multi k may small = rw (may, decimal_is_number k (omega arith), le-ltb 1048576 k small) refl

first_line : (n : ℕ) (only : Option Kind) (kind : Kind) (k : ℕ) → may_be only kind ≡ true → k ≤ 1048576 →
    (question_rules n only).line None (problem_words kind k) ≡ Ok (Some (record { kind = kind; announced = k; questions = [] }))
unfolding question_line_of
first_line n only kind k may small = problem_step only kind k may small

vertex_again : (n v : ℕ) → n ≤ 33554432 → IsVertexOf n v → vertex_in n (word_of (decimal v)).number ≡ Ok v
vertex_again n v small h = rw (decimal_is_number v (omega (arith, h.1)), ne_eqb v 0 (λ e. omega (arith, h.0)), le-ltb n v h.1) refl

vertices_again : (n : ℕ) (vs : List ℕ) → n ≤ 33554432 → AllByRecursion (IsVertexOf n) vs → vertices_in n (map word_of (map decimal vs)) ≡ Ok vs
vertices_again n [] small h = refl
vertices_again n (v ∷ vs) small h = rw (vertex_again n v small h.0, vertices_again n vs small h.1) refl

question_step : (n : ℕ) (only : Option Kind) (kind : Kind) (k : ℕ) (done : List Question) (q : Question) → n ≤ 33554432 → length done < k → IsQuestionOf n kind q
    → (question_rules n only).line (Some (record { kind = kind; announced = k; questions = done })) (question_words q) ≡ Ok (Some (record { kind = kind; announced = k; questions = done ++ q ∷ [] }))
unfolding question_line_of source_of_line pair_of_line sources_of_line
question_step n only Sources k done (FromSource s) small room h = rw (lt-ltb (length done) k room, vertex_again n s small h) refl
question_step n only Pairs k done (BetweenPair s t) small room h = rw (lt-ltb (length done) k room, vertex_again n s small h.0, vertex_again n t small h.1) refl
question_step n only Multi k done (FromSources ss) small room h =
    let some = h.some in let few = h.few in
    let many : length (map word_of (list_words (codes "m") ss)) ≡ length ss + 1 = omega (arith, length-map (map decimal ss) word_of, length-map ss decimal) in
    rw (
      lt-ltb (length done) k room,
      ne_eqb (length (map word_of (list_words (codes "m") ss))) 0 (λ e. omega (arith, many)),
      lt-ltb 1 (length (map word_of (list_words (codes "m") ss))) (omega (arith, many)),
      lt-ltb (length (map word_of (list_words (codes "m") ss))) 1026 (omega (arith, many)),
      vertices_again n ss small (recursion_from_All (IsVertexOf n) ss h.vertices),
    ) refl
question_step n only Sources k done (BetweenPair s t) small room h = absurd h
question_step n only Sources k done (FromSources ss) small room h = absurd h
question_step n only Pairs k done (FromSource s) small room h = absurd h
question_step n only Pairs k done (FromSources ss) small room h = absurd h
question_step n only Multi k done (FromSource s) small room h = absurd h
question_step n only Multi k done (BetweenPair s t) small room h = absurd h

pub questions_after : (n : ℕ) (only : Option Kind) (kind : Kind) (k : ℕ) (done qs : List Question) → n ≤ 33554432 → length done + length qs ≤ k → AllByRecursion (IsQuestionOf n kind) qs
    → after (question_rules n only) (Some (record { kind = kind; announced = k; questions = done })) (map question_words qs) ≡ Ok (Some (record { kind = kind; announced = k; questions = done ++ qs }))
questions_after n only kind k done [] small room h = rw (append-nil done) refl
questions_after n only kind k done (q ∷ qs) small room h =
    ap (λ r. r >>= λ t. after (question_rules n only) t (map question_words qs)) (question_step n only kind k done q small (omega arith) h.0)
    ∙ questions_after n only kind k (done ++ q ∷ []) qs small (omega (arith, length-append done (q ∷ []))) h.1
    ∙ ap (λ xs. Ok (Some (record { kind = kind; announced = k; questions = xs }))) (append_assoc done (q ∷ []) qs)

numbers_are_words : (n : ℕ) (vs : List ℕ) → n ≤ 33554432 → AllByRecursion (IsVertexOf n) vs → AllByRecursion IsWord (map decimal vs)
numbers_are_words n [] small h = tt
numbers_are_words n (v ∷ vs) small h = (word_of_number v (omega (arith, h.0.1)), numbers_are_words n vs small h.1)

question_is_line : (n : ℕ) (kind : Kind) (q : Question) → n ≤ 33554432 → IsQuestionOf n kind q → AllByRecursion IsWord (question_words q)
question_is_line n Sources (FromSource s) small h = (word_by_test (codes "s") refl, (word_of_number s (omega (arith, h.1)), tt))
question_is_line n Pairs (BetweenPair s t) small h = (word_by_test (codes "q") refl, (word_of_number s (omega (arith, h.0.1)), (word_of_number t (omega (arith, h.1.1)), tt)))
question_is_line n Multi (FromSources ss) small h = (word_by_test (codes "m") refl, numbers_are_words n ss small (recursion_from_All (IsVertexOf n) ss h.vertices))
question_is_line n Sources (BetweenPair s t) small h = absurd h
question_is_line n Sources (FromSources ss) small h = absurd h
question_is_line n Pairs (FromSource s) small h = absurd h
question_is_line n Pairs (FromSources ss) small h = absurd h
question_is_line n Multi (FromSource s) small h = absurd h
question_is_line n Multi (BetweenPair s t) small h = absurd h

pub questions_are_lines : (n : ℕ) (kind : Kind) (qs : List Question) → n ≤ 33554432 → AllByRecursion (IsQuestionOf n kind) qs → AreLines (map question_words qs)
questions_are_lines n kind [] small h = tt
questions_are_lines n kind (q ∷ qs) small h = (question_is_line n kind q small h.0, questions_are_lines n kind qs small h.1)

kind_is_word : (kind : Kind) → IsWord (kind_word kind)
kind_is_word Sources = word_by_test (codes "ss") refl
kind_is_word Pairs = word_by_test (codes "p2p") refl
kind_is_word Multi = word_by_test (codes "ms") refl

pub problem_is_line : (kind : Kind) (k : ℕ) → k ≤ 1048576 → AllByRecursion IsWord (problem_words kind k)
problem_is_line kind k small = (
  word_by_test (codes "p") refl,
  (
    word_by_test (codes "aux") refl,
    (word_by_test (codes "sp") refl, (kind_is_word kind, (word_of_number k (omega arith), tt))),
  ),
)

-- the text of questions, as a whole, has their value
pub value_of_questions : (n : ℕ) (only : Option Kind) (q : Questions) → n ≤ 33554432 → may_be only (asked_of q).kind ≡ true → AreQuestionsOf n q →
    text_value (question_rules n only) (questions_text (asked_of q)) ≡ Ok (asked_of q)
unfolding questions_text
value_of_questions n only q small may h =
    let a = asked_of q in
    let k = length (asked_of q).questions in
    let all : AllByRecursion (IsQuestionOf n (asked_of q).kind) (asked_of q).questions = questions_of n q h.within in
    let read : after (question_rules n only) None (question_lines (asked_of q)) ≡ Ok
    (Some (record { kind = (asked_of q).kind; announced = length (asked_of q).questions; questions = (asked_of q).questions })) =
    ap (λ r. r >>= λ t. after (question_rules n only) t (map question_words (asked_of q).questions)) (first_line n only a.kind k may h.few)
    ∙ questions_after n only a.kind k [] a.questions small (omega arith) all in
    let ended : question_end (Some (record { kind = (asked_of q).kind; announced = length (asked_of q).questions; questions = (asked_of q).questions })) ≡ Ok (asked_of q) =
    rw (le-ltb k k (omega arith)) refl in
    value_again (question_rules n only) _ a (question_lines a) (problem_is_line a.kind k h.few, questions_are_lines n a.kind a.questions small all) read ended

-- a line of a source or of a pair has at most 20 bytes
question_length : (n : ℕ) (kind : Kind) (q : Question) → n ≤ 33554432 → kind ≢ Multi → IsQuestionOf n kind q → length (spelled (question_words q)) ≤ 20
unfolding spelled
question_length n Sources (FromSource s) small other h =
    let t : length (decimal s) ≤ 8 = length-decimal-le 8 s (lit< tt) (omega (arith, h.1)) (omega (arith, h.1)) in
    simp length-append (omega arith)
question_length n Pairs (BetweenPair s t) small other h =
    let u : length (decimal s) ≤ 8 = length-decimal-le 8 s (lit< tt) (omega (arith, h.0.1)) (omega (arith, h.0.1)) in
    let v : length (decimal t) ≤ 8 = length-decimal-le 8 t (lit< tt) (omega (arith, h.1.1)) (omega (arith, h.1.1)) in
    simp length-append (omega arith)
question_length n Multi q small other h = absurd (other refl)
question_length n Sources (BetweenPair s t) small other h = absurd h
question_length n Sources (FromSources ss) small other h = absurd h
question_length n Pairs (FromSource s) small other h = absurd h
question_length n Pairs (FromSources ss) small other h = absurd h

questions_length : (n : ℕ) (kind : Kind) (qs : List Question) → n ≤ 33554432 → kind ≢ Multi → AllByRecursion (IsQuestionOf n kind) qs → length (text_of (map question_words qs)) ≤ 20 * length qs
questions_length n kind [] small other h = omega arith
questions_length n kind (q ∷ qs) small other h =
    let here : length (spelled (question_words q)) ≤ 20 = question_length n kind q small other h.0 in
    let rest : length (text_of (map question_words qs)) ≤ 20 * length qs = questions_length n kind qs small other h.1 in
    let both : length (spelled (question_words q) ++ text_of (map question_words qs)) ≡ length (spelled (question_words q)) + length (text_of (map question_words qs)) =
    length-append (spelled (question_words q)) (text_of (map question_words qs)) in
    omega arith

problem_length : (kind : Kind) (k : ℕ) → k ≤ 1048576 → length (spelled (problem_words kind k)) ≤ 21
unfolding spelled
problem_length Sources k small = let t : length (decimal k) ≤ 7 = length-decimal-le 7 k (lit< tt) (omega arith) (omega arith) in simp length-append (omega arith)
problem_length Pairs k small = let t : length (decimal k) ≤ 7 = length-decimal-le 7 k (lit< tt) (omega arith) (omega arith) in simp length-append (omega arith)
problem_length Multi k small = let t : length (decimal k) ≤ 7 = length-decimal-le 7 k (lit< tt) (omega arith) (omega arith) in simp length-append (omega arith)

-- only lists of sources can make a text longer than a text may be
pub short_text : (n : ℕ) (q : Questions) → n ≤ 33554432 → (asked_of q).kind ≢ Multi → AreQuestionsOf n q → length (questions_text (asked_of q)) ≤ 20 * 1048576 + 21
unfolding questions_text
short_text n q small other h =
    let few = h.few in
    let first : length (spelled (problem_words (asked_of q).kind (length (asked_of q).questions))) ≤ 21 = problem_length (asked_of q).kind (length (asked_of q).questions) h.few in
    let rest : length (text_of (map question_words (asked_of q).questions)) ≤ 20 * length (asked_of q).questions =
    questions_length n (asked_of q).kind (asked_of q).questions small other (questions_of n q h.within) in
    let both : length (spelled (problem_words (asked_of q).kind (length (asked_of q).questions)) ++ text_of (map question_words (asked_of q).questions)) ≡ length
    (spelled (problem_words (asked_of q).kind (length (asked_of q).questions))) + length (text_of (map question_words (asked_of q).questions)) =
    length-append (spelled (problem_words (asked_of q).kind (length (asked_of q).questions))) (text_of (map question_words (asked_of q).questions)) in
    omega arith

-- the text of questions has their value, where it is not too long
pub questions_again : (n : ℕ) (only : Option Kind) (q : Questions) → n ≤ 33554432 → may_be only (asked_of q).kind ≡ true → AreQuestionsOf n q →
    length (questions_text (asked_of q)) ≤ 4294967296 → text_read (question_rules n only) (questions_text (asked_of q)) ≡ Ok (asked_of q)
questions_again n only q small may h few = read_again (question_rules n only) (asked_of q) (questions_text (asked_of q)) few (value_of_questions n only q small may h)
