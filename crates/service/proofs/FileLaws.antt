-- Question files in a row are as many requests.
use Rattle.std.proofs.Common.{◌≡◌, ℕ, ◌+◌, Bool, true, false, cond, not, nat_lt, ◌==◌, List, [], ◌∷◌, ◌++◌, length, map, take, drop, flat_map, refl, ap, ◌∙◌, sym, subst, append-nil, None, Some, Option, Result, Ok, Err, arith, codes, bytes_eq, slice_index, ne_eqb}
use Rattle.service.proofs.Words.{lines, fields, unless, ◌>>=◌, Request, requests, requests_of, state_after_lines, ServiceState, Gives, begins_request, given, whole_or_on}
use Rattle.std.specs.List.{AllZip}
use Rattle.text_lines.specs.Rules.{Rules, at_line, value_of_lines, text_read}
use Rattle.road_files.specs.Asked.{Asked, Question}
use Rattle.text_lines.proofs.TextLaws.{lines_none, lines_cut}
use Rattle.std.proofs.lemmas.Slice.Eq.{bytes_eq-Decides}
use Rattle.text_lines.specs.declared.faults.ReadFault.{ReadFault}
use Rattle.text_lines.specs.Words.{Word, word_of, word_at}
use Rattle.road_files.specs.declared.questions.Kind.{Kind}
use Rattle.road_files.specs.declared.questions.Kind.TheVariants.{Sources, Pairs, Multi}
use Rattle.road_files.specs.QuestionFiles.{AskedSoFar, question_rules, question_end, question_line, question_line_of, question_problem, source_of_line, pair_of_line, sources_of_line, one_question, same_kind, begins_list, vertices_in}
use Rattle.service.specs.Files.{IsFileOf}
use Rattle.service.proofs.RequestLaws.{requests_go_on, line_closed}

problem_word : (n : ℕ) (q : AskedSoFar) (fs : List (List ℕ)) → question_line n None (Some q) (map word_of (codes "p" ∷ fs)) ≡ Err 11
unfolding question_line_of question_problem
problem_word n q fs = rw (ne_eqb (length (map word_of (codes "p" ∷ fs))) 0 (λ e. omega arith)) refl

-- a second problem line is fault 11
second_problem : (n : ℕ) (q : AskedSoFar) (fs : List (List ℕ)) → begins_request fs ≡ true → question_line n None (Some q) (map word_of fs) ≡ Err 11
second_problem n q [] h = cc
second_problem n q (f ∷ fs) h = subst (λ w. question_line n None (Some q) (map word_of (w ∷ fs)) ≡ Err 11) (sym ((bytes_eq-Decides f (codes "p")).0 h)) (problem_word n q fs)

-- a request that is whole takes blank lines and comments alone, which change nothing between
-- requests
abbrev IsErr : {A : Type 0} → Result A ℕ → Type 0
IsErr {A = A} r = (e : ℕ) × (r ≡ Err e)

full_question : (kind : Kind) (q : AskedSoFar) (x : Result Question ℕ) → nat_lt (length q.questions) q.announced ≡ false → IsErr (one_question kind (Some q) x)
full_question kind q x h = by_kind (same_kind kind q.kind)
  where
    by_kind : (b : Bool) → IsErr (unless b 13 >>= λ _. (unless (nat_lt (length q.questions) q.announced) 18 >>= λ _. x >>= λ y. Ok (q.questions ++ y ∷ [])) >>= λ qs. Ok
        (Some (record q { questions = qs })))
    by_kind true = (18, rw h refl)
    by_kind false = (13, refl)

skips : {A : Type 0} (s t u : A) (b0 b1 b2 b3 b4 b5 : Bool) (p q r m p' q' r' m' z z' : Result A ℕ) → IsErr p → IsErr q → IsErr r → IsErr m → IsErr z
    → cond b0 (Ok s) (cond b1 (Ok s) (cond b2 p (cond b3 q (cond b4 r (cond b5 m z))))) ≡ Ok u
    → (u ≡ s) × (cond b0 (Ok t) (cond b1 (Ok t) (cond b2 p' (cond b3 q' (cond b4 r' (cond b5 m' z'))))) ≡ Ok t)
skips s t u true b1 b2 b3 b4 b5 p q r m p' q' r' m' z z' hp hq hr hm hz h = (cc, refl)
skips s t u false true b2 b3 b4 b5 p q r m p' q' r' m' z z' hp hq hr hm hz h = (cc, refl)
skips s t u false false true b3 b4 b5 p q r m p' q' r' m' z z' hp hq hr hm hz h = let e = hp.1 in cc
skips s t u false false false true b4 b5 p q r m p' q' r' m' z z' hp hq hr hm hz h = let e = hq.1 in cc
skips s t u false false false false true b5 p q r m p' q' r' m' z z' hp hq hr hm hz h = let e = hr.1 in cc
skips s t u false false false false false true p q r m p' q' r' m' z z' hp hq hr hm hz h = let e = hm.1 in cc
skips s t u false false false false false false p q r m p' q' r' m' z z' hp hq hr hm hz h = let e = hz.1 in cc

second_fault : (n : ℕ) (q : AskedSoFar) (ws : List Word) → question_problem None (Some q) ws ≡ Err 11
unfolding question_problem
second_fault n q ws = refl

full_line : (n : ℕ) (q : AskedSoFar) (u : Option AskedSoFar) (ws : List Word) → nat_lt (length q.questions) q.announced ≡ false → question_line n None (Some q) ws ≡ Ok u
    → (u ≡ Some q) × (question_line n None None ws ≡ Ok None)
unfolding question_line_of
full_line n q u ws full h =
    let word = (word_at 0 ws).text in
    let first : Result Question ℕ = source_of_line n ws in
    let second : Result Question ℕ = pair_of_line n ws in
    let third : Result Question ℕ = sources_of_line (length ws) (vertices_in n (drop 1 ws)) in
    skips (Some q) None u (length ws == 0) (slice_index word 0 == 99) (bytes_eq word (codes "p")) (bytes_eq word (codes "s")) (bytes_eq word (codes "q")) (begins_list ws)
    (question_problem None (Some q) ws) (one_question Sources (Some q) first) (one_question Pairs (Some q) second) (one_question Multi (Some q) third)
    (question_problem None None ws) (one_question Sources None first) (one_question Pairs None second) (one_question Multi None third) (Err 13) (Err 13)
    (11, second_fault n q ws) (full_question Sources q first full) (full_question Pairs q second full) (full_question Multi q third full) (13, refl) h

-- whether the announced questions are all there, by the end
full_end : (s : Option AskedSoFar) (a : Asked) → question_end s ≡ Ok a → (q : AskedSoFar) × (s ≡ Some q) × (nat_lt (length q.questions) q.announced ≡ false)
full_end None a h = cc
full_end (Some q) a h = (q, refl, by_count (record { kind = q.kind; questions = q.questions }) (nat_lt (length q.questions) q.announced) h)
  where
    by_count : (asked : Asked) (b : Bool) → (unless (not b) 19 >>= λ _. Ok asked) ≡ Ok a → b ≡ false
    by_count asked true g = cc
    by_count asked false g = refl

-- what a service makes of lines: just these requests, and then it is between two
abbrev Makes : ℕ → ℕ → ServiceState → List (List ℕ) → List Request → Type 0
Makes n at state ls rs = (requests_of true n at state ls ≡ rs) × (state_after_lines n state ls ≡ Gives None)

-- lines that have a value go on after the first
line_taken : {S V : Type 0} (at : ℕ) (r : Result S ℕ) (f : S → Result V ReadFault) (v : V) → (at_line at r >>= f) ≡ Ok v → (s : S) × (r ≡ Ok s) × (f s ≡ Ok v)
line_taken at (Ok s) f v h = (s, refl, h)
line_taken at (Err e) f v h = cc

-- after the last line of a request that is a file
rest_of_file : (n at k : ℕ) (q : AskedSoFar) (a b : Asked) (ls : List (List ℕ)) → nat_lt (length q.questions) q.announced ≡ false → question_end (Some q) ≡ Ok b
    → value_of_lines false (question_rules n None) at (Some q) ls ≡ Ok a → (a ≡ b) × Makes n k (Gives None) ls []
rest_of_file n at k q a b [] full whole h = (rest_end h, (refl, refl))
  where
    rest_end : at_line at (question_end (Some q)) ≡ Ok a → a ≡ b
    rest_end g = let e = rw whole at g in cc
rest_of_file n at k q a b (l ∷ ls) full whole h =
    let (u, f, g) = line_taken at (question_line n None (Some q) (map word_of (fields l))) (λ t. value_of_lines false (question_rules n None) (at + 1) t ls) a h in
    let (same, blank) = full_line n q u (map word_of (fields l)) full f in
    rw blank (rest_of_file n (at + 1) (k + 1) q a b ls full whole (subst (λ t. value_of_lines false (question_rules n None) (at + 1) t ls ≡ Ok a) same g))

-- a request that goes on, or none yet
abbrev IsOpen : Option AskedSoFar → Type 0
IsOpen s = IsErr (question_end s)

-- lines that go on to a file's value make this one request
file_of : (n at k : ℕ) (s : Option AskedSoFar) (a : Asked) (ls : List (List ℕ)) → IsOpen s → value_of_lines false (question_rules n None) at s ls ≡ Ok a → Makes n k (Gives s) ls (Ok a ∷ [])
file_of n at k s a [] (e, p) h = let q : at_line at (question_end s) ≡ Ok a = h in let r = ap (at_line at) p in cc
file_of n at k s a (l ∷ ls) going h = by_state s (λ t o g. file_of n (at + 1) (k + 1) t a ls o g) h
  where
    -- given to the request
    by_end : (t : Option AskedSoFar) (r : Result Asked ℕ) → question_end t ≡ r → (IsOpen t → Makes n (k + 1) (Gives t) ls (Ok a ∷ [])) →
        value_of_lines false (question_rules n None) (at + 1) t ls ≡ Ok a
        → (map (at_line k) (whole_or_on t r).ended ++ requests_of true n (k + 1) (whole_or_on t r).next ls ≡ Ok a ∷ []) × (state_after_lines n (whole_or_on t r).next ls ≡ Gives None)
    by_end t (Err e) f next g = next (e, f)
    by_end t (Ok b) f next g =
        let (q, is, full) = full_end t b f in
        let (same, made) = rest_of_file n (at + 1) (k + 1) q a b ls full (subst (λ x. question_end x ≡ Ok b) is f)
        (subst (λ x. value_of_lines false (question_rules n None) (at + 1) x ls ≡ Ok a) is g) in
        rw (same, made.0) (refl, made.1)

    by_line : (t : Option AskedSoFar) (r : Result (Option AskedSoFar) ℕ) → ((u : Option AskedSoFar) → IsOpen u → value_of_lines false (question_rules n None) (at + 1) u ls ≡ Ok a →
        Makes n (k + 1) (Gives u) ls (Ok a ∷ []))
        → (at_line at r >>= λ u. value_of_lines false (question_rules n None) (at + 1) u ls) ≡ Ok a
        → (map (at_line k) (given r).ended ++ requests_of true n (k + 1) (given r).next ls ≡ Ok a ∷ []) × (state_after_lines n (given r).next ls ≡ Gives None)
    by_line t (Err e) next g = cc
    by_line t (Ok u) next g = by_end u (question_end u) refl (λ o. next u o g) g

    by_test : (q : AskedSoFar) (b : Bool) → begins_request (fields l) ≡ b → ((u : Option AskedSoFar) → IsOpen u →
        value_of_lines false (question_rules n None) (at + 1) u ls ≡ Ok a → Makes n (k + 1) (Gives u) ls (Ok a ∷ []))
        → (at_line at (question_line n None (Some q) (map word_of (fields l))) >>= λ u. value_of_lines false (question_rules n None) (at + 1) u ls) ≡ Ok a →
        Makes n k (Gives (Some q)) (l ∷ ls) (Ok a ∷ [])
    by_test q true e next g =
        let twice = second_problem n q (fields l) e in
        let g' = rw twice at g in cc
    by_test q false e next g = rw e (by_line (Some q) (question_line n None (Some q) (map word_of (fields l))) next g)

    by_state : (t : Option AskedSoFar) → ((u : Option AskedSoFar) → IsOpen u → value_of_lines false (question_rules n None) (at + 1) u ls ≡ Ok a → Makes n (k + 1) (Gives u) ls (Ok a ∷ []))
        → (at_line at (question_line n None t (map word_of (fields l))) >>= λ u. value_of_lines false (question_rules n None) (at + 1) u ls) ≡ Ok a → Makes n k (Gives t) (l ∷ ls) (Ok a ∷ [])
    by_state None next g = by_line None (question_line n None None (map word_of (fields l))) next g
    by_state (Some q) next g = by_test q (begins_request (fields l)) refl next g

-- a text that is cut short has no value
never_cut : {S V : Type 0} (rules : Rules S V) (at : ℕ) (s : S) (ls : List (List ℕ)) (v : V) → value_of_lines true rules at s ls ≡ Ok v → ⊥
never_cut rules at s [] v h = cc
never_cut rules at s (l ∷ ls) v h =
    let (t, _, g) = line_taken at (rules.line s (fields l)) (λ t. value_of_lines true rules (at + 1) t ls) v h in never_cut rules (at + 1) t ls v g

value_of_file : (n : ℕ) (file : List ℕ) (a : Asked) → text_read (question_rules n None) file ≡ Ok a → value_of_lines false (question_rules n None) 1 None (lines false file) ≡ Ok a
value_of_file n file a h = by_length (nat_lt 4294967296 (length file)) h
  where
    by_length : (b : Bool) → cond b (value_of_lines true (question_rules n None) 1 None (lines true (take 4294967296 file)))
        (value_of_lines false (question_rules n None) 1 None (lines false file)) ≡ Ok a
        → value_of_lines false (question_rules n None) 1 None (lines false file) ≡ Ok a
    by_length true g = absurd (never_cut (question_rules n None) 1 None _ a g)
    by_length false g = g

lines_closed : (prefix : List ℕ) → lines false (prefix ++ 10 ∷ []) ≡ lines true (prefix ++ 10 ∷ [])
lines_closed prefix = ap (lines false) (sym (append-nil (prefix ++ 10 ∷ []))) ∙ line_closed false prefix [] ∙ ap (λ ls. lines true (prefix ++ 10 ∷ []) ++ ls) lines_none ∙ append-nil _

-- a file that ends at a line's end, from whatever line on
file_makes : (n at : ℕ) (file : List ℕ) (a : Asked) → IsFileOf n file a → Makes n at (Gives None) (lines true file) (Ok a ∷ [])
file_makes n at file a h =
    let same : lines false file ≡ lines true file = subst (λ x. lines false x ≡ lines true x) (sym h.ends) (lines_closed h.prefix) in
    file_of n 1 at None a (lines true file) (10, refl) (subst (λ ls. value_of_lines false (question_rules n None) 1 None ls ≡ Ok a) same (value_of_file n file a h.asks))

file_before : (cut : Bool) (n : ℕ) (file : List ℕ) (a : Asked) (more : List ℕ) → IsFileOf n file a → lines cut (file ++ more) ≡ lines true file ++ lines cut more
file_before cut n file a more h = subst (λ x. lines cut (x ++ more) ≡ lines true x ++ lines cut more) (sym h.ends) (line_closed cut h.prefix more)

row_from : (cut : Bool) (n at : ℕ) (files : List (List ℕ)) (asks : List Asked) → AllZip (IsFileOf n) files asks → requests_of cut n at (Gives None) (lines cut (flat_map (λ x. x) files)) ≡ map Ok asks
row_from cut n at [] [] h = rw (no_lines cut) (nothing cut)
  where
    no_lines : (c : Bool) → lines c [] ≡ []
    no_lines true = lines_cut [] (λ k d h. absurd (omega arith))
    no_lines false = lines_none

    nothing : (c : Bool) → requests_of c n at (Gives None) [] ≡ []
    nothing true = refl
    nothing false = refl
row_from cut n at [] (a ∷ asks) h = absurd h
row_from cut n at (file ∷ files) [] h = absurd h
row_from cut n at (file ∷ files) (a ∷ asks) h =
    let made = file_makes n at file a h.0 in
    ap (requests_of cut n at (Gives None)) (file_before cut n file a (flat_map (λ x. x) files) h.0)
    ∙ requests_go_on cut n at (Gives None) (lines true file) (lines cut (flat_map (λ x. x) files))
    ∙ rw (made.0, made.1) (ap (λ rs. Ok a ∷ rs) (row_from cut n (at + length (lines true file)) files asks h.1))

pub row_of_files : (cut : Bool) (n : ℕ) (files : List (List ℕ)) (asks : List Asked) → AllZip (IsFileOf n) files asks → requests cut n (flat_map (λ x. x) files) ≡ map Ok asks
row_of_files cut n files asks h = row_from cut n 1 files asks h
