-- Answer texts have faults of the numbers 30 to 36 alone.
use Rattle.std.proofs.Common.{◌+◌, ◌==◌, if◌then◌else◌, ℕ, ◌≤◌, List, ◌∷◌, [], length, drop, map, Bool, Option, Some, None, Result, Ok, Err, arith}
use Rattle.std.specs.Prelude.{slice_index}
use Rattle.text_lines.specs.Rules.{◌>>=◌, unless}
use Rattle.answer_text.proofs.Words.{Word, word_of, word_at, Kind, Sources, Pairs, Multi}
use Rattle.text_lines.proofs.ParserLaws.{IsOwn, own_then, own_unless, own_if, own_up_to}
use Rattle.answer_text.specs.AnswerFiles.{Stage, Between, InLines, AfterPair, AfterFound, AnswersSoFar, answer_number, numbers_in, known, header_line, source_line, pair_line, list_line, sources_line, route_line, reached_line, unreached_line, vertex_line, value_line, none_line, found_line, heading_line, answer_line, told_after, line_given, end_read, answer_rules}

-- no fault, or one of these
abbrev IsAnswers : {A : Type 0} → Result A ℕ → Type 0
IsAnswers r = IsOwn 30 36 r

fine : {A : Type 0} (x : A) → IsAnswers (Ok x)
fine x = record { own = tt }

wrong : {A : Type 0} (k : ℕ) → 30 ≤ k → k ≤ 36 → IsAnswers {A = A} (Err k)
wrong k l g = record { own = (l, g) }

step : {A B : Type 0} (r : Result A ℕ) (f : A → Result B ℕ) → IsAnswers r → ((x : A) → IsAnswers (f x)) → IsAnswers (r >>= f)
step r f h more = own_then 30 36 r f h more

test : {B : Type 0} (b : Bool) (k : ℕ) (f : Unit {0} → Result B ℕ) → 30 ≤ k → k ≤ 36 → IsAnswers (f tt) → IsAnswers (unless b k >>= f)
test b k f l g more = own_unless 30 36 b k f l g more

either : {A : Type 0} (b : Bool) (x y : Result A ℕ) → IsAnswers x → IsAnswers y → IsAnswers (if b then x else y)
either b x y p q = own_if 30 36 b x y p q

number : (limit : ℕ) (o : Option ℕ) → IsAnswers (answer_number limit o)
number limit o = own_up_to 30 36 34 35 limit o (omega arith, omega arith) (omega arith, omega arith)

numbers : (ws : List Word) → IsAnswers (numbers_in ws)
numbers [] = fine []
numbers (w ∷ ws) = step (answer_number 4294967295 w.number) _ (number 4294967295 w.number) λ v. step (numbers_in ws) _ (numbers ws) λ vs. fine (v ∷ vs)

word : {A : Type 0} (o : Option A) → IsAnswers (known o)
word None = wrong 31 (omega arith) (omega arith)
word (Some x) = fine x

header : (ws : List Word) → IsAnswers (header_line ws)
unfolding header_line
header ws = search (arith, step, test, word, number, fine) depth 40

source : (ws : List Word) → IsAnswers (source_line ws)
unfolding source_line
source ws = search (arith, step, test, number, fine) depth 40

pair : (ws : List Word) → IsAnswers (pair_line ws)
unfolding pair_line
pair ws = search (arith, step, test, number, fine) depth 40

list : (letter enough : Bool) (ns : Result (List ℕ) ℕ) → IsAnswers ns → IsAnswers (list_line letter enough ns)
list letter enough ns h = either letter _ _ (either enough _ _ h (wrong 33 (omega arith) (omega arith))) (wrong 32 (omega arith) (omega arith))

sources : (ws : List Word) (count : ℕ) (ns : Result (List ℕ) ℕ) → IsAnswers ns → IsAnswers (sources_line ws count ns)
unfolding sources_line
sources ws count ns h = list _ _ ns h

route : (ws : List Word) (count : ℕ) (ns : Result (List ℕ) ℕ) → IsAnswers ns → IsAnswers (route_line ws count ns)
unfolding route_line
route ws count ns h = list _ _ ns h

reached : (v : ℕ) (ws : List Word) → IsAnswers (reached_line v ws)
unfolding reached_line
reached v ws = search (arith, step, test, number, fine) depth 40

unreached : (v : ℕ) (ws : List Word) → IsAnswers (unreached_line v ws)
unfolding unreached_line
unreached v ws = search (arith, step, test, number, fine) depth 40

vertex : (v : ℕ) (ws : List Word) → IsAnswers (vertex_line v ws)
unfolding vertex_line
vertex v ws = search (arith, either, reached, unreached, wrong) depth 40

value : (ws : List Word) → IsAnswers (value_line ws)
unfolding value_line
value ws = search (arith, step, test, number, fine) depth 40

none : (ws : List Word) → IsAnswers (none_line ws)
unfolding none_line
none ws = search (arith, step, test, fine) depth 40

found : (ws : List Word) → IsAnswers (found_line ws)
unfolding found_line
found ws = search (arith, either, value, none, wrong) depth 40

question : (n : ℕ) (s : AnswersSoFar) (ws : List Word) (count : ℕ) (ns : Result (List ℕ) ℕ) (k : Kind) → IsAnswers ns → IsAnswers (heading_line n s ws count ns k)
question n s ws count ns Sources h = step (source_line ws) _ (source ws) λ _. fine _
question n s ws count ns Pairs h = step (pair_line ws) _ (pair ws) λ _. fine _
question n s ws count ns Multi h = step (sources_line ws count ns) _ (sources ws count ns h) λ _. fine _

answer : (n : ℕ) (s : AnswersSoFar) (ws : List Word) (count : ℕ) (ns : Result (List ℕ) ℕ) (stage : Stage) → IsAnswers ns → IsAnswers (answer_line n s ws count ns stage)
answer n s ws count ns Between h = let more = question n s ws count ns s.kind h in search (arith, test, more) depth 40
answer n s ws count ns (InLines named lines) h = step (vertex_line (length lines + 1) ws) _ (vertex (length lines + 1) ws) λ _. fine _
answer n s ws count ns (AfterPair a b) h = step (found_line ws) _ (found ws) λ _. fine _
answer n s ws count ns (AfterFound a b code hops) h = step (route_line ws count ns) _ (route ws count ns h) λ _. fine _

after : (n : ℕ) (s : Option AnswersSoFar) (ws : List Word) (count : ℕ) (ns : Result (List ℕ) ℕ) → IsAnswers ns → IsAnswers (told_after n s ws count ns)
after n None ws count ns h = search (arith, step, test, header, fine) depth 40
after n (Some s) ws count ns h = step (answer_line n s ws count ns s.stage) _ (answer n s ws count ns s.stage h) λ _. fine _

given : (n : ℕ) (s : Option AnswersSoFar) (ws : List Word) (count : ℕ) (ns : Result (List ℕ) ℕ) → IsAnswers ns → IsAnswers (line_given n s ws count ns)
unfolding line_given
given n s ws count ns h = either (length ws == 0) _ _ (fine s) (either (slice_index (word_at 0 ws).text 0 == 99) _ _ (fine s) (after n s ws count ns h))

-- a line of answers
pub answers_line : (n : ℕ) (s : Option AnswersSoFar) (fs : List (List ℕ)) → IsAnswers ((answer_rules n).line s fs)
answers_line n s fs = let ws = map word_of fs in given n s ws (length ws) (numbers_in (drop 1 ws)) (numbers (drop 1 ws))

-- their end
pub answers_end : (n : ℕ) (s : Option AnswersSoFar) → IsAnswers (end_read n s)
answers_end n None = wrong 30 (omega arith) (omega arith)
answers_end n (Some s) = search (arith, test, fine) depth 40
