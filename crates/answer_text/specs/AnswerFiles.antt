-- Answer texts, by their lines: comments, the header `p ans KIND K NAME`, and K answers of that
-- kind, each a line that names its question (`s SOURCE`, `q SOURCE TARGET`, `m SOURCE ..`) and the
-- lines of its answer. After `s` and `m` comes a line for each vertex in order,
-- `d V CODE HOPS PARENT` or `u V`; after `q` come `d CODE HOPS` and `r V1 ..`, or `u`.
use Rattle.std.specs.Prelude.{ℕ, ◌+◌, ◌==◌, ◌&&◌, Bool, true, false, List, [], ◌∷◌, ◌++◌, length, drop, map, slice_index, if◌then◌else◌, Option, Some, None, nat_lt, Result, Ok, Err, codes, bytes_eq}
use Rattle.path_algebra.specs.declared.name.AlgebraName.{AlgebraName}
use Rattle.path_algebra.specs.Names.{name_of_text}
use Rattle.text_lines.specs.Rules.{◌>>=◌, unless, Rules}
use Rattle.text_lines.specs.Words.{Word, word_of, word_at, number_up_to}
use Rattle.road_files.specs.declared.questions.Kind.{Kind}
use Rattle.road_files.specs.declared.questions.Kind.TheVariants.{Sources, Pairs, Multi}
use Rattle.road_files.specs.QuestionFiles.{kind_named}
use Rattle.answer_text.specs.declared.answers.Reached.{Reached}
use Rattle.answer_text.specs.AnswerData.{AnswerData, SourceAnswer, PairAnswer, SourcesAnswer, AnswerList}

-- the sources named by an answer with a line for each vertex
pub data Named : Type 0 where
  OneSource : (source : ℕ) → Named
  ManySources : (sources : List ℕ) → Named

-- what was read of the present answer: nothing, the question and some lines, a pair, or a pair with
-- its value
pub data Stage : Type 0 where
  Between : Stage
  InLines : (named : Named) → (lines : List (Option Reached)) → Stage
  AfterPair : (source target : ℕ) → Stage
  AfterFound : (source target code hops : ℕ) → Stage

-- the header, the answers that are whole, and the present one
pub record AnswersSoFar : Type 0 where
  pub kind : Kind
  pub name : AlgebraName
  pub announced : ℕ
  pub list : List AnswerData
  pub stage : Stage

-- a number up to a limit: 34 if it is none, 35 above the limit
abbrev pub answer_number : ℕ → Option ℕ → Result ℕ ℕ
answer_number = number_up_to 34 35

-- numbers below 2^32, from left to right
abbrev pub numbers_in : List Word → Result (List ℕ) ℕ
numbers_in [] = Ok []
numbers_in (w ∷ ws) = answer_number 4294967295 w.number >>= λ v. numbers_in ws >>= λ vs. Ok (v ∷ vs)

-- whether the line begins with this word
abbrev pub begins : List ℕ → List Word → Bool
begins word ws = bytes_eq (word_at 0 ws).text word

-- the meaning of a word: 31 if it has none
abbrev pub known : {A : Type 0} → Option A → Result A ℕ
known None = Err 31
known (Some x) = Ok x

-- the header has five fields: `p`, `ans`, a kind, the number of answers and a name
unfoldable pub header_line : List Word → Result AnswersSoFar ℕ
header_line ws = do
  _ ← unless (length ws == 5) 31
  _ ← unless (bytes_eq (word_at 1 ws).text (codes "ans")) 31
  kind ← known (kind_named (word_at 2 ws).text)
  name ← known (name_of_text (word_at 4 ws).text)
  announced ← answer_number 1048576 (word_at 3 ws).number
  Ok (record { kind = kind; name = name; announced = announced; list = []; stage = Between })

-- `s SOURCE`
unfoldable pub source_line : List Word → Result ℕ ℕ
source_line ws = do
  _ ← unless (begins (codes "s") ws) 32
  _ ← unless (length ws == 2) 33
  answer_number 4294967295 (word_at 1 ws).number

-- `q SOURCE TARGET`
unfoldable pub pair_line : List Word → Result (ℕ × ℕ) ℕ
pair_line ws = do
  _ ← unless (begins (codes "q") ws) 32
  _ ← unless (length ws == 3) 33
  source ← answer_number 4294967295 (word_at 1 ws).number
  target ← answer_number 4294967295 (word_at 2 ws).number
  Ok (source, target)

-- a line of a letter and numbers: 32 for the letter, 33 for how many fields there are, then what
-- the numbers give
abbrev pub list_line : Bool → Bool → Result (List ℕ) ℕ → Result (List ℕ) ℕ
list_line letter enough numbers = if letter then (if enough then numbers else Err 33) else Err 32

-- `m SOURCE ..` has 2 to 1,025 fields
unfoldable pub sources_line : List Word → ℕ → Result (List ℕ) ℕ → Result (List ℕ) ℕ
sources_line ws count numbers = list_line (begins (codes "m") ws) (nat_lt 1 count && nat_lt count 1026) numbers

-- `r V1 ..` has at least two fields
unfoldable pub route_line : List Word → ℕ → Result (List ℕ) ℕ → Result (List ℕ) ℕ
route_line ws count numbers = list_line (begins (codes "r") ws) (nat_lt 1 count) numbers

-- `d V CODE HOPS PARENT`, where V is the next vertex
unfoldable pub reached_line : ℕ → List Word → Result (Option Reached) ℕ
reached_line v ws = do
  _ ← unless (length ws == 5) 33
  vertex ← answer_number 4294967295 (word_at 1 ws).number
  code ← answer_number 18446744073709551615 (word_at 2 ws).number
  hops ← answer_number 4294967295 (word_at 3 ws).number
  parent ← answer_number 4294967295 (word_at 4 ws).number
  _ ← unless (vertex == v) 32
  Ok (Some (record { code = code; hops = hops; parent = parent }))

-- `u V`, where V is the next vertex
unfoldable pub unreached_line : ℕ → List Word → Result (Option Reached) ℕ
unreached_line v ws = do
  _ ← unless (length ws == 2) 33
  vertex ← answer_number 4294967295 (word_at 1 ws).number
  _ ← unless (vertex == v) 32
  Ok None

-- the line of the next vertex
unfoldable pub vertex_line : ℕ → List Word → Result (Option Reached) ℕ
vertex_line v ws =
    if begins (codes "d") ws then reached_line v ws
    else if begins (codes "u") ws then unreached_line v ws
    else Err 32

-- `d CODE HOPS`
unfoldable pub value_line : List Word → Result (Option (ℕ × ℕ)) ℕ
value_line ws = do
  _ ← unless (length ws == 3) 33
  code ← answer_number 18446744073709551615 (word_at 1 ws).number
  hops ← answer_number 4294967295 (word_at 2 ws).number
  Ok (Some (code, hops))

-- `u` alone
unfoldable pub none_line : List Word → Result (Option (ℕ × ℕ)) ℕ
none_line ws = do
  _ ← unless (length ws == 1) 33
  Ok None

-- the value of a pair, or `u` alone
unfoldable pub found_line : List Word → Result (Option (ℕ × ℕ)) ℕ
found_line ws =
    if begins (codes "d") ws then value_line ws
    else if begins (codes "u") ws then none_line ws
    else Err 32

-- one more answer is whole
abbrev pub with_answer : AnswersSoFar → AnswerData → AnswersSoFar
with_answer s t = record { kind = s.kind; name = s.name; announced = s.announced; list = s.list ++ t ∷ []; stage = Between }

-- the same answers, with the next line expected
abbrev pub with_stage : AnswersSoFar → Stage → AnswersSoFar
with_stage s stage = record { kind = s.kind; name = s.name; announced = s.announced; list = s.list; stage = stage }

-- the answer to a question for all vertices, by how its first line names it
abbrev pub told_lines : Named → List (Option Reached) → AnswerData
told_lines (OneSource s) lines = SourceAnswer s lines
told_lines (ManySources ss) lines = SourcesAnswer ss lines

-- the present answer with these lines, which is whole if there is one for each of n vertices
abbrev pub with_lines : ℕ → AnswersSoFar → Named → List (Option Reached) → AnswersSoFar
with_lines n s named lines = if length lines == n then with_answer s (told_lines named lines) else with_stage s (InLines named lines)

-- a line that names the next question
abbrev pub heading_line : ℕ → AnswersSoFar → List Word → ℕ → Result (List ℕ) ℕ → Kind → Result AnswersSoFar ℕ
heading_line n s ws count numbers Sources = source_line ws >>= λ source. Ok (with_lines n s (OneSource source) [])
heading_line n s ws count numbers Pairs = pair_line ws >>= λ p. Ok (with_stage s (AfterPair p.0 p.1))
heading_line n s ws count numbers Multi = sources_line ws count numbers >>= λ sources. Ok (with_lines n s (ManySources sources) [])

-- the value of a pair: the answer is whole if it is none, else its route comes next
abbrev pub with_value : AnswersSoFar → ℕ → ℕ → Option (ℕ × ℕ) → AnswersSoFar
with_value s source target None = with_answer s (PairAnswer source target None)
with_value s source target (Some p) = with_stage s (AfterFound source target p.0 p.1)

-- a line after the header, by what was read of the present answer
abbrev pub answer_line : ℕ → AnswersSoFar → List Word → ℕ → Result (List ℕ) ℕ → Stage → Result AnswersSoFar ℕ
answer_line n s ws count numbers Between = unless (nat_lt (length s.list) s.announced) 32 >>= λ _. heading_line n s ws count numbers s.kind
answer_line n s ws count numbers (InLines named lines) = vertex_line (length lines + 1) ws >>= λ line. Ok (with_lines n s named (lines ++ line ∷ []))
answer_line n s ws count numbers (AfterPair source target) = found_line ws >>= λ found. Ok (with_value s source target found)
answer_line n s ws count numbers (AfterFound source target code hops) =
    route_line ws count numbers >>= λ route. Ok (with_answer s (PairAnswer source target (Some (record { code = code; hops = hops; route = route }))))

-- the first line begins with `p`: 30 if it does not
abbrev pub first_line : List Word → Result AnswersSoFar ℕ
first_line ws = unless (begins (codes "p") ws) 30 >>= λ _. header_line ws

-- the state after a line that is neither blank nor a comment
abbrev pub told_after : ℕ → Option AnswersSoFar → List Word → ℕ → Result (List ℕ) ℕ → Result (Option AnswersSoFar) ℕ
told_after n None ws count numbers = first_line ws >>= λ s. Ok (Some s)
told_after n (Some s) ws count numbers = answer_line n s ws count numbers s.stage >>= λ t. Ok (Some t)

-- a line; `count` is how many words it has, `numbers` what the numbers after the first word give
unfoldable pub line_given : ℕ → Option AnswersSoFar → List Word → ℕ → Result (List ℕ) ℕ → Result (Option AnswersSoFar) ℕ
line_given n s ws count numbers =
    if length ws == 0 then Ok s
    else if slice_index (word_at 0 ws).text 0 == 99 then Ok s
    else told_after n s ws count numbers

-- a line, by its words alone
abbrev pub line_read : ℕ → Option AnswersSoFar → List Word → Result (Option AnswersSoFar) ℕ
line_read n s ws = line_given n s ws (length ws) (numbers_in (drop 1 ws))

-- whether no answer is begun
abbrev pub is_between : Stage → Bool
is_between Between = true
is_between _ = false

-- the end: there was a header, and the last answer is whole
abbrev pub end_read : ℕ → Option AnswersSoFar → Result AnswerList ℕ
end_read n None = Err 30
end_read n (Some s) = unless (is_between s.stage && (length s.list == s.announced)) 36 >>= λ _. Ok (record { name = s.name; kind = s.kind; n = n; list = s.list })

-- the rules of answer texts over a graph with n vertices
abbrev pub answer_rules : ℕ → Rules (Option AnswersSoFar) AnswerList
answer_rules n = record { start = None; line = λ s fs. line_read n s (map word_of fs); end = end_read n }
