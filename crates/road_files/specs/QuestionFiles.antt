-- Question files, by their lines: comments, a problem line `p aux sp KIND K`, and K lines of that
-- kind: `s SOURCE` for `ss`, `q SOURCE TARGET` for `p2p`, `m SOURCE ..` with 1 to 1,024 sources for
-- `ms`.
use Rattle.std.specs.Prelude.{ℕ, ◌==◌, ◌&&◌, not, Bool, true, false, List, [], ◌∷◌, ◌++◌, length, drop, map, slice_index, if◌then◌else◌, Option, Some, None, nat_lt, is_none, Result, Ok, Err, codes, bytes_eq}
use Rattle.text_lines.specs.Rules.{◌>>=◌, unless, Rules}
use Rattle.text_lines.specs.Words.{Word, word_of, word_at}
use Rattle.graph_text.specs.Numbers.{up_to, vertex_in}
use Rattle.road_files.specs.declared.questions.Kind.{Kind}
use Rattle.road_files.specs.declared.questions.Kind.TheVariants.{Sources, Pairs, Multi}
use Rattle.road_files.specs.Asked.{Question, FromSource, BetweenPair, FromSources, Asked}

-- the kind and number of questions that the problem line announces, and the questions so far
pub record AskedSoFar : Type 0 where
  pub kind : Kind
  pub announced : ℕ
  pub questions : List Question

-- whether two kinds are the same
abbrev pub same_kind : Kind → Kind → Bool
same_kind Sources Sources = true
same_kind Pairs Pairs = true
same_kind Multi Multi = true
same_kind _ _ = false

-- the kind that a problem line names
abbrev pub kind_named : List ℕ → Option Kind
kind_named word =
    if bytes_eq word (codes "ss") then Some Sources
    else if bytes_eq word (codes "p2p") then Some Pairs
    else if bytes_eq word (codes "ms") then Some Multi
    else None

-- whether the file may be of a kind: `None` allows every kind
abbrev pub may_be : Option Kind → Kind → Bool
may_be None kind = true
may_be (Some only) kind = same_kind only kind

-- the kind that is named, if the file may be of it
abbrev pub accepted : Option Kind → Option Kind → Result Kind ℕ
accepted only None = Err 12
accepted only (Some kind) = if may_be only kind then Ok kind else Err 12

-- a problem line: it is the first, it has five fields, the middle ones are `aux`, `sp` and the
-- kind, then the number of questions
unfoldable pub question_problem : Option Kind → Option AskedSoFar → List Word → Result (Option AskedSoFar) ℕ
question_problem only s ws = do
  _ ← unless (is_none s) 11
  _ ← unless (length ws == 5) 12
  _ ← unless (bytes_eq (word_at 1 ws).text (codes "aux")) 12
  _ ← unless (bytes_eq (word_at 2 ws).text (codes "sp")) 12
  kind ← accepted only (kind_named (word_at 3 ws).text)
  announced ← up_to 1048576 (word_at 4 ws).number
  Ok (Some (record { kind = kind; announced = announced; questions = [] }))

-- what the problem line announced: 10 if there was none
abbrev pub asked_before : Option AskedSoFar → Result AskedSoFar ℕ
asked_before None = Err 10
asked_before (Some q) = Ok q

-- the vertices that words are, from left to right
abbrev pub vertices_in : ℕ → List Word → Result (List ℕ) ℕ
vertices_in n [] = Ok []
vertices_in n (w ∷ ws) = vertex_in n w.number >>= λ v. vertices_in n ws >>= λ vs. Ok (v ∷ vs)

-- these vertices and one more
abbrev pub one_vertex_more : ℕ → Result (List ℕ) ℕ → Option ℕ → Result (List ℕ) ℕ
one_vertex_more n vertices number = vertices >>= λ vs. vertex_in n number >>= λ v. Ok (vs ++ v ∷ [])

-- an `s` line has two fields
unfoldable pub source_of_line : ℕ → List Word → Result Question ℕ
source_of_line n ws = do
  _ ← unless (length ws == 2) 14
  source ← vertex_in n (word_at 1 ws).number
  Ok (FromSource source)

-- a `q` line has three fields
unfoldable pub pair_of_line : ℕ → List Word → Result Question ℕ
pair_of_line n ws = do
  _ ← unless (length ws == 3) 14
  source ← vertex_in n (word_at 1 ws).number
  target ← vertex_in n (word_at 2 ws).number
  Ok (BetweenPair source target)

-- an `m` line has 2 to 1,025 fields; `count` is how many it has, `vertices` what the vertices after
-- the first field give
unfoldable pub sources_of_line : ℕ → Result (List ℕ) ℕ → Result Question ℕ
sources_of_line count vertices = do
  _ ← unless (nat_lt 1 count && nat_lt count 1026) 14
  sources ← vertices
  Ok (FromSources sources)

-- these questions and one more, if it is announced
abbrev pub one_more : ℕ → List Question → Result Question ℕ → Result (List Question) ℕ
one_more announced questions question = do
  _ ← unless (nat_lt (length questions) announced) 18
  x ← question
  Ok (questions ++ x ∷ [])

-- the line of a question: after the problem line, of its kind, and announced; then what it asks
abbrev pub one_question : Kind → Option AskedSoFar → Result Question ℕ → Result (Option AskedSoFar) ℕ
one_question kind s question = do
  q ← asked_before s
  _ ← unless (same_kind kind q.kind) 13
  questions ← one_more q.announced q.questions question
  Ok (Some (record q { questions = questions }))

-- whether the first word is `m`
abbrev pub begins_list : List Word → Bool
begins_list [] = false
begins_list (w ∷ ws) = bytes_eq w.text (codes "m")

-- a line: blank, a comment, a problem line, the line of a question, or unknown; `in_list` says
-- whether it begins with `m`, `count` is how many words it has, and `vertices` what the vertices
-- after the first word give
unfoldable pub question_line_of : ℕ → Option Kind → Option AskedSoFar → List Word → Bool → ℕ → Result (List ℕ) ℕ → Result (Option AskedSoFar) ℕ
question_line_of n only s ws in_list count vertices =
    if length ws == 0 then Ok s
    else if slice_index (word_at 0 ws).text 0 == 99 then Ok s
    else if bytes_eq (word_at 0 ws).text (codes "p") then question_problem only s ws
    else if bytes_eq (word_at 0 ws).text (codes "s") then one_question Sources s (source_of_line n ws)
    else if bytes_eq (word_at 0 ws).text (codes "q") then one_question Pairs s (pair_of_line n ws)
    else if in_list then one_question Multi s (sources_of_line count vertices)
    else Err 13

-- a line, by its words alone
abbrev pub question_line : ℕ → Option Kind → Option AskedSoFar → List Word → Result (Option AskedSoFar) ℕ
question_line n only s ws = question_line_of n only s ws (begins_list ws) (length ws) (vertices_in n (drop 1 ws))

-- the end: all announced questions are there
abbrev pub question_end : Option AskedSoFar → Result Asked ℕ
question_end s = do
  q ← asked_before s
  _ ← unless (not (nat_lt (length q.questions) q.announced)) 19
  Ok (record { kind = q.kind; questions = q.questions })

-- the rules of question files over a graph with n vertices, of one kind alone or of any
abbrev pub question_rules : ℕ → Option Kind → Rules (Option AskedSoFar) Asked
question_rules n only = record { start = None; line = λ s fs. question_line n only s (map word_of fs); end = question_end }
