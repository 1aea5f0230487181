-- What may be written: the answers that can be read back.
use Rattle.std.specs.Prelude.{◌≡◌, ℕ, ◌<◌, ◌≤◌, ◌^◌, List, length, Option, Some, None, ⊤}
use Rattle.std.specs.List.{AllByRecursion}
use Rattle.road_files.specs.declared.questions.Kind.{Kind}
use Rattle.road_files.specs.declared.questions.Kind.TheVariants.{Sources, Pairs, Multi}
use Rattle.answer_text.specs.declared.answers.Reached.{Reached}
use Rattle.answer_text.specs.AnswerData.{FoundData, AnswerData, SourceAnswer, PairAnswer, SourcesAnswer, AnswerList}

-- numbers of 32 bits
abbrev pub AreSmall : List ℕ → Type 0
AreSmall ns = AllByRecursion (λ n. n < 2 ^ 32) ns

-- numbers that fit their fields of a line
abbrev pub IsLineWritable : Option Reached → Type 0
IsLineWritable None = ⊤
IsLineWritable (Some r) = (r.code < 2 ^ 64) × (r.hops < 2 ^ 32) × (r.parent < 2 ^ 32)

-- a line for each of n vertices
pub record AreLinesWritable (n : ℕ) (lines : List (Option Reached)) : Type 0 where
  pub count : length lines ≡ n
  pub sizes : AllByRecursion IsLineWritable lines

-- a route that is not empty
abbrev pub IsFoundWritable : Option FoundData → Type 0
IsFoundWritable None = ⊤
IsFoundWritable (Some f) = (f.code < 2 ^ 64) × (f.hops < 2 ^ 32) × (1 ≤ length f.route) × AreSmall f.route

-- an answer of this kind over n vertices
abbrev pub IsAnswerWritable : Kind → ℕ → AnswerData → Type 0
IsAnswerWritable Sources n (SourceAnswer s lines) = (s < 2 ^ 32) × AreLinesWritable n lines
IsAnswerWritable Pairs n (PairAnswer s t found) = (s < 2 ^ 32) × (t < 2 ^ 32) × IsFoundWritable found
IsAnswerWritable Multi n (SourcesAnswer ss lines) = (1 ≤ length ss) × (length ss ≤ 1024) × AreSmall ss × AreLinesWritable n lines
IsAnswerWritable _ _ _ = ⊥

-- at most 2^20 answers, all of the list's kind: n lines in each answer for vertices, 1 to 1,024
-- sources in each of kind `ms`, and no empty route
pub record AreWritable (t : AnswerList) : Type 0 where
  pub few : length t.list ≤ 1048576
  pub vertices : t.n < 2 ^ 32
  pub answers : AllByRecursion (IsAnswerWritable t.kind t.n) t.list
