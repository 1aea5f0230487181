-- What the right answers are: best values, least hops, least parents, and the routes along them.
use Rattle.std.specs.Prelude.{◌≡◌, ℕ, ◌⊎◌, List, [], ◌∷◌, length, Contains, Option, Some, None, ⊤}
use Rattle.road_graph.specs.GraphData.{GraphData, HasVertex}
use Rattle.path_algebra.specs.Algebra.{Algebra}
use Rattle.path_algebra.specs.Walks.{IsUnreached, AreHops, IsParent, label_of}
pub use Rattle.path_algebra.specs.Walks.{IsBestCode}
pub use Rattle.route_tree.specs.Found.{IsRouteBetween, IsFoundBetween, IsPairAnswer}
use Rattle.answer_text.specs.declared.answers.Reached.{Reached}
use Rattle.road_files.specs.Asked.{Question, FromSource, BetweenPair, FromSources, Asked}
use Rattle.answer_text.specs.AnswerData.{AnswerData, SourceAnswer, PairAnswer, SourcesAnswer, AnswerList}

-- 0 at a source, and elsewhere the least of the nearer vertices
abbrev pub IsParentOrZero : {V : Type 0} → Algebra V → GraphData → List ℕ → ℕ → ℕ → Type 0
IsParentOrZero A g sources v parent = (Contains sources v × (parent ≡ 0)) ⊎ IsParent A g sources v parent

-- the best value, the least hops and the least parent of v
pub record IsReachedLine {V : Type 0} (A : Algebra V) (g : GraphData) (sources : List ℕ) (v : ℕ) (r : Reached) : Type 0 where
  pub code : IsBestCode A g sources v r.code
  pub hops : AreHops A g sources v r.hops
  pub parent : IsParentOrZero A g sources v r.parent

-- the line of v: nothing exactly if no walk to v has a value
abbrev pub IsVertexLine : {V : Type 0} → Algebra V → GraphData → List ℕ → ℕ → Option Reached → Type 0
IsVertexLine A g sources v None = IsUnreached A g sources v
IsVertexLine A g sources v (Some r) = IsReachedLine A g sources v r

-- a line for each vertex, in order
pub record AreVertexLines {V : Type 0} (A : Algebra V) (g : GraphData) (sources : List ℕ) (lines : List (Option Reached)) : Type 0 where
  pub count : length lines ≡ g.vertices
  pub each : (v : ℕ) → HasVertex g v → IsVertexLine A g sources v (label_of lines v)

-- the right answer to a question, which it names
abbrev pub IsAnswer : {V : Type 0} → Algebra V → GraphData → Question → AnswerData → Type 0
IsAnswer A g (FromSource s) (SourceAnswer r lines) = (r ≡ s) × AreVertexLines A g (s ∷ []) lines
IsAnswer A g (BetweenPair s t) (PairAnswer r u found) = (r ≡ s) × (u ≡ t) × IsPairAnswer A g s t found
IsAnswer A g (FromSources ss) (SourcesAnswer rs lines) = (rs ≡ ss) × AreVertexLines A g ss lines
IsAnswer A g _ _ = ⊥

-- the right answers to questions, one for each, in order
abbrev pub AreAnswers : {V : Type 0} → Algebra V → GraphData → List Question → List AnswerData → Type 0
AreAnswers A g [] [] = ⊤
AreAnswers A g [] (t ∷ ts) = ⊥
AreAnswers A g (q ∷ qs) [] = ⊥
AreAnswers A g (q ∷ qs) (t ∷ ts) = IsAnswer A g q t × AreAnswers A g qs ts

-- the right answer list for a graph and questions
pub record IsAnswerList {V : Type 0} (A : Algebra V) (g : GraphData) (asked : Asked) (told : AnswerList) : Type 0 where
  pub name_is : told.name ≡ A.name
  pub kind_is : told.kind ≡ asked.kind
  pub n_is : told.n ≡ g.vertices
  pub answers : AreAnswers A g asked.questions told.list
