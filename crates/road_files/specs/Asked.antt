-- What questions ask, as plain data: numbers and lists.
use Rattle.std.specs.Prelude.{ℕ, ◌≤◌, List, [], ◌∷◌, length, map, All, Vec}
use Rattle.std.specs.declared.alloc.Global.{Global}
use Rattle.std.specs.Coded.{Π_prop}
pub use Rattle.graph_text.specs.Vertices.{IsVertexOf}
pub use Rattle.road_files.specs.Vertices.{IsVertexPairOf, AreSourcesOf}
use Rattle.road_files.specs.Vertices.{are_vertices-prop, are_pairs-prop, AreSourcesOf-prop}
use Rattle.road_files.specs.declared.questions.Kind.{Kind}
use Rattle.road_files.specs.declared.questions.Kind.TheVariants as kinds
use Rattle.road_files.specs.declared.questions.Questions.{Questions}
use Rattle.road_files.specs.declared.questions.Questions.TheVariants as variants

-- a question: to all vertices from one source, from one vertex to another, or to all vertices from
-- several sources
pub data Question : Type 0 where
  FromSource : (source : ℕ) → Question
  BetweenPair : (source target : ℕ) → Question
  FromSources : (sources : List ℕ) → Question

-- the sources of a question: a diffusion of its own begins at each
abbrev pub sources_of : Question → List ℕ
sources_of (FromSource s) = s ∷ []
sources_of (BetweenPair s t) = s ∷ []
sources_of (FromSources ss) = ss

-- the questions of a file
pub record Asked : Type 0 where
  pub kind : Kind
  pub questions : List Question

-- the question of a pair
abbrev pub of_pair : ℕ × ℕ → Question
of_pair p = BetweenPair p.0 p.1

-- the question of a list of sources
abbrev pub of_list : Vec ℕ Global → Question
of_list sources = FromSources sources.items

-- the question of a source
abbrev pub of_source : ℕ → Question
of_source s = FromSource s

-- what questions in memory ask
abbrev pub asked_of : Questions → Asked
asked_of (variants.Sources vs) = record { kind = kinds.Sources; questions = map of_source vs.items }
asked_of (variants.Pairs ps) = record { kind = kinds.Pairs; questions = map of_pair ps.items }
asked_of (variants.Multi ls) = record { kind = kinds.Multi; questions = map of_list ls.items }

-- what a list of sources asks
abbrev pub asked_of_sources : Vec ℕ Global → Asked
asked_of_sources vs = asked_of (variants.Sources vs)

-- what a list of pairs asks
abbrev pub asked_of_pairs : Vec (ℕ × ℕ) Global → Asked
asked_of_pairs ps = asked_of (variants.Pairs ps)

-- what lists of sources ask
abbrev pub asked_of_lists : Vec (Vec ℕ Global) Global → Asked
asked_of_lists ls = asked_of (variants.Multi ls)

-- the questions are about vertices of a graph with n only
abbrev pub AskWithin : ℕ → Questions → Type 0
AskWithin n (variants.Sources vs) = All (IsVertexOf n) vs.items
AskWithin n (variants.Pairs ps) = All (IsVertexPairOf n) ps.items
AskWithin n (variants.Multi ls) = All (λ (l : Vec ℕ Global). AreSourcesOf n l.items) ls.items

-- this has at most one proof, as a ghost field requires
pub AskWithin-prop : (n : ℕ) (q : Questions) → IsProp (AskWithin n q)
AskWithin-prop n (variants.Sources vs) = are_vertices-prop n vs.items
AskWithin-prop n (variants.Pairs ps) = are_pairs-prop n ps.items
AskWithin-prop n (variants.Multi ls) = Π_prop λ k. Π_prop λ d. Π_prop λ _. AreSourcesOf-prop n _

-- at most 2^20 questions, about vertices of a graph with n only
pub record AreQuestionsOf (n : ℕ) (q : Questions) : Type 0 where
  pub few : length (asked_of q).questions ≤ 1048576
  pub within : AskWithin n q
