-- What makes lines right: each is judged by itself and the lines of the vertices with an arc to it,
-- and by nothing else.
use Rattle.std.specs.Prelude.{◌≡◌, ℕ, ◌+◌, ◌≤◌, ◌⊎◌, List, length, Contains, IsTrue, Option, Some, None}
use Rattle.road_graph.specs.GraphData.{GraphData, HasVertex}
use Rattle.path_algebra.specs.Algebra.{Algebra}
use Rattle.path_algebra.specs.Walks.{label_of}
use Rattle.answer_text.specs.declared.answers.Reached.{Reached}
use Rattle.answer_check.specs.Reasons.{IsCodeOf, Offers, source_line}

-- the line r of v has a value that its parent gives with one hop less; no arc offers a better
-- value, or this one with fewer hops; no lesser vertex gives it with these hops
pub record IsSupported {V : Type 0} (A : Algebra V) (g : GraphData) (lines : List (Option Reached)) (v : ℕ) (r : Reached) : Type 0 where
  pub value : V
  pub code_is : IsCodeOf A r.code value
  pub near : Reached
  pub from_parent : Offers A g lines r.parent v near value
  pub hops_are : near.hops + 1 ≡ r.hops
  pub not_beaten : (u : ℕ) (other : Reached) (z : V) → Offers A g lines u v other z → IsTrue (A.no_worse value z)
  pub not_nearer : (u : ℕ) (other : Reached) → Offers A g lines u v other value → r.hops ≤ other.hops + 1
  pub not_lesser : (u : ℕ) (other : Reached) → Offers A g lines u v other value → other.hops + 1 ≡ r.hops → r.parent ≤ u

-- what makes the line of a vertex that is no source right: if it is unreached, no arc offers a
-- value
abbrev pub IsRightLine : {V : Type 0} → Algebra V → GraphData → List (Option Reached) → ℕ → Option Reached → Type 0
IsRightLine {V} A g lines v None = (u : ℕ) (near : Reached) (z : V) → Offers A g lines u v near z → ⊥
IsRightLine A g lines v (Some r) = IsSupported A g lines v r

-- what makes the line of a vertex right
abbrev pub IsCertifiedAt : {V : Type 0} → Algebra V → GraphData → List ℕ → List (Option Reached) → ℕ → Type 0
IsCertifiedAt A g sources lines v = (Contains sources v × (label_of lines v ≡ source_line A)) ⊎ ((Contains sources v → ⊥) × IsRightLine A g lines v (label_of lines v))

-- a line for each vertex, and what makes each of them right
pub record AreCertified {V : Type 0} (A : Algebra V) (g : GraphData) (sources : List ℕ) (lines : List (Option Reached)) : Type 0 where
  pub count : length lines ≡ g.vertices
  pub each : (v : ℕ) → HasVertex g v → IsCertifiedAt A g sources lines v
