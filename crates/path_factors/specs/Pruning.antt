-- Edges that others do for are left out, after perfect customization (Dibbelt, Strasser and Wagner,
-- Customizable contraction hierarchies, 2016).
use Rattle.std.specs.Prelude.{◌≡◌, ℕ, ◌+◌, ◌<◌, List, [], ◌∷◌, Bool, true, false, Option, length, IsTrue}
use Rattle.path_algebra.specs.Algebra.{Algebra}
use Rattle.path_algebra.specs.Composition.{Composition}
use Rattle.path_factors.specs.declared.edge.Edge.{Edge}
use Rattle.path_factors.specs.Factors.{FactorData, AreStable, Passes, at, row_of}
use Rattle.path_factors.specs.Asking.{is_on}
use Rattle.path_factors.specs.Edges.{LinkRows, IsEdgeAt}

-- the elements that are marked
abbrev pub marked : {X : Type 0} → List X → List Bool → List X
marked [] marks = []
marked (x ∷ items) [] = []
marked (x ∷ items) (true ∷ marks) = x ∷ marked items marks
marked (x ∷ items) (false ∷ marks) = marked items marks

-- neither link of an edge of place v improves a label
pub record PassesAlong {V W : Type 0} (A : Algebra V) (C : Composition V W) (labels : List (Option V)) (v : ℕ) (e : Edge W) : Type 0 where
  pub leaving : Passes A C (at labels v) e.leaving (at labels e.place)
  pub entering : Passes A C (at labels e.place) e.entering (at labels v)

-- the marked edges of place v do for all: where neither they improve a label nor links between
-- greater places, no edge of v does
abbrev pub DoForAll : {V W : Type 0} → Algebra V → Composition V W → FactorData W → ℕ → List Bool → Type 0
DoForAll {V} {W} A C F v marks =
    (labels : List (Option V)) → AreStable A C F (v + 1) labels →
    ((j : ℕ) (e : Edge W) → IsEdgeAt F v j e → is_on marks j ≡ true → PassesAlong A C labels v e) →
    (j : ℕ) (e : Edge W) → IsEdgeAt F v j e → PassesAlong A C labels v e

-- the ways to the end of edge e and back, over the end of edge f and the edge on from there, are no
-- worse than e
pub record IsBypassed {V W : Type 0} (C : Composition V W) (e f on : Edge W) : Type 0 where
  pub leaving : IsTrue (C.no_worse (C.compose f.leaving on.leaving) e.leaving)
  pub entering : IsTrue (C.no_worse (C.compose on.entering f.entering) e.entering)

-- the first k rows have links of a factor alone, in each those of marked edges that do for all
pub record AreThinTo {V W : Type 0} (A : Algebra V) (C : Composition V W) (F : FactorData W) (k : ℕ) (rows : LinkRows W) : Type 0 where
  pub leaving_count : length rows.leaving ≡ k
  pub entering_count : length rows.entering ≡ k
  pub marks : (v : ℕ) → v < k → (marks : List Bool) × DoForAll A C F v marks
      × (row_of rows.leaving v ≡ marked (row_of F.leaving v) marks) × (row_of rows.entering v ≡ marked (row_of F.entering v) marks)
