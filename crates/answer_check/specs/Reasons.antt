-- Why the line of a vertex, or the answer to a pair, is refused. A line is judged by itself and the
-- lines of the vertices with an arc to it, and by nothing else.
use Rattle.std.specs.Prelude.{◌≡◌, ◌≢◌, ℕ, ◌+◌, ◌<◌, ◌⊎◌, List, [], ◌∷◌, Contains, IsTrue, Option, Some, None}
use Rattle.road_graph.specs.GraphData.{GraphData, HasArc, arc_of}
use Rattle.path_algebra.specs.Algebra.{Algebra}
use Rattle.path_algebra.specs.Walks.{IsWalkValue, AreHops, label_of}
use Rattle.answer_text.specs.declared.answers.Reached.{Reached}
use Rattle.answer_text.specs.IsAnswer.{IsBestCode, IsRouteBetween}
use Rattle.answer_text.specs.AnswerData.{FoundData}
use Rattle.answer_check.specs.declared.verdict.Reason.{Reason}
use Rattle.answer_check.specs.declared.verdict.Reason.TheVariants.{Mismatch, NotBest, NoParent, OtherHops, LesserParent, HasWalk, OtherRoute}

-- the number of a reason, by which reasons at one place are ordered
abbrev pub reason_number : Reason → ℕ
reason_number Mismatch = 1
reason_number NotBest = 2
reason_number NoParent = 3
reason_number OtherHops = 4
reason_number LesserParent = 5
reason_number HasWalk = 6
reason_number OtherRoute = 7

-- the right line of a source
abbrev pub source_line : {V : Type 0} → Algebra V → Option Reached
source_line A = Some (record { code = A.code A.origin; hops = 0; parent = 0 })

-- the number is the code of the value x
abbrev pub IsCodeOf : {V : Type 0} → Algebra V → ℕ → V → Type 0
IsCodeOf A c x = IsTrue (A.is_value x) × (c ≡ A.code x)

-- some arc from u to v extends the value of the line `near` of u to z; a line whose code is that of
-- no value offers nothing
pub record Offers {V : Type 0} (A : Algebra V) (g : GraphData) (lines : List (Option Reached)) (u v : ℕ) (near : Reached) (z : V) : Type 0 where
  pub arc : ℕ
  pub is_arc : HasArc g arc
  pub tail_is : (arc_of g arc).tail ≡ u
  pub head_is : (arc_of g arc).head ≡ v
  pub value : V
  pub line_is : label_of lines u ≡ Some near
  pub code_is : IsCodeOf A near.code value
  pub extends : A.extend value (arc_of g arc).weight ≡ Some z

-- some arc from u to v gives the value of the line r of v
abbrev pub Gives : {V : Type 0} → Algebra V → GraphData → List (Option Reached) → ℕ → ℕ → Reached → Reached → Type 0
Gives {V} A g lines u v near r = (y : V) × IsCodeOf A r.code y × Offers A g lines u v near y

-- some arc gives v a better value than that of its line r
abbrev pub IsBeaten : {V : Type 0} → Algebra V → GraphData → List (Option Reached) → ℕ → Reached → Type 0
IsBeaten {V} A g lines v r =
    (y : V) × IsCodeOf A r.code y × ((u : ℕ) × (near : Reached) × (z : V) × Offers A g lines u v near z × (IsTrue (A.no_worse y z) → ⊥))

-- the hops of r are not one more than those of its parent, which gives the value
abbrev pub HasOtherHops : {V : Type 0} → Algebra V → GraphData → List (Option Reached) → ℕ → Reached → Type 0
HasOtherHops A g lines v r = (near : Reached) × Gives A g lines r.parent v near r × (near.hops + 1 ≢ r.hops)

-- a vertex gives the value with fewer hops than those of r
abbrev pub HasFewerHops : {V : Type 0} → Algebra V → GraphData → List (Option Reached) → ℕ → Reached → Type 0
HasFewerHops A g lines v r = (u : ℕ) × (near : Reached) × Gives A g lines u v near r × (near.hops + 1 < r.hops)

-- a vertex less than the parent gives the value with these hops
abbrev pub HasLesserParent : {V : Type 0} → Algebra V → GraphData → List (Option Reached) → ℕ → Reached → Type 0
HasLesserParent A g lines v r = (u : ℕ) × (near : Reached) × Gives A g lines u v near r × (u < r.parent) × (near.hops + 1 ≡ r.hops)

-- the reasons against the line of a vertex that is no source
abbrev pub IsRefuted : {V : Type 0} → Algebra V → GraphData → List (Option Reached) → ℕ → Option Reached → Reason → Type 0
IsRefuted {V} A g lines v None HasWalk = (u : ℕ) × (near : Reached) × (z : V) × Offers A g lines u v near z
IsRefuted A g lines v (Some r) NotBest = IsBeaten A g lines v r
IsRefuted A g lines v (Some r) NoParent = (near : Reached) → Gives A g lines r.parent v near r → ⊥
IsRefuted A g lines v (Some r) OtherHops = HasOtherHops A g lines v r ⊎ HasFewerHops A g lines v r
IsRefuted A g lines v (Some r) LesserParent = HasLesserParent A g lines v r
IsRefuted A g lines v _ _ = ⊥

-- the reasons against the line of v: at a source, that it is not the right line of a source
abbrev pub IsLineRefused : {V : Type 0} → Algebra V → GraphData → List ℕ → List (Option Reached) → ℕ → Reason → Type 0
IsLineRefused A g sources lines v Mismatch = Contains sources v × (label_of lines v ≢ source_line A)
IsLineRefused A g sources lines v reason = (Contains sources v → ⊥) × IsRefuted A g lines v (label_of lines v) reason

-- the reasons against the answer to a pair: it gives none and there is a walk, or its code, its
-- hops or its route are not the right ones
abbrev pub IsPairRefused : {V : Type 0} → Algebra V → GraphData → ℕ → ℕ → Option FoundData → Reason → Type 0
IsPairRefused {V} A g s t None HasWalk = (y : V) × IsWalkValue A g (s ∷ []) t y
IsPairRefused A g s t (Some f) NotBest = IsBestCode A g (s ∷ []) t f.code → ⊥
IsPairRefused A g s t (Some f) OtherHops = AreHops A g (s ∷ []) t f.hops → ⊥
IsPairRefused A g s t (Some f) OtherRoute = IsRouteBetween A g s t f.route → ⊥
IsPairRefused A g s t _ _ = ⊥

-- right, or the first reason of those that hold
abbrev pub IsFirstReason : Type 0 → (Reason → Type 0) → Option Reason → Type 0
IsFirstReason Right Holds None = Right
IsFirstReason Right Holds (Some r) = Holds r × ((s : Reason) → reason_number s < reason_number r → Holds s → ⊥)
