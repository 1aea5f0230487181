-- A tree in three lists, each with a number for each vertex, and the first vertex at which such
-- lists are wrong.
use Rattle.std.specs.Prelude.{◌≡◌, ◌⊎◌, ℕ, ◌==◌, ◌&&◌, if◌then◌else◌, true, List, [], ◌∷◌, Option, Some, None, MatchOption, length}
use Rattle.road_graph.specs.GraphData.{GraphData, HasVertex}
use Rattle.path_algebra.specs.Algebra.{Algebra}
use Rattle.answer_text.specs.declared.answers.Reached.{Reached}
use Rattle.answer_text.specs.IsAnswer.{AreVertexLines}
use Rattle.answer_check.specs.declared.place.Place.{Place}
use Rattle.answer_check.specs.declared.verdict.Reason.{Reason}
use Rattle.answer_check.specs.Reasons.{IsLineRefused, reason_number}
use Rattle.answer_check.specs.Verdicts.{IsEarlier}
use Rattle.answer_lists.specs.Answers.{HavePlaces}
use Rattle.answer_lists.specs.declared.judging.FirstRefuted.{FirstRefuted}
use Rattle.answer_lists.specs.declared.tree_lists.TreeLists.{TreeLists}

-- the line of a vertex with this code, hops and parent; 2^64 - 1, 0 and 0 mean that no walk to it
-- has a value
abbrev pub line_of : ℕ → ℕ → ℕ → Option Reached
line_of code hops parent =
    if (code == 18446744073709551615) && ((hops == 0) && (parent == 0)) then None
    else Some (record { code = code; hops = hops; parent = parent })

-- the lines of the vertices, in order
abbrev pub lines_of : List ℕ → List ℕ → List ℕ → List (Option Reached)
lines_of [] hs ps = []
lines_of (c ∷ cs) [] ps = []
lines_of (c ∷ cs) (h ∷ hs) [] = []
lines_of (c ∷ cs) (h ∷ hs) (p ∷ ps) = line_of c h p ∷ lines_of cs hs ps

-- the lists are the tree: each has a place for each vertex, and their lines are the right ones
pub record AreTreeLists {V : Type 0} (A : Algebra V) (g : GraphData) (sources codes hops parents : List ℕ) : Type 0 where
  pub places : HavePlaces g.vertices codes hops parents
  pub lines : AreVertexLines A g sources (lines_of codes hops parents)

-- a list is this one, or has no place, since it is not wanted
abbrev pub IsListOrNone : List ℕ → List ℕ → Type 0
IsListOrNone list whole = (list ≡ whole) ⊎ (list ≡ [])

-- the lists are those of the tree, but for the ones that are not wanted
pub record AreWantedLists {V : Type 0} (A : Algebra V) (g : GraphData) (sources codes hops parents : List ℕ) : Type 0 where
  pub all_codes : List ℕ
  pub all_hops : List ℕ
  pub all_parents : List ℕ
  pub tree : AreTreeLists A g sources all_codes all_hops all_parents
  pub codes_are : IsListOrNone codes all_codes
  pub hops_are : IsListOrNone hops all_hops
  pub parents_are : IsListOrNone parents all_parents

-- so many places are one for each of n vertices, or none
abbrev pub IsAllOrNone : ℕ → ℕ → Type 0
IsAllOrNone n count = (count ≡ n) ⊎ (count ≡ 0)

-- each list has a place for each of n vertices, or none
abbrev pub HaveAllOrNone : ℕ → List ℕ → List ℕ → List ℕ → Type 0
HaveAllOrNone n codes hops parents = IsAllOrNone n (length codes) × IsAllOrNone n (length hops) × IsAllOrNone n (length parents)

-- each list that is wanted has a place for each of n vertices
abbrev pub HavePlacesOrNone : ℕ → TreeLists → Type 0
HavePlacesOrNone n lists = HaveAllOrNone n lists.codes.now lists.hops.now lists.parents.now

-- the lists that are wanted are those of the tree
abbrev pub HaveTree : {V : Type 0} → Algebra V → GraphData → List ℕ → TreeLists → Type 0
HaveTree A g sources lists = AreWantedLists A g sources lists.codes.now lists.hops.now lists.parents.now

-- these are the same lists, whatever is written to them
abbrev pub AreSameLists : TreeLists → TreeLists → Type 0
AreSameLists old new = (new.codes.ghost_name ≡ old.codes.ghost_name) × (new.hops.ghost_name ≡ old.hops.ghost_name) × (new.parents.ghost_name ≡ old.parents.ghost_name)

-- nothing is written to them
abbrev pub AreUnwritten : TreeLists → TreeLists → Type 0
AreUnwritten old new = (new.codes.now ≡ old.codes.now) × (new.hops.now ≡ old.hops.now) × (new.parents.now ≡ old.parents.now)

-- the lists are not the tree, and v is the first vertex whose line its neighbours' lines refute;
-- the first reason has this number
pub record IsFirstRefuted {V : Type 0} (A : Algebra V) (g : GraphData) (sources codes hops parents : List ℕ) (v number : ℕ) : Type 0 where
  pub wrong : AreTreeLists A g sources codes hops parents → ⊥
  pub vertex : HasVertex g v
  pub reason : Reason
  pub number_is : number ≡ reason_number reason
  pub refused : IsLineRefused A g sources (lines_of codes hops parents) v reason
  pub first : (u : ℕ) (r : Reason) → IsEarlier u r v reason → HasVertex g u → IsLineRefused A g sources (lines_of codes hops parents) u r → ⊥

-- what a check found: the lists are the tree, or this is the first place where they are wrong
abbrev pub AreJudged : {V : Type 0} → Algebra V → GraphData → List ℕ → List ℕ → List ℕ → List ℕ → Option Place → Type 0
AreJudged A g sources codes hops parents found = MatchOption found (AreTreeLists A g sources codes hops parents)
    (λ p. IsFirstRefuted A g sources codes hops parents p.vertex (reason_number p.reason))

-- the report of a check lies where it did
abbrev pub IsSameReport : FirstRefuted → FirstRefuted → Type 0
IsSameReport old new = (new.vertex.ghost_name ≡ old.vertex.ghost_name) × (new.reason.ghost_name ≡ old.reason.ghost_name)

-- the number that is written for a code, hops or a parent, or for none
abbrev pub code_for : {V : Type 0} → Algebra V → Option V → ℕ
code_for A None = 18446744073709551615
code_for A (Some x) = A.code x

abbrev pub number_for : Option ℕ → ℕ
number_for None = 0
number_for (Some k) = k

-- no value has the code that is written for none
abbrev pub HasLowCodes : {V : Type 0} → Algebra V → Type 0
HasLowCodes {V} A = (x : V) → A.is_value x ≡ true → (A.code x ≡ 18446744073709551615 → ⊥)
