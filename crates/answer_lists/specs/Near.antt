-- The vertices that are reached from the nearest of some sources, the best first, in four lists.
use Rattle.std.specs.Prelude.{◌≡◌, ◌≤◌, ◌⊎◌, ℕ, ℤ, pos, List, [], Option, All, length, map, take, drop}
use Rattle.std.specs.List.{AllZip}
use Rattle.road_graph.specs.GraphData.{GraphData, HasVertex}
use Rattle.path_algebra.specs.Algebra.{Algebra}
use Rattle.path_algebra.specs.Walks.{label_of}
use Rattle.route_tree.specs.Tree.{Branches, hops_of, parent_of}
use Rattle.tree_search.specs.Nearest.{AreNearest}
use Rattle.tree_search.specs.Searcher.{TreeSearcherState}
use Rattle.answer_text.specs.IsAnswer.{IsVertexLine}
use Rattle.answer_lists.specs.Answers.{HavePlaces, IsFound}
use Rattle.answer_lists.specs.Tree.{code_for, line_of, lines_of, number_for}
use Rattle.answer_lists.specs.declared.near_lists.NearLists.{NearLists}

-- the vertices are those that are reached, each once, the best first, and the other lists have the
-- code, the hops and the parent of each, in the same order
pub record AreNearLines {V : Type 0} (A : Algebra V) (g : GraphData) (sources vertices codes hops parents : List ℕ) : Type 0 where
  pub nearest : AreNearest A g sources vertices
  pub places : HavePlaces (length vertices) codes hops parents
  pub lines : AllZip (IsVertexLine A g sources) vertices (lines_of codes hops parents)

-- the first n places of a list are these numbers, or it has no place, since it is not wanted
abbrev pub BeginsOrNone : ℕ → List ℕ → List ℕ → Type 0
BeginsOrNone n list numbers = (take n list ≡ numbers) ⊎ (list ≡ [])

-- so many vertices are reached, and the lists begin with them and their lines, but for the lists
-- that are not wanted
pub record AreNearLists {V : Type 0} (A : Algebra V) (g : GraphData) (sources : List ℕ) (count : ℕ) (vertices codes hops parents : List ℕ) : Type 0 where
  pub all_vertices : List ℕ
  pub all_codes : List ℕ
  pub all_hops : List ℕ
  pub all_parents : List ℕ
  pub near : AreNearLines A g sources all_vertices all_codes all_hops all_parents
  pub count_is : count ≡ length all_vertices
  pub vertices_are : BeginsOrNone count vertices all_vertices
  pub codes_are : BeginsOrNone count codes all_codes
  pub hops_are : BeginsOrNone count hops all_hops
  pub parents_are : BeginsOrNone count parents all_parents

-- so many vertices are reached
abbrev pub IsReachedCount : {V : Type 0} → Algebra V → GraphData → List ℕ → ℕ → Type 0
IsReachedCount A g sources count = (found : List ℕ) × AreNearest A g sources found × (count ≡ length found)

-- so many places are one for each of n vertices or more, or none
abbrev pub IsLongOrNone : ℕ → ℕ → Type 0
IsLongOrNone n count = (n ≤ count) ⊎ (count ≡ 0)

-- each list has a place for each of n vertices or more, or none
abbrev pub AreLongOrNone : ℕ → List ℕ → List ℕ → List ℕ → List ℕ → Type 0
AreLongOrNone n vertices codes hops parents =
    IsLongOrNone n (length vertices) × IsLongOrNone n (length codes) × IsLongOrNone n (length hops) × IsLongOrNone n (length parents)

-- two lists are the same after so many places
abbrev pub IsSameAfter : ℕ → List ℕ → List ℕ → Type 0
IsSameAfter n old new = drop n new ≡ drop n old

-- so many vertices are reached, and the lists of a caller begin with them and their lines
abbrev pub HaveNear : {V : Type 0} → Algebra V → GraphData → List ℕ → NearLists → Type 0
HaveNear A g sources lists = AreNearLists A g sources lists.count.now lists.vertices.now lists.codes.now lists.hops.now lists.parents.now

-- these are the same lists and the same count, whatever is written
abbrev pub AreSameNear : NearLists → NearLists → Type 0
AreSameNear old new = (new.vertices.ghost_name ≡ old.vertices.ghost_name) × (new.codes.ghost_name ≡ old.codes.ghost_name) × (new.hops.ghost_name ≡ old.hops.ghost_name) × (new.parents.ghost_name ≡ old.parents.ghost_name) × (new.count.ghost_name ≡ old.count.ghost_name)

-- which places of the lists of a caller are written, as the status says: of each the first ones, if
-- all lists are long enough, and else none; and the count, if there is one
pub record IsWrittenNear (old new : NearLists) (status : ℤ) : Type 0 where
  pub same : AreSameNear old new
  pub rest : status ≡ pos 0 → IsSameAfter new.count.now old.vertices.now new.vertices.now × IsSameAfter new.count.now old.codes.now new.codes.now
      × IsSameAfter new.count.now old.hops.now new.hops.now × IsSameAfter new.count.now old.parents.now new.parents.now
  pub short : status ≡ pos 2 → AreLongOrNone new.count.now old.vertices.now old.codes.now old.hops.now old.parents.now → ⊥
  pub long : status ≡ pos 0 → AreLongOrNone new.count.now old.vertices.now old.codes.now old.hops.now old.parents.now
  pub kept : (status ≡ pos 0 → ⊥) → (new.vertices.now ≡ old.vertices.now) × (new.codes.now ≡ old.codes.now) × (new.hops.now ≡ old.hops.now) × (new.parents.now ≡ old.parents.now)
  pub place : (IsFound status → ⊥) → new.count.now ≡ old.count.now

-- the numbers that are written for the label, the hops and the parent of a vertex
abbrev pub code_at : {V : Type 0} → Algebra V → List (Option V) → ℕ → ℕ
code_at A labels v = code_for A (label_of labels v)

abbrev pub hops_at : Branches → ℕ → ℕ
hops_at tree v = number_for (hops_of tree v)

abbrev pub parent_at : Branches → ℕ → ℕ
parent_at tree v = number_for (parent_of tree v)

-- a searcher of trees of this graph has reached from these sources what is reached: it has the line
-- of each vertex, and lists those that are reached, the best first
pub record HasReached {V : Type 0} (A : Algebra V) (g : GraphData) (sources : List ℕ) (t : TreeSearcherState V) : Type 0 where
  pub roads : t.roads ≡ g
  pub vertices : All (HasVertex g) t.reached
  pub near : AreNearLines A g sources t.reached (map (code_at A t.labels) t.reached) (map (hops_at t.tree) t.reached) (map (parent_at t.tree) t.reached)
  pub lines : (v : ℕ) → HasVertex g v → IsVertexLine A g sources v (line_of (code_at A t.labels v) (hops_at t.tree v) (parent_at t.tree v))
