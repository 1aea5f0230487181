-- Regions of a graph, and the search from a target back over the arcs that pass a test, which makes
-- one.
use Rattle.std.specs.Prelude.{◌≡◌, ℕ, ◌+◌, ◌≤◌, ◌⊎◌, List, [], ◌∷◌, length, All, Contains, Bool, true, false, cond, IsTrue, Option, Some, None, sum_by}
use Rattle.road_graph.specs.GraphData.{GraphData, HasVertex, HasArc, arc_of}
use Rattle.path_algebra.specs.Algebra.{Algebra}
use Rattle.path_algebra.specs.Walks.{is_marked, is_tight, IsWalk}
use Rattle.route_tree.specs.Levels.{IsWalkOf}

-- whether a vertex is in a region: each one is if there are no marks, else those with a mark
abbrev pub in_region : Option (List Bool) → ℕ → Bool
in_region None v = true
in_region (Some marks) v = is_marked marks v

-- whether the labels say that an arc is tight, and its head is in the region
abbrev pub is_tight_into : {V : Type 0} → Algebra V → GraphData → List (Option V) → Option (List Bool) → ℕ → Bool
is_tight_into A g labels region a = cond (in_region region (arc_of g a).head) (is_tight A g labels a) false

-- a walk of at most k arcs that pass the test leads from v to the target
abbrev pub IsWithinHops : GraphData → (ℕ → Bool) → ℕ → ℕ → ℕ → Type 0
IsWithinHops g test target k v = (p : List ℕ) × IsWalk g v p target × All (λ a. IsTrue (test a)) p × (length p ≤ k)

-- each vertex is marked from which such a walk leads to the target, no longer than any from the
-- source
abbrev pub Covers : GraphData → (ℕ → Bool) → ℕ → ℕ → List Bool → Type 0
Covers g test source target marks = (v k : ℕ) → IsWithinHops g test target k v → ((j : ℕ) → IsWalkOf g test (source ∷ []) target j → k ≤ j) → IsTrue (is_marked marks v)

-- one for a vertex that has no mark
abbrev pub is_unmarked : Bool → ℕ
is_unmarked true = 0
is_unmarked false = 1

-- how many vertices have no mark
abbrev pub unmarked : List Bool → ℕ
unmarked marks = sum_by is_unmarked marks

-- while the vertices k arcs before the target are visited: those in `pending` wait, and the arcs in
-- `arcs`; those in `next` are one arc further
pub record VisitingBack (g : GraphData) (test : ℕ → Bool) (target k : ℕ) (marks : List Bool) (pending arcs next : List ℕ) : Type 0 where
  pub count : length marks ≡ g.vertices
  pub attained : (v : ℕ) → HasVertex g v → IsTrue (is_marked marks v) → IsWithinHops g test target k v ⊎ Contains next v
  pub complete : (v : ℕ) → IsWithinHops g test target k v → IsTrue (is_marked marks v) × (Contains next v → ⊥)
  pub pending_at : (v : ℕ) → Contains pending v → HasVertex g v × IsWithinHops g test target k v
  pub next_at : (v : ℕ) → Contains next v → HasVertex g v × IsWithinHops g test target (k + 1) v
  pub arcs_at : (a : ℕ) → Contains arcs a → HasArc g a × IsWithinHops g test target k (arc_of g a).head
  pub closed : (a : ℕ) → HasArc g a → test a ≡ true → IsTrue (is_marked marks (arc_of g a).head) →
      Contains arcs a ⊎ (Contains pending (arc_of g a).head ⊎ (Contains next (arc_of g a).head ⊎ IsTrue (is_marked marks (arc_of g a).tail)))

-- from each marked vertex a walk that passes the test leads to the target
abbrev pub LeadTo : GraphData → (ℕ → Bool) → ℕ → List Bool → Type 0
LeadTo g test target marks = (v : ℕ) → HasVertex g v → IsTrue (is_marked marks v) → (k : ℕ) × IsWithinHops g test target k v
