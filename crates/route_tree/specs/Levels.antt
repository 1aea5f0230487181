-- Going through the vertices by levels of hops, over the arcs that pass a test.
use Rattle.std.specs.Prelude.{◌≡◌, ℕ, ◌+◌, ◌-◌, ◌≤◌, ◌⊎◌, List, [], ◌∷◌, ◌++◌, length, All, Contains, Bool, true, cond, eqb, leb, IsTrue, Option, Some, None, slice_set, sum_by}
use Rattle.road_graph.specs.GraphData.{GraphData, HasVertex, HasArc, arc_of}
use Rattle.path_algebra.specs.Walks.{label_of, IsWalkFrom}

-- some walk of k arcs that pass the test leads to v
abbrev pub IsWalkOf : GraphData → (ℕ → Bool) → List ℕ → ℕ → ℕ → Type 0
IsWalkOf g test sources v k = (p : List ℕ) × IsWalkFrom g sources p v × All (λ a. IsTrue (test a)) p × (length p ≡ k)

-- the least length of such a walk, none if there is no such walk
abbrev pub IsLeastAt : GraphData → (ℕ → Bool) → List ℕ → ℕ → Option ℕ → Type 0
IsLeastAt g test sources v None = (k : ℕ) → IsWalkOf g test sources v k → ⊥
IsLeastAt g test sources v (Some k) = IsWalkOf g test sources v k × ((j : ℕ) → IsWalkOf g test sources v j → k ≤ j)

-- least lengths at every vertex
pub record AreLeast (g : GraphData) (test : ℕ → Bool) (sources : List ℕ) (hops : List (Option ℕ)) : Type 0 where
  pub count : length hops ≡ g.vertices
  pub least : (v : ℕ) → HasVertex g v → IsLeastAt g test sources v (label_of hops v)

-- an arc of the tree: it passes the test, and its head has one hop more than its tail
pub record IsTreeArc (g : GraphData) (test : ℕ → Bool) (hops : List (Option ℕ)) (a : ℕ) : Type 0 where
  pub arc : HasArc g a
  pub passes : test a ≡ true
  pub near : ℕ
  pub at_tail : label_of hops (arc_of g a).tail ≡ Some near
  pub at_head : label_of hops (arc_of g a).head ≡ Some (near + 1)

-- the least tail among the arcs of the tree that enter v, or none
abbrev pub IsLeastTail : GraphData → (ℕ → Bool) → List (Option ℕ) → ℕ → Option ℕ → Type 0
IsLeastTail g test hops v None = (a : ℕ) → IsTreeArc g test hops a → (arc_of g a).head ≡ v → ⊥
IsLeastTail g test hops v (Some u) =
    ((a : ℕ) × IsTreeArc g test hops a × ((arc_of g a).head ≡ v) × ((arc_of g a).tail ≡ u))
    × ((a : ℕ) → IsTreeArc g test hops a → (arc_of g a).head ≡ v → u ≤ (arc_of g a).tail)

-- least tails at every vertex
pub record AreLeastTails (g : GraphData) (test : ℕ → Bool) (hops parents : List (Option ℕ)) : Type 0 where
  pub count : length parents ≡ g.vertices
  pub tails : (v : ℕ) → HasVertex g v → IsLeastTail g test hops v (label_of parents v)

-- the lesser parent
abbrev pub lesser : Option ℕ → ℕ → Option ℕ
lesser None u = Some u
lesser (Some t) u = Some (cond (leb t u) t u)

-- hops, parents and the next level after an arc from u reached v, k arcs from a source; the last
-- argument is the hops that v had
abbrev pub hops_if : ℕ → List (Option ℕ) → ℕ → Option ℕ → List (Option ℕ)
hops_if k hops v None = slice_set hops (v - 1) (Some k)
hops_if k hops v (Some j) = hops

-- the parents after a tight arc led to a vertex with these hops
abbrev pub parents_if : ℕ → List (Option ℕ) → ℕ → ℕ → Option ℕ → List (Option ℕ)
parents_if k parents v u None = slice_set parents (v - 1) (Some u)
parents_if k parents v u (Some j) = cond (eqb j k) (slice_set parents (v - 1) (lesser (label_of parents v) u)) parents

-- the next level after that
abbrev pub next_if : List ℕ → ℕ → Option ℕ → List ℕ
next_if next v None = next ++ (v ∷ [])
next_if next v (Some j) = next

-- one for a vertex that has no hops
abbrev pub one_if_unreached : Option ℕ → ℕ
one_if_unreached None = 1
one_if_unreached (Some k) = 0

-- how many vertices have no hops
abbrev pub unreached : List (Option ℕ) → ℕ
unreached hops = sum_by one_if_unreached hops

-- the head of an arc has hops, at most k; if it has k, also a parent that is no greater than the
-- arc's tail
pub record IsPassed (g : GraphData) (hops parents : List (Option ℕ)) (a k : ℕ) : Type 0 where
  pub far : ℕ
  pub at_head : label_of hops (arc_of g a).head ≡ Some far
  pub few : far ≤ k
  pub parent : far ≡ k → (u : ℕ) × (label_of parents (arc_of g a).head ≡ Some u) × (u ≤ (arc_of g a).tail)

-- while the vertices at k hops are visited: those in `pending` wait, and the arcs in `arcs`; those
-- in `next` have k + 1
pub record Visiting (g : GraphData) (test : ℕ → Bool) (sources : List ℕ) (k : ℕ) (hops parents : List (Option ℕ)) (pending arcs next : List ℕ) : Type 0 where
  pub count : length hops ≡ g.vertices
  pub parents_count : length parents ≡ g.vertices
  pub attained : (v j : ℕ) → HasVertex g v → label_of hops v ≡ Some j → IsWalkOf g test sources v j
  pub at_sources : (s : ℕ) → Contains sources s → HasVertex g s × (label_of hops s ≡ Some 0)
  pub few : (v j : ℕ) → HasVertex g v → label_of hops v ≡ Some j → j ≤ k + 1
  pub adopted : (v u : ℕ) → HasVertex g v → label_of parents v ≡ Some u → (a : ℕ) × IsTreeArc g test hops a × ((arc_of g a).head ≡ v) × ((arc_of g a).tail ≡ u)
  pub pending_at : (v : ℕ) → Contains pending v → HasVertex g v × (label_of hops v ≡ Some k)
  pub next_at : (v : ℕ) → Contains next v → HasVertex g v × (label_of hops v ≡ Some (k + 1))
  pub arcs_at : (a : ℕ) → Contains arcs a → HasArc g a × (label_of hops (arc_of g a).tail ≡ Some k)
  pub closed : (a j : ℕ) → HasArc g a → test a ≡ true → label_of hops (arc_of g a).tail ≡ Some j →
      Contains arcs a ⊎ (Contains pending (arc_of g a).tail ⊎ (Contains next (arc_of g a).tail ⊎ IsPassed g hops parents a (j + 1)))

-- after the sources in `done`: each has 0 hops, and a vertex with hops is a source, is in the level
-- and has 0
pub record IsMarked (n : ℕ) (sources done : List ℕ) (hops : List (Option ℕ)) (level : List ℕ) : Type 0 where
  pub count : length hops ≡ n
  pub at_done : (s : ℕ) → Contains done s → label_of hops s ≡ Some 0
  pub only : (v j : ℕ) → 1 ≤ v → v ≤ n → label_of hops v ≡ Some j → (j ≡ 0) × Contains sources v × Contains level v
  pub level_at : (v : ℕ) → Contains level v → (1 ≤ v) × (v ≤ n) × (label_of hops v ≡ Some 0)

-- whether a walk of k arcs could change the hops or the parent of a vertex with these hops
abbrev pub is_near : Option ℕ → ℕ → Bool
is_near None k = true
is_near (Some j) k = eqb j k
