-- Lists with a place for each vertex that are blank, or blank but at some vertices.
use Rattle.std.specs.Prelude.{◌≡◌, ℕ, ◌-◌, ◌≤◌, ◌⊎◌, List, length, Contains, Bool, false, None, replicate, slice_index_or}
use Rattle.road_graph.specs.GraphData.{GraphData, HasVertex}
use Rattle.path_algebra.specs.Walks.{is_marked}
use Rattle.route_tree.specs.Tree.{Branches}

-- n vertices have no mark, no hops and no parent
pub record AreBlank (n : ℕ) (marks : List Bool) (t : Branches) : Type 0 where
  pub no_marks : marks ≡ replicate n false
  pub no_hops : t.hops ≡ replicate n None
  pub no_parents : t.parents ≡ replicate n None

-- a list is blank but at the vertices that were found, which have places in it
pub record IsBlankBut {X : Type 0} (blank : X) (found : List ℕ) (list : List X) : Type 0 where
  pub inside : (v : ℕ) → Contains found v → (1 ≤ v) × (v ≤ length list)
  pub others : (v : ℕ) → 1 ≤ v → v ≤ length list → Contains found v ⊎ (slice_index_or list (v - 1) blank ≡ blank)

-- the list has vertices, and each marked one
pub record AreFound (g : GraphData) (marks : List Bool) (found : List ℕ) : Type 0 where
  pub inside : (v : ℕ) → Contains found v → HasVertex g v
  pub marked : (v : ℕ) → HasVertex g v → Contains found v ⊎ (is_marked marks v ≡ false)
