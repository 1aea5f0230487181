-- The numbers of the arcs at each vertex, one row after the other.
use Rattle.std.specs.Prelude.{◌≡◌, ℕ, ◌+◌, ◌-◌, ◌≤◌, List, length, slice_index, slice_range}
use Rattle.road_graph.specs.GraphData.{GraphData, ListsArcsFrom}
use Rattle.road_graph.specs.Making.{HasRow}

-- row v lies in the list, and has exactly the arcs that leave v
pub record IsRowFrom (g : GraphData) (starts numbers : List ℕ) (v : ℕ) : Type 0 where
  pub row : HasRow starts numbers v
  pub arcs : ListsArcsFrom g v (slice_range numbers (slice_index starts (v - 1)) (slice_index starts v))

-- the rows of the vertices 1 to n
pub record AreRowsFrom (g : GraphData) (n : ℕ) (starts numbers : List ℕ) : Type 0 where
  pub count : length starts ≡ n + 1
  pub last : slice_index starts n ≡ length numbers
  pub rows : (v : ℕ) → 1 ≤ v → v ≤ n → IsRowFrom g starts numbers v
