-- The heads of each place: the greater places to which it has an edge. Which these are depends on
-- the order alone.
use Rattle.std.specs.Prelude.{◌≡◌, ℕ, ◌-◌, ◌<◌, ◌≤◌, List, length, map, Contains, Option, None, Some, slice_index}
use Rattle.std.specs.List.Sorted.{IsStrictlyIncreasing}
use Rattle.road_graph.specs.GraphData.{GraphData, HasArc, arc_of}
use Rattle.path_factors.specs.declared.link.Link.{Link}
use Rattle.path_factors.specs.Factors.{row_of}

-- y is a head of place v
abbrev pub IsHead : List (List ℕ) → ℕ → ℕ → Type 0
IsHead heads v y = Contains (row_of heads v) y

-- the heads of rows of links
abbrev pub heads_in : {W : Type 0} → List (List (Link W)) → List (List ℕ)
heads_in rows = map (λ row. map (λ k. k.place) row) rows

-- heads that are kept, or else those of rows of links
abbrev pub heads_or : {W : Type 0} → Option (List (List ℕ)) → List (List (Link W)) → List (List ℕ)
heads_or (Some heads) rows = heads
heads_or None rows = heads_in rows

-- the heads of n places: each is greater than its place, those of a place ascend, and two of them
-- have an edge
pub record AreHeads (n : ℕ) (heads : List (List ℕ)) : Type 0 where
  pub count : length heads ≡ n
  pub rising : (v y : ℕ) → IsHead heads v y → (v < y) × (y < n)
  pub ascending : (v : ℕ) → IsStrictlyIncreasing (row_of heads v)
  pub nested : (v x y : ℕ) → IsHead heads v x → IsHead heads v y → x < y → IsHead heads x y

-- whichever of two places is the lesser, it has the other
abbrev pub IsJoined : (ℕ → ℕ → Type 0) → ℕ → ℕ → Type 0
IsJoined Has x y = (x < y → Has x y) × (y < x → Has y x)

-- whichever end of an arc has the lesser place has the other's
abbrev pub AreArcsJoined : (ℕ → ℕ → Type 0) → GraphData → List ℕ → Type 0
AreArcsJoined Has g places =
    (a : ℕ) → HasArc g a → IsJoined Has (slice_index places ((arc_of g a).tail - 1)) (slice_index places ((arc_of g a).head - 1))

-- heads for the elimination of a graph: each arc has an edge too
pub record IsOutline (g : GraphData) (places : List ℕ) (heads : List (List ℕ)) : Type 0 where
  pub are : AreHeads g.vertices heads
  pub joined : AreArcsJoined (IsHead heads) g places

-- of the heads that the end of edge i of place v shares with v's, those from index j of v on are
-- from index q of its own on
abbrev pub AreAhead : List (List ℕ) → ℕ → ℕ → ℕ → ℕ → Type 0
AreAhead heads v i j q =
    (p m : ℕ) → j ≤ p → p < length (row_of heads v) → m < length (row_of heads (slice_index (row_of heads v) i)) →
    slice_index (row_of heads (slice_index (row_of heads v) i)) m ≡ slice_index (row_of heads v) p → q ≤ m
