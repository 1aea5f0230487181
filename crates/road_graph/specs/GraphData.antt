-- A directed road graph as its list of arcs. Arcs are numbered from 1 in the order of the list.
use Rattle.std.specs.Prelude.{◌≡◌, ℕ, ◌-◌, ◌<◌, ◌≤◌, ◌^◌, ◌↔◌, List, [], ◌∷◌, length, map, Contains, slice_index, slice_index_or}
use Rattle.road_graph.specs.declared.RoadArc.{RoadArc}
use Rattle.road_graph.specs.declared.OutRoad.{OutRoad}

-- what a graph is: how many vertices it has, and its arcs
pub record GraphData : Type 0 where
  pub vertices : ℕ
  pub arcs : List RoadArc

-- the numbers of vertices are 1 to n
abbrev pub HasVertex : GraphData → ℕ → Type 0
HasVertex g v = (1 ≤ v) × (v ≤ g.vertices)

-- the numbers of arcs are 1 to M
abbrev pub HasArc : GraphData → ℕ → Type 0
HasArc g a = (1 ≤ a) × (a ≤ length g.arcs)

-- the arc of a number
abbrev pub arc_of : GraphData → ℕ → RoadArc
arc_of g a = slice_index_or g.arcs (a - 1) (record { tail = 0; head = 0; weight = 0 })

-- both ends of the arc are among the vertices 1 to n
abbrev pub JoinsVertices : ℕ → RoadArc → Type 0
JoinsVertices n a = ((1 ≤ a.tail) × (a.tail ≤ n)) × ((1 ≤ a.head) × (a.head ≤ n))

-- what holds of every graph: its arcs join its vertices, weights are below 2^32, and the limits are
-- kept
pub record IsGraph (g : GraphData) : Type 0 where
  pub ends : (a : ℕ) → HasArc g a → JoinsVertices g.vertices (arc_of g a)
  pub weights : (a : ℕ) → HasArc g a → (arc_of g a).weight < 2 ^ 32
  pub few_vertices : g.vertices ≤ 2 ^ 25
  pub few_arcs : length g.arcs ≤ 2 ^ 27

-- numbers that rise, all above low
abbrev pub IsAscendingFrom : ℕ → List ℕ → Type 0
IsAscendingFrom low [] = Unit {0}
IsAscendingFrom low (x ∷ xs) = (low < x) × IsAscendingFrom x xs

-- the list has exactly the arcs that leave v, in ascending order
pub record ListsArcsFrom (g : GraphData) (v : ℕ) (numbers : List ℕ) : Type 0 where
  pub complete : (a : ℕ) → Contains numbers a ↔ (HasArc g a × ((arc_of g a).tail ≡ v))
  pub ascending : IsAscendingFrom 0 numbers

-- a is at this index in the list of the arcs that leave its tail
pub record IsRank (g : GraphData) (a index : ℕ) : Type 0 where
  pub numbers : List ℕ
  pub lists : ListsArcsFrom g (arc_of g a).tail numbers
  pub inside : index < length numbers
  pub found : slice_index numbers index ≡ a

-- an arc as it is seen from its tail
abbrev pub road_of : RoadArc → OutRoad
road_of a = record { head = a.head; weight = a.weight }

-- the roads of a list of arc numbers, in its order
abbrev pub roads_of : GraphData → List ℕ → List OutRoad
roads_of g numbers = map (λ a. road_of (arc_of g a)) numbers

-- the roads of exactly the arcs that leave v, in ascending order of the arcs' numbers
abbrev pub ListsRoadsFrom : GraphData → ℕ → List OutRoad → Type 0
ListsRoadsFrom g v roads = (numbers : List ℕ) × ListsArcsFrom g v numbers × (roads ≡ roads_of g numbers)

-- an arc reversed: its ends are exchanged
abbrev pub reversed_arc : RoadArc → RoadArc
reversed_arc a = record { tail = a.head; head = a.tail; weight = a.weight }

-- on the same vertices r has the arcs of g reversed, each once, in any order
pub record IsReversed (g r : GraphData) : Type 0 where
  pub vertices : r.vertices ≡ g.vertices
  pub numbers : List ℕ
  pub complete : (a : ℕ) → Contains numbers a ↔ HasArc g a
  pub count : length numbers ≡ length g.arcs
  pub arcs : r.arcs ≡ map (λ a. reversed_arc (arc_of g a)) numbers

-- the roads of exactly the arcs that enter v, each reversed, in any order
abbrev pub ListsRoadsInto : GraphData → ℕ → List OutRoad → Type 0
ListsRoadsInto g v roads =
    (numbers : List ℕ) × ((a : ℕ) → Contains numbers a ↔ (HasArc g a × ((arc_of g a).head ≡ v))) × (roads ≡ map (λ a. road_of (reversed_arc (arc_of g a))) numbers)
