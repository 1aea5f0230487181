-- Walks of a graph from some source of a list, their values, and the best ones; then tight arcs,
-- hops and parents. Walk, value and best are after Carre, An algebra for network routing problems
-- (1971). Tight arcs, hops and parents are how this project chooses among walks of equal value.
use Rattle.std.specs.Prelude.{◌≡◌, ℕ, ◌+◌, ◌≤◌, List, [], ◌∷◌, length, All, Contains, Bool, IsTrue, Option, Some, None}
use Rattle.road_graph.specs.GraphData.{GraphData, HasArc, HasVertex, arc_of}
use Rattle.path_algebra.specs.Algebra.{Algebra}
pub use Rattle.path_algebra.specs.LabelSteps.{label_of, is_marked, improved, better_label, offered, offered_if, relaxed, is_reached_by, is_tight_between, is_tight}

-- p, a list of arc numbers, leads from u to v: each arc begins where the one before ended
abbrev pub IsWalk : GraphData → ℕ → List ℕ → ℕ → Type 0
IsWalk g u [] v = u ≡ v
IsWalk g u (a ∷ p) v = HasArc g a × ((arc_of g a).tail ≡ u) × IsWalk g (arc_of g a).head p v

-- p leads from some source to v
abbrev pub IsWalkFrom : GraphData → List ℕ → List ℕ → ℕ → Type 0
IsWalkFrom g sources p v = (s : ℕ) × Contains sources s × IsWalk g s p v

-- the arcs of p, from left to right, take the value x to y, and none of them is refused
abbrev pub Extends : {V : Type 0} → Algebra V → GraphData → V → List ℕ → V → Type 0
Extends A g x [] y = x ≡ y
Extends {V} A g x (a ∷ p) y = (z : V) × (A.extend x (arc_of g a).weight ≡ Some z) × Extends A g z p y

-- some walk to v has the value x: its arcs take the origin to x
abbrev pub IsWalkValue : {V : Type 0} → Algebra V → GraphData → List ℕ → ℕ → V → Type 0
IsWalkValue A g sources v x = (p : List ℕ) × IsWalkFrom g sources p v × Extends A g A.origin p x

-- x is the best value at v: some walk to v has it, and it is no worse than the value of any
pub record IsBest {V : Type 0} (A : Algebra V) (g : GraphData) (sources : List ℕ) (v : ℕ) (x : V) : Type 0 where
  pub attained : IsWalkValue A g sources v x
  pub least : (y : V) → IsWalkValue A g sources v y → IsTrue (A.no_worse x y)

-- the code of the best value at v
abbrev pub IsBestCode : {V : Type 0} → Algebra V → GraphData → List ℕ → ℕ → ℕ → Type 0
IsBestCode {V} A g sources v code = (x : V) × IsBest A g sources v x × (code ≡ A.code x)

-- no walk to v has a value
abbrev pub IsUnreached : {V : Type 0} → Algebra V → GraphData → List ℕ → ℕ → Type 0
IsUnreached {V} A g sources v = (y : V) → IsWalkValue A g sources v y → ⊥

-- a best label: the best value, and none exactly if no walk has a value
abbrev pub IsBestLabel : {V : Type 0} → Algebra V → GraphData → List ℕ → ℕ → Option V → Type 0
IsBestLabel A g sources v None = IsUnreached A g sources v
IsBestLabel A g sources v (Some x) = IsBest A g sources v x

-- one label for each vertex, each of them best
pub record AreBest {V : Type 0} (A : Algebra V) (g : GraphData) (sources : List ℕ) (labels : List (Option V)) : Type 0 where
  pub count : length labels ≡ g.vertices
  pub best : (v : ℕ) → HasVertex g v → IsBestLabel A g sources v (label_of labels v)

-- each label is the value of a walk
abbrev pub AreWalkValues : {V : Type 0} → Algebra V → GraphData → List ℕ → List (Option V) → Type 0
AreWalkValues {V} A g sources labels =
    (v : ℕ) (x : V) → HasVertex g v → label_of labels v ≡ Some x → IsWalkValue A g sources v x

-- the arc a improves no label: if it extends the tail's, the head has one that is no worse
abbrev pub IsNotImproving : {V : Type 0} → Algebra V → GraphData → List (Option V) → ℕ → Type 0
IsNotImproving {V} A g labels a =
    (x z : V) → label_of labels (arc_of g a).tail ≡ Some x → A.extend x (arc_of g a).weight ≡ Some z →
    (y : V) × (label_of labels (arc_of g a).head ≡ Some y) × IsTrue (A.no_worse y z)

-- each label is the value of a walk, each source has one no worse than the origin, and no arc
-- improves a label
pub record AreClosed {V : Type 0} (A : Algebra V) (g : GraphData) (sources : List ℕ) (labels : List (Option V)) : Type 0 where
  pub count : length labels ≡ g.vertices
  pub values : AreWalkValues A g sources labels
  pub at_sources : (s : ℕ) → Contains sources s →
      (x : V) × (label_of labels s ≡ Some x) × IsTrue (A.no_worse x A.origin)
  pub not_improving : (a : ℕ) → HasArc g a → IsNotImproving A g labels a

-- a tight arc: both ends have best values, and that of the tail, extended, is that of the head
pub record IsTight {V : Type 0} (A : Algebra V) (g : GraphData) (sources : List ℕ) (a : ℕ) : Type 0 where
  pub arc : HasArc g a
  pub tail : V
  pub head : V
  pub tail_best : IsBest A g sources (arc_of g a).tail tail
  pub head_best : IsBest A g sources (arc_of g a).head head
  pub extends : A.extend tail (arc_of g a).weight ≡ Some head

-- marks that all sources have and that each tight arc passes on
pub record AreMarksOfTight {V : Type 0} (A : Algebra V) (g : GraphData) (sources : List ℕ) (marks : List Bool) : Type 0 where
  pub at_sources : (s : ℕ) → Contains sources s → IsTrue (is_marked marks s)
  pub along : (a : ℕ) → HasArc g a → IsTight A g sources a → IsTrue (is_marked marks (arc_of g a).tail) →
      IsTrue (is_marked marks (arc_of g a).head)

-- some walk of k arcs, all of them tight, leads to v
abbrev pub IsTightWalk : {V : Type 0} → Algebra V → GraphData → List ℕ → ℕ → ℕ → Type 0
IsTightWalk A g sources v k =
    (p : List ℕ) × IsWalkFrom g sources p v × All (IsTight A g sources) p × (length p ≡ k)

-- v has k hops: the least number of arcs of a walk of tight arcs to v
pub record AreHops {V : Type 0} (A : Algebra V) (g : GraphData) (sources : List ℕ) (v : ℕ) (k : ℕ) : Type 0 where
  pub attained : IsTightWalk A g sources v k
  pub least : (j : ℕ) → IsTightWalk A g sources v j → k ≤ j

-- a tight arc leads from u to v, and u has one hop less
abbrev pub IsNearer : {V : Type 0} → Algebra V → GraphData → List ℕ → ℕ → ℕ → Type 0
IsNearer A g sources v u =
    (a : ℕ) × IsTight A g sources a × ((arc_of g a).tail ≡ u) × ((arc_of g a).head ≡ v)
    × ((k : ℕ) × AreHops A g sources u k × AreHops A g sources v (k + 1))

-- u is the parent of v: v is no source, and u is the least of the nearer vertices
pub record IsParent {V : Type 0} (A : Algebra V) (g : GraphData) (sources : List ℕ) (v : ℕ) (u : ℕ) : Type 0 where
  pub no_source : Contains sources v → ⊥
  pub nearer : IsNearer A g sources v u
  pub least : (t : ℕ) → IsNearer A g sources v t → u ≤ t

-- each vertex is the parent of the next, from u on to v
abbrev pub IsParentChain : {V : Type 0} → Algebra V → GraphData → List ℕ → ℕ → List ℕ → ℕ → Type 0
IsParentChain A g sources u [] v = u ≡ v
IsParentChain A g sources u (w ∷ rest) v = IsParent A g sources w u × IsParentChain A g sources w rest v

-- the plain sum of the weights of a list of arcs
abbrev pub sum_of_weights : GraphData → List ℕ → ℕ
sum_of_weights g [] = 0
sum_of_weights g (a ∷ p) = (arc_of g a).weight + sum_of_weights g p

-- x is the least plain sum of weights over the walks to v
pub record IsLeastSum (g : GraphData) (sources : List ℕ) (v : ℕ) (x : ℕ) : Type 0 where
  pub attained : (p : List ℕ) × IsWalkFrom g sources p v × (sum_of_weights g p ≡ x)
  pub least : (p : List ℕ) → IsWalkFrom g sources p v → x ≤ sum_of_weights g p
