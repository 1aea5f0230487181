-- What a factored graph is: walks between places of an order, among them one for each arc, and
-- closed under passing a place that is less than both ends. After Carre, An algebra for network
-- routing problems (1971): elimination.
use Rattle.std.specs.Prelude.{◌≡◌, ℕ, ◌+◌, ◌<◌, ◌≤◌, ◌-◌, ◌⊎◌, List, [], length, Contains, IsTrue, Option, Some, None, slice_index, slice_index_or}
use Rattle.road_graph.specs.GraphData.{GraphData, HasArc, arc_of}
use Rattle.path_algebra.specs.Algebra.{Algebra}
use Rattle.path_algebra.specs.Composition.{Composition}
use Rattle.path_algebra.specs.Walks.{IsWalk, Extends}
use Rattle.path_factors.specs.declared.link.Link.{Link}

-- the vertex at each place, counted from 0; the place of each vertex; and for each place the links
-- to greater places and from greater places
pub record FactorData (W : Type 0) : Type 0 where
  pub order : List ℕ
  pub places : List ℕ
  pub leaving : List (List (Link W))
  pub entering : List (List (Link W))

-- the vertex at a place
abbrev pub vertex_at : {W : Type 0} → FactorData W → ℕ → ℕ
vertex_at F i = slice_index F.order i

-- the place of a vertex
abbrev pub place_of : {W : Type 0} → FactorData W → ℕ → ℕ
place_of F v = slice_index F.places (v - 1)

-- the row of a place
abbrev pub row_of : {X : Type 0} → List (List X) → ℕ → List X
row_of rows i = slice_index_or rows i []

-- a link of worth a leads from place x to the greater place y: it stands in the row of x
abbrev pub Rises : {W : Type 0} → FactorData W → ℕ → ℕ → W → Type 0
Rises F x y a = Contains (row_of F.leaving x) (record { place = y; walk = a })

-- a link of worth a leads from place x to the lesser place y: it stands in the row of y
abbrev pub Falls : {W : Type 0} → FactorData W → ℕ → ℕ → W → Type 0
Falls F x y a = Contains (row_of F.entering y) (record { place = x; walk = a })

-- a link of worth a leads from place x to place y
abbrev pub Leads : {W : Type 0} → FactorData W → ℕ → ℕ → W → Type 0
Leads F x y a = Rises F x y a ⊎ Falls F x y a

-- whatever a makes of a value, some walk of the graph from u to v makes of it
abbrev pub IsWorthOfWalk : {V W : Type 0} → Algebra V → Composition V W → GraphData → ℕ → ℕ → W → Type 0
IsWorthOfWalk {V} A C g u v a =
    (x y : V) → IsTrue (A.is_value x) → C.apply x a ≡ Some y → (p : List ℕ) × IsWalk g u p v × Extends A g x p y

-- some link from place x to place y is no worse than a
abbrev pub LeadsNoWorse : {V W : Type 0} → Composition V W → FactorData W → ℕ → ℕ → W → Type 0
LeadsNoWorse {W = W} C F x y a = (b : W) × Leads F x y b × IsTrue (C.no_worse b a)

-- a link stands for each arc, one no worse
abbrev pub CoversArcs : {V W : Type 0} → Composition V W → GraphData → FactorData W → Type 0
CoversArcs C g F =
    (a : ℕ) → HasArc g a → ((arc_of g a).tail ≡ (arc_of g a).head → ⊥) →
    LeadsNoWorse C F (place_of F (arc_of g a).tail) (place_of F (arc_of g a).head) (C.of_arc (arc_of g a).weight)

-- a link that falls to place v and one that rises from it are, together, no better than some link
-- past v
abbrev pub IsClosedAt : {V W : Type 0} → Composition V W → FactorData W → ℕ → Type 0
IsClosedAt {W = W} C F v =
    (x y : ℕ) (a b : W) → Falls F x v a → Rises F v y b → (x ≡ y → ⊥) → LeadsNoWorse C F x y (C.compose a b)

-- an order of the vertices 1 to n: the vertex at each place, and the place of each vertex
pub record ArePlaces (n : ℕ) (order places : List ℕ) : Type 0 where
  pub order_count : length order ≡ n
  pub places_count : length places ≡ n
  pub place : (v : ℕ) → (1 ≤ v) × (v ≤ n) →
      (slice_index places (v - 1) < n) × (slice_index order (slice_index places (v - 1)) ≡ v)

-- each vertex stands at a place of its own
abbrev pub IsOrdering : {W : Type 0} → GraphData → FactorData W → Type 0
IsOrdering g F = ArePlaces g.vertices F.order F.places

-- what links are: they join places, and each is the worth of a walk of the graph
pub record AreLinks {V W : Type 0} (A : Algebra V) (C : Composition V W) (g : GraphData) (F : FactorData W) : Type 0 where
  pub leaving_count : length F.leaving ≡ g.vertices
  pub entering_count : length F.entering ≡ g.vertices
  pub rising : (x y : ℕ) (a : W) → Rises F x y a → (x < y) × (y < g.vertices)
  pub falling : (x y : ℕ) (a : W) → Falls F x y a → (y < x) × (x < g.vertices)
  pub sound : (x y : ℕ) (a : W) → Leads F x y a → IsWorthOfWalk A C g (vertex_at F x) (vertex_at F y) a

-- the label at a place
abbrev pub at : {V : Type 0} → List (Option V) → ℕ → Option V
at labels i = slice_index_or labels i None

-- a label that is no worse than x
abbrev pub HasNoWorse : {V : Type 0} → Algebra V → Option V → V → Type 0
HasNoWorse {V} A l x = (y : V) × (l ≡ Some y) × IsTrue (A.no_worse y x)

-- the label to is no worse than what a walk of worth a makes of the label from
abbrev pub Passes : {V W : Type 0} → Algebra V → Composition V W → Option V → W → Option V → Type 0
Passes {V} A C from a to = (x z : V) → from ≡ Some x → C.apply x a ≡ Some z → HasNoWorse A to z

-- labels that no link between places from low on improves
pub record AreStable {V W : Type 0} (A : Algebra V) (C : Composition V W) (F : FactorData W) (low : ℕ) (labels : List (Option V)) : Type 0 where
  pub values : (i : ℕ) (x : V) → at labels i ≡ Some x → IsTrue (A.is_value x)
  pub passes : (x y : ℕ) (a : W) → low ≤ x → low ≤ y → Leads F x y a → Passes A C (at labels x) a (at labels y)

-- the links between places from low on do for a walk of worth a from place x to place y: where they
-- improve no label, it does not either
abbrev pub IsCovered : {V W : Type 0} → Algebra V → Composition V W → FactorData W → ℕ → ℕ → ℕ → W → Type 0
IsCovered {V} A C F low x y a = (labels : List (Option V)) → AreStable A C F low labels → Passes A C (at labels x) a (at labels y)

-- a factor of the graph: its links do for each arc, and those past a place for each two that meet
-- there
pub record IsFactor {V W : Type 0} (A : Algebra V) (C : Composition V W) (g : GraphData) (F : FactorData W) : Type 0 where
  pub ordering : IsOrdering g F
  pub links : AreLinks A C g F
  pub covers : (a : ℕ) → HasArc g a → ((arc_of g a).tail ≡ (arc_of g a).head → ⊥) →
      IsCovered A C F 0 (place_of F (arc_of g a).tail) (place_of F (arc_of g a).head) (C.of_arc (arc_of g a).weight)
  pub closed : (v : ℕ) → v < g.vertices → (x y : ℕ) (a b : W) → Falls F x v a → Rises F v y b → (x ≡ y → ⊥) →
      IsCovered A C F (v + 1) x y (C.compose a b)
