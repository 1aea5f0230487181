-- How a factor is made: links are added or get better, until they are closed at each place.
use Rattle.std.specs.Prelude.{◌≡◌, ℕ, ◌-◌, ◌<◌, ◌⊎◌, List, length, All, Bool, true, false, Contains, IsTrue, Some, slice_index}
use Rattle.road_graph.specs.GraphData.{GraphData, HasArc, arc_of}
use Rattle.path_algebra.specs.Algebra.{Algebra}
use Rattle.path_algebra.specs.Composition.{Composition}
use Rattle.path_algebra.specs.Walks.{IsWalk, Extends}
use Rattle.path_factors.specs.declared.link.Link.{Link}
use Rattle.path_factors.specs.Asking.{IsKnownUpward, is_on}
use Rattle.path_factors.specs.Factors.{FactorData, Rises, Falls, Leads, LeadsNoWorse, IsOrdering, AreLinks, CoversArcs, IsClosedAt, place_of, row_of, vertex_at}
use Rattle.path_factors.specs.Heads.{IsJoined, IsOutline, heads_in}
use Rattle.path_factors.specs.Tree.{IsAncestor}

-- a row after a link was added to it: its links are those before and that one, none got worse, and
-- one is as good
pub record IsImproved {V W : Type 0} (C : Composition V W) (before : List (Link W)) (k : Link W) (after : List (Link W)) : Type 0 where
  pub given : (l : Link W) → Contains after l → Contains before l ⊎ (l ≡ k)
  pub kept : (p : ℕ) (a : W) → Contains before (record { place = p; walk = a }) →
      (b : W) × Contains after (record { place = p; walk = b }) × IsTrue (C.no_worse b a)
  pub has : (b : W) × Contains after (record { place = k.place; walk = b }) × IsTrue (C.no_worse b k.walk)

-- rows after a link was added to that of place i
pub record AreImproved {V W : Type 0} (C : Composition V W) (before : List (List (Link W))) (i : ℕ) (k : Link W)
    (after : List (List (Link W))) : Type 0 where
  pub count : length after ≡ length before
  pub row : IsImproved C (row_of before i) k (row_of after i)
  pub others : (j : ℕ) → (j ≡ i → ⊥) → row_of after j ≡ row_of before j

-- an end of arc b is at place x or below it in the tree
abbrev pub IsUnder : GraphData → List (List ℕ) → List ℕ → ℕ → ℕ → Type 0
IsUnder g heads places x b =
    IsAncestor heads g.vertices (slice_index places ((arc_of g b).tail - 1)) x
    ⊎ IsAncestor heads g.vertices (slice_index places ((arc_of g b).head - 1)) x

-- whatever a makes of a value, some walk of the graph from u to v makes of it, of arcs under place x
abbrev pub IsWorthUnder : {V W : Type 0} → Algebra V → Composition V W → GraphData → List (List ℕ) → List ℕ → ℕ → ℕ → ℕ → W → Type 0
IsWorthUnder {V} A C g heads places x u v a =
    (y z : V) → IsTrue (A.is_value y) → C.apply y a ≡ Some z →
    (p : List ℕ) × IsWalk g u p v × Extends A g y p z × All (IsUnder g heads places x) p

-- a is so the worth of a walk from place y to place z
abbrev pub IsLinkUnder : {V W : Type 0} → Algebra V → Composition V W → GraphData → FactorData W → ℕ → ℕ → ℕ → W → Type 0
IsLinkUnder A C g F x y z a = IsWorthUnder A C g (heads_in F.leaving) F.places x (vertex_at F y) (vertex_at F z) a

-- what holds of links before they are closed: those in the row of a place are worth walks of arcs
-- under it
pub record IsBegun {V W : Type 0} (A : Algebra V) (C : Composition V W) (g : GraphData) (F : FactorData W) : Type 0 where
  pub ordering : IsOrdering g F
  pub links : AreLinks A C g F
  pub rising : (x y : ℕ) (a : W) → Rises F x y a → IsLinkUnder A C g F x x y a
  pub falling : (x y : ℕ) (a : W) → Falls F x y a → IsLinkUnder A C g F y x y a

-- no link got worse, and the rows below a place are the same
pub record Improves {V W : Type 0} (C : Composition V W) (low : ℕ) (before after : FactorData W) : Type 0 where
  pub order : after.order ≡ before.order
  pub places : after.places ≡ before.places
  pub leaving : (i : ℕ) → i < low → row_of after.leaving i ≡ row_of before.leaving i
  pub entering : (i : ℕ) → i < low → row_of after.entering i ≡ row_of before.entering i
  pub kept : (x y : ℕ) (a : W) → Leads before x y a → LeadsNoWorse C after x y a

-- the links are closed at each place below k
abbrev pub AreClosedTo : {V W : Type 0} → Composition V W → FactorData W → ℕ → Type 0
AreClosedTo C F k = (v : ℕ) → v < k → IsClosedAt C F v

-- so begun, over an outline of the graph
abbrev pub IsOpen : {V W : Type 0} → Algebra V → Composition V W → GraphData → FactorData W → Type 0
IsOpen A C g F = IsBegun A C g F × IsOutline g F.places (heads_in F.leaving)

-- the rows of places, except such ones, are the same
abbrev pub KeepsRest : {W : Type 0} → (ℕ → Type 0) → FactorData W → FactorData W → Type 0
KeepsRest Is before after =
    (i : ℕ) → (Is i → ⊥) → (row_of after.leaving i ≡ row_of before.leaving i) × (row_of after.entering i ≡ row_of before.entering i)

-- i is the lesser of two places
abbrev pub IsLesser : ℕ → ℕ → ℕ → Type 0
IsLesser x y i = ((i ≡ x) × (i < y)) ⊎ ((i ≡ y) × (i < x))

-- the lesser of two places is marked
abbrev pub IsLesserOn : List Bool → ℕ → ℕ → Type 0
IsLesserOn marks x y = IsJoined (λ l m. is_on marks l ≡ true) x y

-- if the lesser of the places of two vertices is marked, a link leads from one to the other, no worse
-- than the walk
abbrev pub LeadsOn : {V W : Type 0} → Composition V W → List Bool → List ℕ → FactorData W → ℕ → ℕ → W → Type 0
LeadsOn C marks places F u v a =
    IsLesserOn marks (slice_index places (u - 1)) (slice_index places (v - 1)) →
    LeadsNoWorse C F (slice_index places (u - 1)) (slice_index places (v - 1)) a

-- such a link stands for each arc
abbrev pub CoversArcsOn : {V W : Type 0} → Composition V W → List Bool → GraphData → FactorData W → Type 0
CoversArcsOn C marks g F =
    (a : ℕ) → HasArc g a → ((arc_of g a).tail ≡ (arc_of g a).head → ⊥) →
    LeadsOn C marks F.places F (arc_of g a).tail (arc_of g a).head (C.of_arc (arc_of g a).weight)

-- and for each arc that leaves a vertex
abbrev pub CoversArcsFrom : {V W : Type 0} → Composition V W → List Bool → GraphData → List ℕ → FactorData W → ℕ → Type 0
CoversArcsFrom C marks g places F v =
    (a : ℕ) → HasArc g a → (arc_of g a).tail ≡ v → ((arc_of g a).tail ≡ (arc_of g a).head → ⊥) →
    LeadsOn C marks places F (arc_of g a).tail (arc_of g a).head (C.of_arc (arc_of g a).weight)

-- the links are closed at place v, as far as two places are concerned of which the lesser is marked
abbrev pub IsClosedOn : {V W : Type 0} → Composition V W → List Bool → FactorData W → ℕ → Type 0
IsClosedOn {W = W} C marks F v =
    (x y : ℕ) (a b : W) → Falls F x v a → Rises F v y b → (x ≡ y → ⊥) → IsLesserOn marks x y → LeadsNoWorse C F x y (C.compose a b)

-- what holds of links that are closed at each place: those of a factor with an edge wherever
-- elimination needs one
pub record IsWhole {V W : Type 0} (A : Algebra V) (C : Composition V W) (g : GraphData) (F : FactorData W) : Type 0 where
  pub begun : IsBegun A C g F
  pub covers : CoversArcs C g F
  pub closed : AreClosedTo C F g.vertices

-- such links but for the rows of marked places, which are begun: whatever is above a marked place is
-- marked
pub record IsWholeBut {V W : Type 0} (A : Algebra V) (C : Composition V W) (g : GraphData) (marks : List Bool) (F : FactorData W) : Type 0 where
  pub marked : length marks ≡ g.vertices
  pub upward : IsKnownUpward (heads_in F.leaving) marks
  pub covers : (a : ℕ) → HasArc g a → ((arc_of g a).tail ≡ (arc_of g a).head → ⊥) →
      (IsLesserOn marks (place_of F (arc_of g a).tail) (place_of F (arc_of g a).head) → ⊥) →
      LeadsNoWorse C F (place_of F (arc_of g a).tail) (place_of F (arc_of g a).head) (C.of_arc (arc_of g a).weight)
  pub closed : (v x y : ℕ) (a b : W) → is_on marks v ≡ false → Falls F x v a → Rises F v y b → (x ≡ y → ⊥) →
      (IsLesserOn marks x y → ⊥) → LeadsNoWorse C F x y (C.compose a b)
