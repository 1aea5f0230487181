-- When a graph can be factored over the links of another one.
use Rattle.std.specs.Prelude.{◌≡◌, ℕ, ◌-◌, ◌≤◌, ◌⊎◌, List, Bool, true, Contains, length, slice_index}
use Rattle.road_graph.specs.GraphData.{GraphData, HasArc, arc_of}
use Rattle.road_graph.specs.declared.RoadArc.{RoadArc}
use Rattle.path_factors.specs.declared.reweigh.Unfit.{Unfit}
use Rattle.path_factors.specs.declared.reweigh.Unfit.TheVariants.{Vertices, Arc}
use Rattle.path_factors.specs.Asking.{is_on}
use Rattle.path_factors.specs.State.{FactorState}
use Rattle.path_factors.specs.Heads.{AreArcsJoined, IsHead}

-- each arc of the graph has an edge of the factor
abbrev pub HasEdges : GraphData → List ℕ → List (List ℕ) → Type 0
HasEdges g places heads = AreArcsJoined (IsHead heads) g places

-- the graph has as many vertices, and an edge for each arc
pub record Fits {T W : Type 0} (g : GraphData) (f : FactorState T W) : Type 0 where
  pub vertices : g.vertices ≡ f.roads.vertices
  pub arcs : HasEdges g f.factor.places f.heads

-- the reason is true
abbrev pub IsReason : {T W : Type 0} → Unfit → GraphData → FactorState T W → Type 0
IsReason Vertices g f = g.vertices ≡ f.roads.vertices → ⊥
IsReason Arc g f = (g.vertices ≡ f.roads.vertices) × (HasEdges g f.factor.places f.heads → ⊥)

-- an arc joins the same two vertices as another one, this way or that
abbrev pub HasEndsOf : RoadArc → RoadArc → Type 0
HasEndsOf a b = ((a.tail ≡ b.tail) × (a.head ≡ b.head)) ⊎ ((a.tail ≡ b.head) × (a.head ≡ b.tail))

-- g has as many vertices as h, and each arc of g leads from a vertex to itself, or joins two that
-- an arc of h joins
pub record JoinsNoOthers (g h : GraphData) : Type 0 where
  pub vertices : g.vertices ≡ h.vertices
  pub ends : (a : ℕ) → HasArc g a →
      ((arc_of g a).tail ≡ (arc_of g a).head) ⊎ ((b : ℕ) × HasArc h b × HasEndsOf (arc_of g a) (arc_of h b))

-- g has the arcs of h, whose weights differ at most where a change has the ends of the arc
pub record DiffersAt (changes : List RoadArc) (g h : GraphData) : Type 0 where
  pub vertices : g.vertices ≡ h.vertices
  pub count : length g.arcs ≡ length h.arcs
  pub tails : (a : ℕ) → HasArc h a → (arc_of g a).tail ≡ (arc_of h a).tail
  pub heads : (a : ℕ) → HasArc h a → (arc_of g a).head ≡ (arc_of h a).head
  pub weights : (a : ℕ) → HasArc h a →
      ((arc_of g a).weight ≡ (arc_of h a).weight) ⊎ ((c : RoadArc) × Contains changes c × (c.tail ≡ (arc_of h a).tail) × (c.head ≡ (arc_of h a).head))

-- the lesser place of the ends of each change is marked
abbrev pub AreMarkedAt : List ℕ → List Bool → List RoadArc → Type 0
AreMarkedAt places marks changes =
    (c : RoadArc) (z : ℕ) → Contains changes c →
    (z ≡ slice_index places (c.tail - 1)) ⊎ (z ≡ slice_index places (c.head - 1)) →
    z ≤ slice_index places (c.tail - 1) → z ≤ slice_index places (c.head - 1) → is_on marks z ≡ true
