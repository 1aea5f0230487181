-- Which arcs a route takes, where several join two of its vertices.
use Rattle.std.specs.Prelude.{◌≡◌, ℕ, ◌+◌, ◌≤◌, List, [], ◌∷◌, Option, Some, None, IsTrue}
use Rattle.road_graph.specs.GraphData.{GraphData, HasArc, arc_of}
use Rattle.path_algebra.specs.Algebra.{Algebra}

-- the arc a leads from u to v, and takes the value x to y
pub record IsStep {V : Type 0} (A : Algebra V) (g : GraphData) (x : V) (u v a : ℕ) (y : V) : Type 0 where
  pub arc : HasArc g a
  pub tail : (arc_of g a).tail ≡ u
  pub head : (arc_of g a).head ≡ v
  pub extends : A.extend x (arc_of g a).weight ≡ Some y

-- of the arcs from u to v it takes x to the best value, and of those that do it has the least
-- number
pub record IsBestStep {V : Type 0} (A : Algebra V) (g : GraphData) (x : V) (u v a : ℕ) (y : V) : Type 0 where
  pub step : IsStep A g x u v a y
  pub best : (b : ℕ) (z : V) → IsStep A g x u v b z → IsTrue (A.no_worse y z)
  pub least : (b : ℕ) → IsStep A g x u v b y → a ≤ b

-- the best step from u to v with the value x; none if no arc from u to v takes x to a value
abbrev pub IsBestStepOrNone : {V : Type 0} → Algebra V → GraphData → V → ℕ → ℕ → Option (ℕ × V) → Type 0
IsBestStepOrNone {V} A g x u v None = (b : ℕ) (z : V) → IsStep A g x u v b z → ⊥
IsBestStepOrNone A g x u v (Some s) = IsBestStep A g x u v s.0 s.1

-- from u with the value x along a list of vertices, by the best step to each, to the value y: these
-- are the arcs, counted from 0
abbrev pub AreStepsAlong : {V : Type 0} → Algebra V → GraphData → ℕ → List ℕ → V → List ℕ → V → Type 0
AreStepsAlong A g u [] x [] y = x ≡ y
AreStepsAlong {V} A g u (v ∷ rest) x (a ∷ arcs) y = (z : V) × IsBestStep A g x u v (a + 1) z × AreStepsAlong A g v rest z arcs y
AreStepsAlong A g u [] x (a ∷ arcs) y = ⊥
AreStepsAlong A g u (v ∷ rest) x [] y = ⊥

-- the arcs of a route, counted from 0: they take the value of no arcs to the one that has this code
pub record AreRouteArcs {V : Type 0} (A : Algebra V) (g : GraphData) (route arcs : List ℕ) (code : ℕ) : Type 0 where
  pub source : ℕ
  pub rest : List ℕ
  pub route_is : route ≡ source ∷ rest
  pub value : V
  pub along : AreStepsAlong A g source rest A.origin arcs value
  pub code_is : code ≡ A.code value
