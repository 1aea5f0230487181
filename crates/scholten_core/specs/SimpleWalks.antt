-- Labels as values of walks that pass no vertex twice, and how many messages these walks allow.
use Rattle.std.specs.Prelude.{◌≡◌, ℕ, suc, ◌+◌, List, [], ◌∷◌, length, IsTrue, Option, Some}
use Rattle.road_graph.specs.GraphData.{GraphData, HasArc, arc_of}
use Rattle.path_algebra.specs.Algebra.{Algebra}
use Rattle.path_algebra.specs.Walks.{Extends}
use Rattle.path_algebra.specs.SimpleWalks.{IsSimpleWalk, simple_walks}
use Rattle.scholten_core.specs.declared.token.Token.TheVariants.{Message}
use Rattle.scholten_core.specs.Sums.{sum_below}
use Rattle.scholten_core.specs.Diffusion.{CoreState}

-- v has a label that is no worse than x
abbrev pub HasAtMost : {V : Type 0} → Algebra V → (ℕ → Option V) → ℕ → V → Type 0
HasAtMost {V} A label v x = (y : V) × (label v ≡ Some y) × IsTrue (A.no_worse y x)

-- each prefix of p leads from u to a vertex whose label is no worse than the value of the prefix,
-- from x on
abbrev pub KeepsUp : {V : Type 0} → Algebra V → GraphData → (ℕ → Option V) → ℕ → V → List ℕ → Type 0
KeepsUp A g label u x [] = HasAtMost A label u x
KeepsUp {V} A g label u x (a ∷ p) = HasAtMost A label u x ×
    ((y : V) → A.extend x (arc_of g a).weight ≡ Some y → KeepsUp A g label (arc_of g a).head y p)

-- x is the value of a simple walk from s to v, and the labels keep up with it
pub record IsSimpleWalkValue {V : Type 0} (A : Algebra V) (g : GraphData) (s : ℕ) (label : ℕ → Option V) (v : ℕ) (x : V) : Type 0 where
  pub walk : List ℕ
  pub simple : IsSimpleWalk g s walk v
  pub value : Extends A g A.origin walk x
  pub kept_up : KeepsUp A g label s A.origin walk

-- each label is the value of a simple walk to its vertex
abbrev pub LabelsAreSimpleWalkValues : {V : Type 0} → Algebra V → GraphData → ℕ → CoreState V → Type 0
LabelsAreSimpleWalkValues {V} A g s c =
    (v : ℕ) (x : V) → c.label v ≡ Some x → IsSimpleWalkValue A g s c.label v x

-- each message on an arc of the graph is the value of a simple walk to the arc's tail, extended by
-- the arc
abbrev pub MessagesExtendSimpleWalks : {V : Type 0} → Algebra V → GraphData → ℕ → CoreState V → Type 0
MessagesExtendSimpleWalks {V} A g s c = (b : ℕ) (x : V) → HasArc g b → c.token b ≡ Message x →
    (y : V) × IsSimpleWalkValue A g s c.label (arc_of g b).tail y
    × (A.extend y (arc_of g b).weight ≡ Some x)

-- one message into the source, and along each arc as many as simple walks lead to its tail
abbrev pub message_bound : GraphData → ℕ → ℕ
message_bound g s =
    1 + sum_below (λ b. length (simple_walks g s (arc_of g (suc b)).tail)) (length g.arcs)
