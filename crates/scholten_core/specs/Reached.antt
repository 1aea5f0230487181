-- The states that lists of events lead to, and what holds of them, in terms of walks.
use Rattle.std.specs.Prelude.{◌≡◌, ℕ, Some, List, [], ◌∷◌}
use Rattle.road_graph.specs.GraphData.{GraphData, HasVertex}
use Rattle.path_algebra.specs.Algebra.{Algebra}
use Rattle.path_algebra.specs.Walks.{IsWalkValue, IsBestLabel}
use Rattle.scholten_core.specs.declared.token.Token.TheVariants.{Message}
use Rattle.scholten_core.specs.declared.event.Event.{Event}
use Rattle.scholten_core.specs.Network.{network, head_of}
use Rattle.scholten_core.specs.Diffusion.{CoreState, state_after}

-- some list of events leads to c
abbrev pub IsReached : {V : Type 0} → Algebra V → GraphData → ℕ → CoreState V → Type 0
IsReached A g s c = (events : List Event) × (c ≡ state_after A (network g s) events)

-- each label is the value of some walk to its vertex
abbrev pub LabelsAreWalkValues : {V : Type 0} → Algebra V → GraphData → ℕ → CoreState V → Type 0
LabelsAreWalkValues {V} A g s c = (v : ℕ) (x : V) → c.label v ≡ Some x → IsWalkValue A g (s ∷ []) v x

-- each message is the value of some walk to the head of its arc
abbrev pub MessagesAreWalkValues : {V : Type 0} → Algebra V → GraphData → ℕ → CoreState V → Type 0
MessagesAreWalkValues {V} A g s c = (b : ℕ) (x : V) → c.token b ≡ Message x → IsWalkValue A g (s ∷ []) (head_of g s b) x

-- the message of arc 0 is the value of the empty walk
abbrev pub EntryIsOrigin : {V : Type 0} → Algebra V → CoreState V → Type 0
EntryIsOrigin {V} A c = (x : V) → c.token 0 ≡ Message x → x ≡ A.origin

-- each label is best, and a vertex has none exactly if no walk has a value
abbrev pub LabelsAreBest : {V : Type 0} → Algebra V → GraphData → ℕ → CoreState V → Type 0
LabelsAreBest A g s c = (v : ℕ) → HasVertex g v → IsBestLabel A g (s ∷ []) v (c.label v)
