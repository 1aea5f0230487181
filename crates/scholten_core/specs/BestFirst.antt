-- Lists of events that take the best waiting message first.
use Rattle.std.specs.Prelude.{◌≡◌, ◌↔◌, ℕ, true, Some, IsTrue, Bool, List, [], ◌∷◌}
use Rattle.road_graph.specs.GraphData.{GraphData, HasArc, arc_of}
use Rattle.path_algebra.specs.Algebra.{Algebra}
use Rattle.path_algebra.specs.Walks.{IsWalkValue}
use Rattle.scholten_core.specs.declared.token.Token.TheVariants.{Message}
use Rattle.scholten_core.specs.declared.event.Event.{Event}
use Rattle.scholten_core.specs.declared.event.Event.TheVariants.{Deliver, Accept}
use Rattle.scholten_core.specs.Network.{Network}
use Rattle.scholten_core.specs.Diffusion.{CoreState, improves, step}

module _ {V : Type 0} (A : Algebra V) (N : Network) where
  -- the value is no worse than each message that would improve the label of its head
  abbrev pub IsNoWorseThanWaiting : CoreState V → V → Type 0
  IsNoWorseThanWaiting c x = (b : ℕ) (y : V) → c.token b ≡ Message y → improves A y (c.label (N.head b)) ≡ true → IsTrue (A.no_worse x y)

  -- a signal, a message that improves nothing, or the best of those that would
  abbrev pub TakesBest : CoreState V → Event → Type 0
  TakesBest c (Deliver a) = (x : V) → c.token a ≡ Message x → improves A x (c.label (N.head a)) ≡ true → IsNoWorseThanWaiting c x
  TakesBest c (Accept a) = Unit {0}

  -- so does each of the events, in its turn
  abbrev pub IsBestFirst : CoreState V → List Event → Type 0
  IsBestFirst c [] = Unit {0}
  IsBestFirst c (e ∷ es) = TakesBest c e × IsBestFirst (step A N c e) es

-- exactly those arcs are marked that some walk with a value ends in: its value extends along the
-- arc
abbrev pub AreMarksOfWalkEnds : {V : Type 0} → Algebra V → GraphData → ℕ → (ℕ → Bool) → Type 0
AreMarksOfWalkEnds {V} A g s marked = (a : ℕ) → HasArc g a → IsTrue (marked a)
    ↔ ((x : V) × (y : V) × IsWalkValue A g (s ∷ []) (arc_of g a).tail x × (A.extend x (arc_of g a).weight ≡ Some y))
