-- What a list of events sends, delivers, signals and accepts.
use Rattle.std.specs.Prelude.{◌≡◌, ◌↔◌, ℕ, suc, ◌+◌, Bool, false, not, ◌&&◌, IsTrue, List, [], ◌∷◌, length}
use Rattle.road_graph.specs.GraphData.{GraphData, HasArc, arc_of}
use Rattle.scholten_core.specs.declared.event.Event.{Event}
use Rattle.scholten_core.specs.declared.event.Event.TheVariants.{Deliver, Accept}
use Rattle.path_algebra.specs.Algebra.{Algebra}
use Rattle.path_algebra.specs.Walks.{IsWalkValue}
use Rattle.scholten_core.specs.Network.{Network}
use Rattle.scholten_core.specs.Sums.{sum_below, one_if}
use Rattle.scholten_core.specs.Diffusion.{CoreState, is_message, is_signal, same_label, step, opening}

module _ {V : Type 0} (A : Algebra V) (N : Network) where
  -- how many tokens become messages
  abbrev pub count_sent : CoreState V → CoreState V → ℕ
  count_sent c d = sum_below (λ b. one_if (is_message (d.token b) && not (is_message (c.token b)))) (suc N.arcs)

  -- how many tokens become signals
  abbrev pub count_signalled : CoreState V → CoreState V → ℕ
  count_signalled c d = sum_below (λ b. one_if (is_signal (d.token b) && not (is_signal (c.token b)))) (suc N.arcs)

  abbrev pub is_delivery : CoreState V → Event → Bool
  is_delivery c (Deliver a) = is_message (c.token a)
  is_delivery c (Accept a) = false

  abbrev pub is_acceptance : CoreState V → Event → Bool
  is_acceptance c (Deliver a) = false
  is_acceptance c (Accept a) = is_signal (c.token a)

  abbrev pub sent_total : CoreState V → List Event → ℕ
  sent_total c [] = 0
  sent_total c (e ∷ es) = count_sent c (step A N c e) + sent_total (step A N c e) es

  abbrev pub signalled_total : CoreState V → List Event → ℕ
  signalled_total c [] = 0
  signalled_total c (e ∷ es) = count_signalled c (step A N c e) + signalled_total (step A N c e) es

  abbrev pub delivered_total : CoreState V → List Event → ℕ
  delivered_total c [] = 0
  delivered_total c (e ∷ es) = one_if (is_delivery c e) + delivered_total (step A N c e) es

  abbrev pub accepted_total : CoreState V → List Event → ℕ
  accepted_total c [] = 0
  accepted_total c (e ∷ es) = one_if (is_acceptance c e) + accepted_total (step A N c e) es

  -- the messages that events send on one arc
  abbrev pub sent_on : ℕ → CoreState V → List Event → ℕ
  sent_on b c [] = 0
  sent_on b c (e ∷ es) = one_if (is_message ((step A N c e).token b) && not (is_message (c.token b))) + sent_on b (step A N c e) es

  -- how often a vertex's label changes, the first label included
  abbrev pub label_changes : ℕ → CoreState V → List Event → ℕ
  label_changes v c [] = 0
  label_changes v c (e ∷ es) = one_if (not (same_label A (c.label v) ((step A N c e).label v))) + label_changes v (step A N c e) es

-- the four counts of a list of events
pub record Totals : Type 0 where
  pub sent : ℕ
  pub delivered : ℕ
  pub signalled : ℕ
  pub accepted : ℕ

-- the four counts of a list of events from the opening, whose own message counts as sent
abbrev pub totals_of : {V : Type 0} → Algebra V → Network → List Event → Totals
totals_of A N events = record {
  sent = 1 + sent_total A N (opening A N) events;
  delivered = delivered_total A N (opening A N) events;
  signalled = signalled_total A N (opening A N) events;
  accepted = accepted_total A N (opening A N) events;
}

-- as many messages were sent as delivered, as many signals as accepted, and all four are the same
abbrev pub AreEqualTotals : Totals → Type 0
AreEqualTotals t = (t.sent ≡ t.delivered) × (t.delivered ≡ t.signalled) × (t.signalled ≡ t.accepted)

-- exactly those arcs are marked whose tail some walk reaches
abbrev pub AreMarksOfReached : {V : Type 0} → Algebra V → GraphData → ℕ → (ℕ → Bool) → Type 0
AreMarksOfReached {V} A g s marked = (a : ℕ) → HasArc g a → IsTrue (marked a) ↔ ((x : V) × IsWalkValue A g (s ∷ []) (arc_of g a).tail x)

-- how many arcs have a mark
abbrev pub count_marked : GraphData → (ℕ → Bool) → ℕ
count_marked g marked = sum_below (λ b. one_if (marked (suc b))) (length g.arcs)
