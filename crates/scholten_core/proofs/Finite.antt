-- No list of events has more enabled ones than its diffusion allows.
use Rattle.scholten_core.proofs.Words.{◌≡◌, ℕ, suc, ◌+◌, ◌*◌, ◌≤◌, Bool, true, false, not, ◌&&◌, cond, List, [], ◌∷◌, length, refl, sym, ap, subst, arith, GraphData, IsGraph, HasVertex, arc_of, Algebra, IsLawful, IsWalk, Event, Deliver, Accept, Network, network, CoreState, opening, step, is_enabled, is_message, is_signal, count_enabled, sum_below, one_if, sent_on, is_delivery, is_acceptance, sent_total, delivered_total, accepted_total, label_changes, totals_of, message_bound, tail-arc, tail-entry, well_formed, sum_zero, sum_add, sum_most, sum_first}
use Rattle.path_algebra.specs.SimpleWalks.{HasSimpleWalks, simple_walks}
use Rattle.scholten_core.proofs.MessagesFollowLabels.{sends_at_most}
use Rattle.scholten_core.proofs.Counts.{never_more}
use Rattle.scholten_core.proofs.Falling.{changes_at_most}
use Rattle.path_algebra.proofs.SimpleWalks.{has_simple_walks}

-- no walk of a graph leads to vertex 0
never_to_zero : (g : GraphData) → IsGraph g → (u : ℕ) (p : List ℕ) → 1 ≤ u → IsWalk g u p 0 → ⊥
never_to_zero g R u [] l w = omega arith
never_to_zero g R u (a ∷ p) l w = never_to_zero g R (arc_of g a).head p (R.ends a w.0).1.0 w.2

module _ {V : Type 0} (A : Algebra V) (N : Network) where
  one_event : (b : Bool) → cond b 1 0 ≡ one_if b
  one_event true = refl
  one_event false = refl

  -- an enabled event is a delivery or an acceptance
  enabled_either : (c : CoreState V) (e : Event) → cond (is_enabled c e) 1 0 ≡ one_if (is_delivery A N c e) + one_if (is_acceptance A N c e)
  enabled_either c (Deliver a) = let h = one_event (is_message (c.token a)) in omega (arith, h)
  enabled_either c (Accept a) = let h = one_event (is_signal (c.token a)) in omega (arith, h)

  enabled_total : (c : CoreState V) (es : List Event) → count_enabled A N c es ≡ delivered_total A N c es + accepted_total A N c es
  enabled_total c [] = omega arith
  enabled_total c (e ∷ es) = let h = enabled_total (step A N c e) es in let k = enabled_either c e in omega (arith, h, k)

  -- all that is sent, arc by arc
  sent_by_arc : (c : CoreState V) (es : List Event) → sent_total A N c es ≡ sum_below (λ b. sent_on A N b c es) (suc N.arcs)
  sent_by_arc c [] = sym (sum_zero (λ b. 0) (suc N.arcs) (λ b. refl))
  sent_by_arc c (e ∷ es) =
      let h = sent_by_arc (step A N c e) es in
      let k = sum_add (λ b. one_if (is_message ((step A N c e).token b) && not (is_message (c.token b)))) (λ b. sent_on A N b (step A N c e) es) (suc N.arcs) in
      omega (arith, h, k)

module _ {V : Type 0} (A : Algebra V) (g : GraphData) (s : ℕ) where
  arc_sends : IsLawful A → IsGraph g → 1 ≤ s → (walks : ℕ → List (List ℕ)) → ((v : ℕ) → HasSimpleWalks g s v (walks v)) → (es : List Event) (b : ℕ) →
      sent_on A (network g s) (suc b) (opening A (network g s)) es ≤ length (walks (arc_of g (suc b)).tail)
  arc_sends L R l walks H es b =
      let p = sends_at_most A (network g s) L (well_formed g s R l) es (suc b) in
      let q = changes_at_most A g s L R l ((network g s).tail (suc b)) (walks ((network g s).tail (suc b))) (H ((network g s).tail (suc b))) es in
      let e = ap (λ v. length (walks v)) (tail-arc g (suc b) (omega arith)) in
      omega (arith, p, q, e)

  entry_sends : IsLawful A → IsGraph g → 1 ≤ s → (es : List Event) → sent_on A (network g s) 0 (opening A (network g s)) es ≤ 0
  entry_sends L R l es =
      let p = sends_at_most A (network g s) L (well_formed g s R l) es 0 in
      let q = changes_at_most A g s L R l ((network g s).tail 0) [] (λ w h. absurd (never_to_zero g R s w l (subst (λ v. IsWalk g s w v) (tail-entry g) h.0))) es in
      omega (arith, p, q)

  -- for any lists that have the simple walks
  pub sent_by : IsLawful A → IsGraph g → 1 ≤ s → (walks : ℕ → List (List ℕ)) → ((v : ℕ) → HasSimpleWalks g s v (walks v)) → (es : List Event) →
      sent_total A (network g s) (opening A (network g s)) es ≤ sum_below (λ b. length (walks (arc_of g (suc b)).tail)) (length g.arcs)
  sent_by L R l walks H es =
      let a = sent_by_arc A (network g s) (opening A (network g s)) es in
      let f = sum_first (λ b. sent_on A (network g s) b (opening A (network g s)) es) (length g.arcs) in
      let z = entry_sends L R l es in
      let m = sum_most (λ b. sent_on A (network g s) (suc b) (opening A (network g s)) es) (λ b. length (walks (arc_of g (suc b)).tail)) (length g.arcs) (λ b. arc_sends L R l walks H es b) in
      omega (arith, a, f, z, m)

  pub few_changes : IsLawful A → IsGraph g → HasVertex g s → (es : List Event) (v : ℕ) → label_changes A (network g s) v (opening A (network g s)) es ≤ length (simple_walks g s v)
  few_changes L R S es v = changes_at_most A g s L R S.0 v (simple_walks g s v) (has_simple_walks g R s v S) es

  pub few_messages : IsLawful A → IsGraph g → HasVertex g s → (es : List Event) → (totals_of A (network g s) es).sent ≤ message_bound g s
  few_messages L R S es = let h = sent_by L R S.0 (λ v. simple_walks g s v) (λ v. has_simple_walks g R s v S) es in omega (arith, h)

  pub few_events : IsLawful A → IsGraph g → HasVertex g s → (es : List Event) → count_enabled A (network g s) (opening A (network g s)) es ≤ 2 * message_bound g s
  few_events L R S es =
      let t = enabled_total A (network g s) (opening A (network g s)) es in
      let n = never_more A (network g s) L (well_formed g s R S.0) es in
      let m = few_messages L R S es in
      let n0 = n.0 in let n1 = n.1 in
      omega (arith, t, n0, n1, m)
