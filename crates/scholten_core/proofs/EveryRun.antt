-- What is promised of every reached state and its accounts, and of every ended one, in the words of
-- the graph.
use Rattle.scholten_core.proofs.Words.{◌≡◌, ℕ, ◌<◌, ◌≤◌, ◌^◌, Option, Some, None, List, [], ◌∷◌, refl, sym, ap, subst, ◌∙◌, suc, ◌+◌, Bool, true, is_some, inl, inr, length, arith, Algebra, IsLawful, Event, network, head_of, WellFormed, CoreState, extend_label, state_after, HasEnded, IsQuiet, opening, well_formed, tail-arc, tail-entry, weight-arc, cases_Bool, sum_below, one_if, walk_value_is_value}
use Rattle.road_graph.specs.GraphData.{GraphData, IsGraph, HasVertex, HasArc, arc_of}
use Rattle.path_algebra.specs.Walks.{IsBestLabel, IsWalkValue}
use Rattle.scholten_core.specs.Rooted.{IsRooted, NeutralIsIdle, HeldIsEngager}
use Rattle.scholten_core.specs.Reached.{LabelsAreWalkValues, MessagesAreWalkValues, EntryIsOrigin, LabelsAreBest}
use Rattle.scholten_core.proofs.SharedWalks.{value_in_graph, value_in_network}
use Rattle.scholten_core.proofs.CoreInvariant.{CoreInvariant}
use Rattle.scholten_core.proofs.Ended.{IsSolved, reached_kept, reached_rooted, ended}
use Rattle.path_algebra.specs.Given.{reach}
use Rattle.path_algebra.specs.Laws.{reach_laws}
use Rattle.scholten_core.specs.Accounts.{sent_on, label_changes, totals_of, AreEqualTotals, AreMarksOfReached, count_marked}
use Rattle.scholten_core.specs.BestFirst.{IsBestFirst, AreMarksOfWalkEnds}
use Rattle.scholten_core.proofs.MessagesFollowLabels.{sends_at_most}
use Rattle.scholten_core.proofs.BestFirst.{best_first_sends}
use Rattle.std.specs.Prelude.{IsSome, IsTrue}
use Rattle.scholten_core.proofs.Counts.{all_equal}
use Rattle.scholten_core.proofs.Reach.{IsOneValued, reach_sends, total_by_arc, walk_end}
use Rattle.scholten_core.proofs.Basics.{one_if-most, sum_same, sum_below_same, sum_below_most, sum_first}

module _ {V : Type 0} (A : Algebra V) (g : GraphData) (s : ℕ) where
  pub run_kept_at : IsLawful A → IsGraph g → 1 ≤ s → (es : List Event) → CoreInvariant A (network g s) 0 (state_after A (network g s) es)
  run_kept_at L R l es = reached_kept A (network g s) L (well_formed g s R l) es

  pub labels_are_walk_values : IsLawful A → IsGraph g → 1 ≤ s → (es : List Event) → LabelsAreWalkValues A g s (state_after A (network g s) es)
  labels_are_walk_values L R l es v x q = value_in_graph A g s v x ((run_kept_at L R l es).label_walk v x q)

  pub messages_are_walk_values : IsLawful A → IsGraph g → 1 ≤ s → (es : List Event) → MessagesAreWalkValues A g s (state_after A (network g s) es)
  messages_are_walk_values L R l es b x q = value_in_graph A g s (head_of g s b) x ((run_kept_at L R l es).message_walk b x q)

  pub entry_is_origin : IsLawful A → IsGraph g → 1 ≤ s → (es : List Event) → EntryIsOrigin A (state_after A (network g s) es)
  entry_is_origin L R l es = (run_kept_at L R l es).entry_origin

  pub runs_are_rooted : IsLawful A → IsGraph g → 1 ≤ s → (es : List Event) → IsRooted A (network g s) (state_after A (network g s) es)
  runs_are_rooted L R l es = reached_rooted A (network g s) L (well_formed g s R l) es

  pub neutral_is_idle : IsLawful A → IsGraph g → 1 ≤ s → (es : List Event) → NeutralIsIdle A (network g s) (state_after A (network g s) es)
  neutral_is_idle L R l es = (run_kept_at L R l es).neutral_idle

  pub held_is_engager : IsLawful A → IsGraph g → 1 ≤ s → (es : List Event) → HeldIsEngager A (network g s) (state_after A (network g s) es)
  held_is_engager L R l es v a =
      let K = run_kept_at L R l es in
      ((λ q. K.engager_held v a q), (λ h. ap (state_after A (network g s) es).engager (sym h.1) ∙ K.held_engager a h.0))

  -- a solved state in the words of the graph
  solved_best : IsGraph g → (c : CoreState V) → IsSolved A (network g s) c → LabelsAreBest A g s c
  solved_best R c S v h = go (c.label v) refl
    where
      go : (o : Option V) → c.label v ≡ o → IsBestLabel A g (s ∷ []) v o
      go None q = λ y w. S.1 v y (value_in_network A g s R v y w) q
      go (Some x) q = record { attained = value_in_graph A g s v x (S.0 v x q).0; least = λ y w. (S.0 v x q).1 y (value_in_network A g s R v y w) }

  pub ended_is_quiet : IsLawful A → IsGraph g → 1 ≤ s → (es : List Event) → HasEnded (state_after A (network g s) es) → IsQuiet (state_after A (network g s) es)
  ended_is_quiet L R l es q = (ended A (network g s) L (well_formed g s R l) es q).0

  pub ended_is_best : IsLawful A → IsGraph g → 1 ≤ s → (es : List Event) → HasEnded (state_after A (network g s) es) → LabelsAreBest A g s (state_after A (network g s) es)
  ended_is_best L R l es q = solved_best R (state_after A (network g s) es) (ended A (network g s) L (well_formed g s R l) es q).1

module _ {V : Type 0} (A : Algebra V) (g : GraphData) (s : ℕ) where
  pub sends_follow_changes : IsLawful A → IsGraph g → 1 ≤ s → (es : List Event) (b : ℕ) →
      sent_on A (network g s) b (opening A (network g s)) es ≤ label_changes A (network g s) ((network g s).tail b) (opening A (network g s)) es
  sends_follow_changes L R l es b = sends_at_most A (network g s) L (well_formed g s R l) es b

  pub totals_are_equal : IsLawful A → IsGraph g → 1 ≤ s → (es : List Event) → HasEnded (state_after A (network g s) es) → AreEqualTotals (totals_of A (network g s) es)
  totals_are_equal L R l es q = let h = all_equal A (network g s) L (well_formed g s R l) es q in (sym h.0, sym h.1, sym h.2)

module _ (g : GraphData) (s : ℕ) where
  one_value : IsOneValued reach (network g s)
  one_value = record { all = λ x y. refl; always = λ x w. (tt, refl) }

  -- there is a label at the tail of each marked arc, and of no other
  marked_label : (c : CoreState (Unit {0})) (marked : ℕ → Bool) → AreMarksOfReached reach g s marked →
      ((v : ℕ) (x : Unit {0}) → c.label v ≡ Some x → IsWalkValue reach g (s ∷ []) v x) → ((v : ℕ) → HasVertex g v → IsBestLabel reach g (s ∷ []) v (c.label v)) → IsGraph g →
      (a : ℕ) → HasArc g a → is_some (c.label ((arc_of g a).tail)) ≡ marked a
  marked_label c marked M W B R a h = go (c.label (arc_of g a).tail) refl (B (arc_of g a).tail (R.ends a h).0)
    where
      go : (o : Option (Unit {0})) → c.label (arc_of g a).tail ≡ o → IsBestLabel reach g (s ∷ []) (arc_of g a).tail o → is_some o ≡ marked a
      go (Some x) q b = sym ((M a h).1 (x, W (arc_of g a).tail x q))
      go None q b = elim (cases_Bool (marked a)) [ inl t ↦ absurd (let r = (M a h).0 t in b r.0 r.1) | inr f ↦ sym f ]

  pub reach_sends_once : IsGraph g → HasVertex g s → (es : List Event) → HasEnded (state_after reach (network g s) es) → (marked : ℕ → Bool) → AreMarksOfReached reach g s marked →
      (totals_of reach (network g s) es).sent ≡ 1 + count_marked g marked
  reach_sends_once R S es q marked M =
      let W = well_formed g s R S.0 in
      let c = state_after reach (network g s) es in
      let K = run_kept_at reach g s reach_laws R S.0 es in
      let none = no_entry_label K ((state_after reach (network g s) es).label 0) refl in
      let first : one_if (is_some ((state_after reach (network g s) es).label ((network g s).tail 0))) ≡ 0 =
      ap (λ v. one_if (is_some ((state_after reach (network g s) es).label v))) (tail-entry g) ∙ ap (λ o. one_if (is_some o)) none in
      let each = sum_below_same (λ b. one_if (is_some ((state_after reach (network g s) es).label ((network g s).tail (suc b))))) (λ b. one_if (marked (suc b))) (length g.arcs)
      (λ b l. let h : HasArc g (suc b) = (omega arith, omega (arith, l)) in
      ap (λ v. one_if (is_some ((state_after reach (network g s) es).label v))) (tail-arc g (suc b) (omega arith))
      ∙ ap one_if (marked_label (state_after reach (network g s) es) marked M (labels_are_walk_values reach g s reach_laws R S.0 es) (ended_is_best reach g s reach_laws R S.0 es q) R (suc b) h)) in
      let all = reach_sends reach (network g s) reach_laws W one_value es q in
      let split = sum_first (λ b. one_if (is_some ((state_after reach (network g s) es).label ((network g s).tail b)))) (length g.arcs) in
      omega (arith, first, each, all, split)
    where
      no_entry_label : CoreInvariant reach (network g s) 0 (state_after reach (network g s) es) → (o : Option (Unit {0}))
          → (state_after reach (network g s) es).label 0 ≡ o → (state_after reach (network g s) es).label 0 ≡ None
      no_entry_label K None h = h
      no_entry_label K (Some x) h = absurd (let w = K.label_walk 0 x h in walk_end reach (network g s) (well_formed g s R S.0) s w.0 0 (λ z. let l = S.0 in omega (arith, l, z)) w.1 refl)

-- best first, a message goes along each arc that a label extends along, and along no other
module _ {V : Type 0} (A : Algebra V) (g : GraphData) (s : ℕ) (L : IsLawful A) (R : IsGraph g) (S : HasVertex g s) (es : List Event) (B : IsBestFirst A (network g s) (opening A (network g s)) es) where
  abbrev label_at : ℕ → Option V
  label_at v = (state_after A (network g s) es).label v

  best_first_on : (b : ℕ) → sent_on A (network g s) b (opening A (network g s)) es ≡ one_if (is_some (extend_label A (label_at ((network g s).tail b)) ((network g s).weight b)))
  best_first_on = best_first_sends A (network g s) L (well_formed g s R S.0) es B

  pub best_first_once : (b : ℕ) → sent_on A (network g s) b (opening A (network g s)) es ≤ 1
  best_first_once b = let e = best_first_on b in let m = one_if-most (is_some (extend_label A (label_at ((network g s).tail b)) ((network g s).weight b))) in omega (arith, e, m)

  no_entry : (o : Option V) → label_at 0 ≡ o → label_at 0 ≡ None
  no_entry None h = h
  no_entry (Some x) h = absurd (
      let w = (run_kept_at A g s L R S.0 es).label_walk 0 x h in
      walk_end A (network g s) (well_formed g s R S.0) s w.0 0 (λ z. let l = S.0 in omega (arith, l, z)) w.1 refl)

  -- does the label of its tail extend along the arc
  abbrev extends : ℕ → Bool
  extends a = is_some (extend_label A (label_at (arc_of g a).tail) (arc_of g a).weight)

  best_first_total : (totals_of A (network g s) es).sent ≡ 1 + sum_below (λ b. one_if (extends (suc b))) (length g.arcs)
  best_first_total =
      let each : ℕ → ℕ = λ b. one_if (is_some (extend_label A (label_at ((network g s).tail b)) ((network g s).weight b))) in
      let first : each 0 ≡ 0 = ap (λ v. one_if (is_some (extend_label A (label_at v) ((network g s).weight 0)))) (tail-entry g)
      ∙ ap (λ o. one_if (is_some (extend_label A o ((network g s).weight 0)))) (no_entry (label_at 0) refl) in
      let all = total_by_arc A (network g s) (opening A (network g s)) es ∙ sum_same (λ b. sent_on A (network g s) b (opening A (network g s)) es) each (suc (length g.arcs)) best_first_on in
      let split = sum_first each (length g.arcs) in
      let rest = sum_below_same (λ b. each (suc b)) (λ b. one_if (extends (suc b))) (length g.arcs) (λ b l.
      (λ i. one_if (is_some (extend_label A (label_at (tail-arc g (suc b) (omega arith) i)) (weight-arc g (suc b) (omega arith) i))))) in
      omega (arith, first, all, split, rest)

  mark_covers : (o : Option V) (w : ℕ) (m : Bool) → (IsSome o → IsTrue m) → one_if (is_some (extend_label A o w)) ≤ one_if m
  mark_covers None w m h = omega arith
  mark_covers (Some x) w m h = let t : one_if m ≡ 1 = ap one_if (h refl) in let l = one_if-most (is_some (extend_label A (Some x) w)) in omega (arith, t, l)

  pub best_first_most : (marked : ℕ → Bool) → ((a : ℕ) → HasArc g a → IsSome (label_at (arc_of g a).tail) → IsTrue (marked a)) → (totals_of A (network g s) es).sent ≤ 1 + count_marked g marked
  best_first_most marked M =
      let t = best_first_total in
      let m = sum_below_most (λ b. one_if (extends (suc b))) (λ b. one_if (marked (suc b))) (length g.arcs)
      (λ b l. mark_covers (label_at (arc_of g (suc b)).tail) (arc_of g (suc b)).weight (marked (suc b)) (M (suc b) (omega arith, omega (arith, l)))) in
      omega (arith, t, m)

  -- at the end, the marks of all arcs that some walk with a value ends in
  extends_marked : HasEnded (state_after A (network g s) es) → (marked : ℕ → Bool) → AreMarksOfWalkEnds A g s marked → (a : ℕ) → HasArc g a → extends a ≡ marked a
  extends_marked q marked M a h = go (label_at (arc_of g a).tail) refl (ended_is_best A g s L R S.0 es q (arc_of g a).tail (R.ends a h).0)
    where
      W : WellFormed (network g s)
      W = well_formed g s R S.0

      weighs : (arc_of g a).weight < 2 ^ 32
      weighs = subst (λ w. w < 2 ^ 32) (weight-arc g a h.0) (W.weighs a (λ z. let t = tail-arc g a h.0 in let l = (R.ends a h).0.0 in omega (arith, z, t, l)))

      walked : (x : V) → IsWalkValue A g (s ∷ []) (arc_of g a).tail x → A.is_value x ≡ true
      walked x w = walk_value_is_value A (network g s) L W (arc_of g a).tail x (value_in_network A g s R (arc_of g a).tail x w)

      extended : (z : V) → IsBestLabel A g (s ∷ []) (arc_of g a).tail (Some z) → (o : Option V) → A.extend z (arc_of g a).weight ≡ o → is_some o ≡ marked a
      extended z b (Some y) e = sym ((M a h).1 (z, y, b.attained, e))
      extended z b None e = elim (cases_Bool (marked a)) [
        | inr f ↦ sym f
        | inl t ↦ absurd (
            let r = (M a h).0 t in
            let m = L.monotone z r.0 (arc_of g a).weight r.1 (walked z b.attained) (walked r.0 r.2) weighs (b.least r.0 r.2) r.3 in
            let n = m.1 in cc)
      ]

      go : (o : Option V) → label_at (arc_of g a).tail ≡ o → IsBestLabel A g (s ∷ []) (arc_of g a).tail o → extends a ≡ marked a
      go (Some z) e b = ap (λ o. is_some (extend_label A o (arc_of g a).weight)) e ∙ extended z b (A.extend z (arc_of g a).weight) refl
      go None e b = ap (λ o. is_some (extend_label A o (arc_of g a).weight)) e ∙ elim (cases_Bool (marked a)) [ inl t ↦ absurd (let r = (M a h).0 t in b r.0 r.2) | inr f ↦ sym f ]

  pub best_first_ended : HasEnded (state_after A (network g s) es) → (marked : ℕ → Bool) → AreMarksOfWalkEnds A g s marked → (totals_of A (network g s) es).sent ≡ 1 + count_marked g marked
  best_first_ended q marked M =
      let t = best_first_total in
      let m = sum_below_same (λ b. one_if (extends (suc b))) (λ b. one_if (marked (suc b))) (length g.arcs)
      (λ b l. ap one_if (extends_marked q marked M (suc b) (omega arith, omega (arith, l)))) in
      omega (arith, t, m)
