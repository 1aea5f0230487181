-- A tree that is held to the region which a search back found: its route to the target is that of
-- the whole tree.
use Rattle.route_tree.proofs.Words.{◌≡◌, ℕ, ◌+◌, ◌≤◌, Bool, true, false, cond, List, [], ◌∷◌, length, get_or, refl, ap, sym, ◌∙◌, subst, arith, Option, Some, None, All-nil, All-cons, All-head, All-tail, IsTrue, Contains, All, GraphData, IsGraph, HasVertex, arc_of, same_some, Algebra, IsLawful, IsWalk, AreBest, AreHops, IsUnreached, label_of, is_marked, is_tight, IsWalkOf, AreLeast, IsTreeArc, IsLeastTail, AreLeastTails, IsWithinHops, Covers, IsParentRoute, AreHopsAt, IsChain, IsRoute}
use Rattle.route_tree.proofs.VisitingBack.{within_back}
use Rattle.route_tree.proofs.Existing.{least_exist}
use Rattle.route_tree.proofs.LevelsAreLeast.{IsWalkOf-snoc}
use Rattle.route_tree.proofs.Trees.{hops_at, walk_has_hops, tail_at, tree_is}
use Rattle.route_tree.proofs.Told.{route_is}

-- the test that an arc passes where its head is marked too
abbrev into : GraphData → (ℕ → Bool) → List Bool → ℕ → Bool
into g test marks a = cond (is_marked marks (arc_of g a).head) (test a) false

module _ (g : GraphData) (roads : IsGraph g) (test : ℕ → Bool) (source target : ℕ) (in_target : HasVertex g target) (marks : List Bool) (covers : Covers g test source target marks) where
  of_both : (b c : Bool) → cond b c false ≡ true → c ≡ true
  of_both true c e = e
  of_both false c e = let bad : false ≡ true = e in cc

  passes_test : (a : ℕ) → into g test marks a ≡ true → test a ≡ true
  passes_test a e = of_both (is_marked marks (arc_of g a).head) (test a) e

  passes_into : (a : ℕ) → is_marked marks (arc_of g a).head ≡ true → test a ≡ true → into g test marks a ≡ true
  passes_into a m t = rw (m, t) refl

  -- a walk within the region is one of the graph
  outside : (v k : ℕ) → IsWalkOf g (into g test marks) (source ∷ []) v k → IsWalkOf g test (source ∷ []) v k
  outside v k w = (w.0, w.1, λ i d lt. passes_test (get_or w.0 i d) (w.2 i d lt), w.3)

  -- the walk of j arcs from v to the target goes on from a walk to v: together they are no longer
  -- than any from the source
  inside : (s : ℕ) (p : List ℕ) (v j : ℕ) → IsWalk g s p v → All (λ a. IsTrue (test a)) p → IsWithinHops g test target j v →
      ((i : ℕ) → IsWalkOf g test (source ∷ []) target i → length p + j ≤ i) → All (λ a. IsTrue (into g test marks a)) p × IsWithinHops g test target (length p + j) s
  inside s [] v j w all within low =
      let n = within.3 in
      (All-nil (λ a. IsTrue (into g test marks a)), (within.0, subst (λ (u : ℕ). IsWalk g u within.0 target) (sym w) within.1, within.2, omega (arith, n)))
  inside s (a ∷ p) v j w all within low =
      let t = All-head (λ b. IsTrue (test b)) a p all in
      let rest = inside (arc_of g a).head p v j w.2 (All-tail (λ b. IsTrue (test b)) a p all) within (λ i walk. let n = low i walk in omega (arith, n)) in
      let m = covers (arc_of g a).head (length p + j) rest.1 (λ i walk. let n = low i walk in omega (arith, n)) in
      let back = within_back g roads test target (length p + j) a w.0 t rest.1 in
      let n = back.3 in (
        All-cons (λ b. IsTrue (into g test marks b)) a p (passes_into a m t) rest.0,
        (back.0, subst (λ (u : ℕ). IsWalk g u back.0 target) w.1 back.1, back.2, omega (arith, n)),
      )

  module _ (hops parents : List (Option ℕ)) (least : AreLeast g test (source ∷ []) hops) (tails : AreLeastTails g test hops parents)
      (near adopted : List (Option ℕ)) (near_least : AreLeast g (into g test marks) (source ∷ []) near) (near_tails : AreLeastTails g (into g test marks) near adopted) where
    module _ (far : ℕ) (at_target : label_of hops target ≡ Some far) where
      no_shorter : (i : ℕ) → IsWalkOf g test (source ∷ []) target i → far ≤ i
      no_shorter = (hops_at g roads test (source ∷ []) hops least target far in_target at_target).1

      -- on a least walk to the target hops are the same
      same_hops : (v i j : ℕ) → HasVertex g v → label_of hops v ≡ Some i → IsWithinHops g test target j v → i + j ≤ far → label_of near v ≡ Some i
      same_hops v i j in_v e within le =
          let walk = hops_at g roads test (source ∷ []) hops least v i in_v e in
          let n = walk.0.3 in
          let all = inside walk.0.1.0 walk.0.0 v j walk.0.1.2 walk.0.2 within (λ m w. let low = no_shorter m w in omega (arith, low, le, n)) in
          let found = walk_has_hops g roads (into g test marks) (source ∷ []) near near_least v i in_v (walk.0.0, walk.0.1, all.0, n) in
          let back = hops_at g roads (into g test marks) (source ∷ []) near near_least v found.0 in_v found.1 in
          let low = walk.1 found.0 (outside v found.0 back.0) in
          let high = found.2 in
          let same : found.0 ≡ i = omega (arith, low, high) in
          found.1 ∙ ap (λ (m : ℕ). Some m) same

      -- an arc of the held tree is one of the whole tree
      whole_tree_arc : (v i j a : ℕ) → HasVertex g v → label_of hops v ≡ Some i → IsWithinHops g test target j v → i + j ≤ far → IsTreeArc g (into g test marks) near a → (arc_of g a).head ≡ v →
          IsTreeArc g test hops a × ((m : ℕ) × (label_of hops (arc_of g a).tail ≡ Some m) × (m + 1 ≡ i))
      whole_tree_arc v i j a in_v e within le l head =
          let in_tail = (roads.ends a l.arc).0 in
          let t = passes_test a l.passes in
          let at_v = same_hops v i j in_v e within le in
          let one : l.near + 1 ≡ i = same_some (label_of near v) (l.near + 1) i (ap (label_of near) (sym head) ∙ l.at_head) at_v in
          let walk = (hops_at g roads (into g test marks) (source ∷ []) near near_least (arc_of g a).tail l.near in_tail l.at_tail).0 in
          let found = walk_has_hops g roads test (source ∷ []) hops least (arc_of g a).tail l.near in_tail (outside (arc_of g a).tail l.near walk) in
          let back = (hops_at g roads test (source ∷ []) hops least (arc_of g a).tail found.0 in_tail found.1).0 in
          let on = IsWalkOf-snoc g test (source ∷ []) (arc_of g a).tail a found.0 back l.arc refl t in
          let low = (hops_at g roads test (source ∷ []) hops least v i in_v e).1 (found.0 + 1) (subst (λ (u : ℕ). IsWalkOf g test (source ∷ []) u (found.0 + 1)) head on) in
          let high = found.2 in
          let two : found.0 + 1 ≡ i = omega (arith, one, low, high) in (
            record { arc = l.arc; passes = t; near = found.0; at_tail = found.1; at_head = ap (label_of hops) head ∙ e ∙ ap (λ (m : ℕ). Some m) (sym two) },
            (found.0, found.1, two),
          )

      -- an arc of the whole tree on a least walk to the target is one of the held tree
      held_tree_arc : (v i j a : ℕ) → HasVertex g v → label_of hops v ≡ Some i → IsWithinHops g test target j v → i + j ≤ far → IsTreeArc g test hops a → (arc_of g a).head ≡ v →
          IsTreeArc g (into g test marks) near a
      held_tree_arc v i j a in_v e within le l head =
          let in_tail = (roads.ends a l.arc).0 in
          let one : l.near + 1 ≡ i = same_some (label_of hops v) (l.near + 1) i (ap (label_of hops) (sym head) ∙ l.at_head) e in
          let m = covers v j within (λ k w. let low = no_shorter k w in omega (arith, low, le)) in
          let back = within_back g roads test target j a l.arc l.passes (subst (λ (u : ℕ). IsWithinHops g test target j u) (sym head) within) in
          record {
            arc = l.arc;
            passes = passes_into a (ap (is_marked marks) head ∙ m) l.passes;
            near = l.near;
            at_tail = same_hops (arc_of g a).tail l.near (j + 1) in_tail l.at_tail back (omega (arith, one, le));
            at_head = ap (label_of near) head ∙ same_hops v i j in_v e within le ∙ ap (λ (k : ℕ). Some k) (sym one);
          }

      by_whole : (v i j u : ℕ) → HasVertex g v → label_of hops v ≡ Some i → IsWithinHops g test target j v → i + j ≤ far → IsLeastTail g (into g test marks) near v (Some u) →
          (l : Option ℕ) → IsLeastTail g test hops v l → l ≡ Some u
      by_whole v i j u in_v e within le tail None none =
          let f = tail.0 in absurd (none f.0 (whole_tree_arc v i j f.0 in_v e within le f.1 f.2).0 f.2)
      by_whole v i j u in_v e within le tail (Some t) least_tail =
          let f = tail.0 in
          let h = least_tail.0 in
          let low = least_tail.1 f.0 (whole_tree_arc v i j f.0 in_v e within le f.1 f.2).0 f.2 in
          let high = tail.1 h.0 (held_tree_arc v i j h.0 in_v e within le h.1 h.2) h.2 in
          let at_f = f.3 in
          let at_h = h.3 in
          let same : t ≡ u = omega (arith, low, high, at_f, at_h) in
          ap (λ (w : ℕ). Some w) same

      -- on a least walk to the target parents are the same
      same_parent : (v i j u : ℕ) → HasVertex g v → label_of hops v ≡ Some i → IsWithinHops g test target j v → i + j ≡ far → label_of adopted v ≡ Some u →
          (label_of parents v ≡ Some u) × HasVertex g u × ((m : ℕ) × (label_of hops u ≡ Some m) × (m + 1 ≡ i)) × IsWithinHops g test target (j + 1) u
      same_parent v i j u in_v e within is f =
          let le : i + j ≤ far = omega (arith, is) in
          let tail = tail_at g roads (into g test marks) (source ∷ []) near near_least adopted near_tails v (Some u) in_v f in
          let h = tail.0 in
          let whole = whole_tree_arc v i j h.0 in_v e within le h.1 h.2 in
          let back = within_back g roads test target j h.0 h.1.arc (passes_test h.0 h.1.passes) (subst (λ (w : ℕ). IsWithinHops g test target j w) (sym h.2) within) in (
            by_whole v i j u in_v e within le tail (label_of parents v) (tails.tails v in_v),
            subst (λ (w : ℕ). HasVertex g w) h.3 ((roads.ends h.0 h.1.arc).0),
            (whole.1.0, ap (label_of hops) (sym h.3) ∙ whole.1.1, whole.1.2),
            subst (λ (w : ℕ). IsWithinHops g test target (j + 1) w) h.3 back,
          )

      -- a chain of parents in the held tree is one in the whole tree, and has as many arcs as hops
      -- are left
      same_chain : (u : ℕ) (rest : List ℕ) → IsChain (record { hops = near; parents = adopted }) u rest target →
          IsChain (record { hops = hops; parents = parents }) u rest target × HasVertex g u × IsWithinHops g test target (length rest) u ×
          ((i : ℕ) × (label_of hops u ≡ Some i) × (i + length rest ≡ far))
      same_chain u [] c = (
        c,
        subst (λ (w : ℕ). HasVertex g w) (sym c) in_target,
        ([], c, All-nil (λ a. IsTrue (test a)), omega arith),
        (far, ap (label_of hops) c ∙ at_target, omega arith),
      )
      same_chain u (w ∷ rest) c =
          let later = same_chain w rest c.1 in
          let at_w = later.3 in
          let p = same_parent w at_w.0 (length rest) u later.1 at_w.1 later.2 at_w.2 c.0 in
          let within = p.3 in
          let m = p.2.2 in
          let n = at_w.2 in
          let k = within.3 in
          ((p.0, later.0), p.1, (within.0, within.1, within.2, omega (arith, k)), (p.2.0, p.2.1, omega (arith, m, n)))

      pub same_route : (list : List ℕ) → IsRoute (record { hops = near; parents = adopted }) target list → IsRoute (record { hops = hops; parents = parents }) target list
      same_route list r =
          let c = same_chain r.first r.rest r.chain in
          let at_first = c.3 in
          let n = at_first.2 in
          let le : at_first.0 + length r.rest ≤ far = omega (arith, n) in
          let z : 0 ≡ at_first.0 = same_some (label_of near r.first) 0 at_first.0 r.begins (same_hops r.first at_first.0 (length r.rest) c.1 at_first.1 c.2 le) in
          record { first = r.first; rest = r.rest; is = r.is; begins = at_first.1 ∙ ap (λ (k : ℕ). Some k) (sym z); chain = c.0 }

      pub same_at_target : label_of near target ≡ Some far
      same_at_target = same_hops target far 0 in_target at_target ([], refl, All-nil (λ a. IsTrue (test a)), omega arith) (omega arith)

    none_at : (l : Option ℕ) → label_of hops target ≡ l → label_of near target ≡ None → l ≡ None
    none_at None e f = refl
    none_at (Some far) e f = let bad : None ≡ Some far = sym f ∙ same_at_target far e in cc

    -- no hops in the held tree, none in the whole one
    pub same_none : label_of near target ≡ None → label_of hops target ≡ None
    same_none f = none_at (label_of hops target) refl f

    -- hops in the held tree are those of the whole one
    pub same_some_hops : (k : ℕ) → label_of near target ≡ Some k → label_of hops target ≡ Some k
    same_some_hops k e =
        let walk = (hops_at g roads (into g test marks) (source ∷ []) near near_least target k in_target e).0 in
        let found = walk_has_hops g roads test (source ∷ []) hops least target k in_target (outside target k walk) in
        let same : found.0 ≡ k = same_some (label_of near target) found.0 k (same_at_target found.0 found.1) e in
        found.1 ∙ ap (λ (i : ℕ). Some i) same

module _ {V : Type 0} (A : Algebra V) (lawful : IsLawful A) (g : GraphData) (roads : IsGraph g) (source target : ℕ) (in_source : All (HasVertex g) (source ∷ []))
    (in_s : (s : ℕ) → Contains (source ∷ []) s → HasVertex g s) (in_target : HasVertex g target)
    (labels : List (Option V)) (best : AreBest A g (source ∷ []) labels) (marks : List Bool) (covers : Covers g (is_tight A g labels) source target marks)
    (near adopted : List (Option ℕ)) (near_least : AreLeast g (into g (is_tight A g labels) marks) (source ∷ []) near)
    (near_tails : AreLeastTails g (into g (is_tight A g labels) marks) near adopted) where
  none_told : (l : Option ℕ) → l ≡ None → AreHopsAt A g (source ∷ []) target l → IsUnreached A g (source ∷ []) target
  none_told None e h = h
  none_told (Some k) e h = let bad : Some k ≡ None = e in absurd (cc)

  some_told : (l : Option ℕ) (k : ℕ) → l ≡ Some k → AreHopsAt A g (source ∷ []) target l → AreHops A g (source ∷ []) target k
  some_told None k e h = let bad : None ≡ Some k = e in absurd (cc)
  some_told (Some j) k e h = subst (λ (i : ℕ). AreHops A g (source ∷ []) target i) (same_some (Some j) j k refl e) h

  pub no_route : label_of near target ≡ None → IsUnreached A g (source ∷ []) target
  no_route e =
      let whole = least_exist g roads (is_tight A g labels) (source ∷ []) in_source in
      let tree = tree_is A lawful g roads (source ∷ []) in_s labels best whole.0 whole.2 whole.1 whole.3 in
      none_told (label_of whole.0 target) (same_none g roads (is_tight A g labels) source target in_target marks covers whole.0 whole.1 whole.2 whole.3 near adopted near_least
      near_tails e) (tree.hops target in_target)

  pub route_told : (k : ℕ) (list : List ℕ) → label_of near target ≡ Some k → IsRoute (record { hops = near; parents = adopted }) target list →
      AreHops A g (source ∷ []) target k × IsParentRoute A g (source ∷ []) target list
  route_told k list e r =
      let whole = least_exist g roads (is_tight A g labels) (source ∷ []) in_source in
      let tree = tree_is A lawful g roads (source ∷ []) in_s labels best whole.0 whole.2 whole.1 whole.3 in
      let hops = same_some_hops g roads (is_tight A g labels) source target in_target marks covers whole.0 whole.1 whole.2 whole.3 near adopted near_least near_tails k e in
      let route = same_route g roads (is_tight A g labels) source target in_target marks covers whole.0 whole.1 whole.2 whole.3 near adopted near_least near_tails k hops list r in (
        some_told (label_of whole.0 target) k hops (tree.hops target in_target),
        route_is A g (source ∷ []) roads (record { hops = whole.0; parents = whole.1 }) tree target list in_target route,
      )
