-- The tree that least hops and least tails make.
use Rattle.route_tree.proofs.Words.{◌≡◌, ℕ, ◌+◌, ◌≤◌, ◌⊎◌, inl, inr, Bool, List, [], ◌∷◌, length, refl, ap, sym, ◌∙◌, subst, arith, Option, Some, None, ◌-◌, true, false, get_or, map, All-nil, All-cons, All-head, All-tail, IsTrue, Contains, All, GraphData, IsGraph, HasArc, HasVertex, arc_of, same_some, IsWalkOf, IsLeastAt, AreLeast, IsLeastTail, AreLeastTails, IsLinkedAt, IsLinked, AreHopsAt, IsParentAt, IsTree, get_or-map, Algebra, IsLawful}
use Rattle.path_algebra.specs.Walks.{IsWalk, label_of, IsTight, is_tight, AreBest, AreHops, IsParent, IsTightWalk, IsUnreached}
use Rattle.route_tree.proofs.LevelsAreLeast.{IsWalkOf-snoc, IsWalkOf-nil}
use Rattle.path_algebra.proofs.Tight.{tight_is, tight_arcs_reach, labelled}

module _ (g : GraphData) (roads : IsGraph g) (test : ℕ → Bool) (sources : List ℕ) where
  -- a walk that is not empty ends by an arc
  last_arc : (u : ℕ) (p : List ℕ) (v : ℕ) → IsWalk g u p v → All (λ a. IsTrue (test a)) p →
      ((u ≡ v) × (length p ≡ 0)) ⊎ ((q : List ℕ) × (a : ℕ) × IsWalk g u q (arc_of g a).tail × All (λ b. IsTrue (test b)) q × HasArc g a × IsTrue (test a) ×
      ((arc_of g a).head ≡ v) × (length q + 1 ≡ length p))
  last_arc u [] v w h = inl (w, refl)
  last_arc u (a ∷ p) v w h =
      let first = All-head (λ b. IsTrue (test b)) a p h in
      let rest = All-tail (λ b. IsTrue (test b)) a p h in
      elim (last_arc (arc_of g a).head p v w.2 rest) [
        | inl none ↦ let z = none.1 in inr ([], a, sym w.1, All-nil (λ b. IsTrue (test b)), w.0, first, none.0, omega (arith, z))
        | inr f ↦ let n = f.7 in inr (a ∷ f.0, f.1, (w.0, w.1, f.2), All-cons (λ b. IsTrue (test b)) a f.0 first f.3, f.4, f.5, f.6, omega (arith, n))
      ]

  module _ (hops : List (Option ℕ)) (least : AreLeast g test sources hops) where
    of_some : (v k : ℕ) (l : Option ℕ) → l ≡ Some k → IsLeastAt g test sources v l → IsWalkOf g test sources v k × ((j : ℕ) → IsWalkOf g test sources v j → k ≤ j)
    of_some v k None e h = let bad : None ≡ Some k = e in cc
    of_some v k (Some j) e h =
        let same : j ≡ k = same_some (Some j) j k refl e in
        subst (λ (i : ℕ). IsWalkOf g test sources v i × ((m : ℕ) → IsWalkOf g test sources v m → i ≤ m)) same h

    -- what hops say: a walk of as many arcs, and none of fewer
    pub hops_at : (v k : ℕ) → HasVertex g v → label_of hops v ≡ Some k → IsWalkOf g test sources v k × ((j : ℕ) → IsWalkOf g test sources v j → k ≤ j)
    hops_at v k in_v e = of_some v k (label_of hops v) e (least.least v in_v)

    some_of : (v k : ℕ) (l : Option ℕ) → IsWalkOf g test sources v k → IsLeastAt g test sources v l → (j : ℕ) × (l ≡ Some j) × (j ≤ k)
    some_of v k None w h = absurd (h k w)
    some_of v k (Some j) w h = (j, refl, h.1 k w)

    -- a vertex with a walk has hops
    pub walk_has_hops : (v k : ℕ) → HasVertex g v → IsWalkOf g test sources v k → (j : ℕ) × (label_of hops v ≡ Some j) × (j ≤ k)
    walk_has_hops v k in_v w = some_of v k (label_of hops v) w (least.least v in_v)

    -- a vertex with hops that no tree arc enters is a source
    pub no_arc : (v k : ℕ) → HasVertex g v → label_of hops v ≡ Some k → IsLeastTail g test hops v None → Contains sources v
    no_arc v k in_v e none =
        let h = hops_at v k in_v e in
        let w = h.0 in
        elim (last_arc w.1.0 w.0 v w.1.2 w.2) [
          | inl empty ↦ subst (λ (s : ℕ). Contains sources s) empty.0 w.1.1
          | inr f ↦
              let ends = roads.ends f.1 f.4 in
              let t = walk_has_hops (arc_of g f.1).tail (length f.0) ends.0 (f.0, (w.1.0, w.1.1, f.2), f.3, refl) in
              let on = IsWalkOf-snoc g test sources (arc_of g f.1).tail f.1 t.0 (hops_at (arc_of g f.1).tail t.0 ends.0 t.1).0 f.4 refl f.5 in
              let high = h.1 (t.0 + 1) (subst (λ (u : ℕ). IsWalkOf g test sources u (t.0 + 1)) f.6 on) in
              let low = t.2 in
              let n = f.7 in
              let m = w.3 in
              let one : t.0 + 1 ≡ k = omega (arith, low, high, n, m) in
              let at_head : label_of hops (arc_of g f.1).head ≡ Some k = ap (label_of hops) f.6 ∙ e in
              absurd (none f.1 (record { arc = f.4; passes = f.5; near = t.0; at_tail = t.1; at_head = at_head ∙ ap (λ (i : ℕ). Some i) (sym one) }) f.6)
        ]

    -- what an arc of the tree says of its ends
    pub by_arc : (v u : ℕ) → IsLeastTail g test hops v (Some u) → (j : ℕ) × (label_of hops u ≡ Some j) × (label_of hops v ≡ Some (j + 1)) × HasVertex g u
    by_arc v u tail =
        let f = tail.0 in
        (f.1.near, ap (label_of hops) (sym f.3) ∙ f.1.at_tail, ap (label_of hops) (sym f.2) ∙ f.1.at_head, subst (λ (w : ℕ). HasVertex g w) f.3 ((roads.ends f.0 f.1.arc).0))

    module _ (parents : List (Option ℕ)) (tails : AreLeastTails g test hops parents) where
      pub tail_at : (v : ℕ) (m : Option ℕ) → HasVertex g v → label_of parents v ≡ m → IsLeastTail g test hops v m
      tail_at v m in_v e = subst (λ (l : Option ℕ). IsLeastTail g test hops v l) e (tails.tails v in_v)

      link : (v : ℕ) → HasVertex g v → (l m : Option ℕ) → label_of hops v ≡ l → label_of parents v ≡ m → IsLinkedAt (record { hops = hops; parents = parents }) l m
      link v in_v None None e f = tt
      link v in_v None (Some u) e f =
          let o = by_arc v u (tail_at v (Some u) in_v f) in
          let bad : None ≡ Some (o.0 + 1) = sym e ∙ o.2 in cc
      link v in_v (Some k) None e f =
          let s = no_arc v k in_v e (tail_at v None in_v f) in
          let low = (hops_at v k in_v e).1 0 (IsWalkOf-nil g test sources v s) in
          omega (arith, low)
      link v in_v (Some k) (Some u) e f =
          let o = by_arc v u (tail_at v (Some u) in_v f) in
          let in_u = o.3 in
          (in_u.0, (let high = in_u.1 in omega (arith, high, least.count)), (o.0, o.1, same_some (label_of hops v) (o.0 + 1) k o.2 e))

      pub linked : IsLinked (record { hops = hops; parents = parents })
      linked = record {
        count = tails.count ∙ sym least.count;
        links = λ v low high. link v (low, omega (arith, high, least.count)) (label_of hops v) (label_of parents v) refl refl;
      }

module _ {V : Type 0} (A : Algebra V) (lawful : IsLawful A) (g : GraphData) (roads : IsGraph g) (sources : List ℕ) (in_s : (s : ℕ) → Contains sources s → HasVertex g s)
    (labels : List (Option V)) (best : AreBest A g sources labels) (hops : List (Option ℕ)) (least : AreLeast g (is_tight A g labels) sources hops) where
  all_tight : (u : ℕ) (p : List ℕ) (v : ℕ) → IsWalk g u p v → All (λ a. IsTrue (is_tight A g labels a)) p → All (IsTight A g sources) p
  all_tight u [] v w h = All-nil (IsTight A g sources)
  all_tight u (a ∷ p) v w h = All-cons (IsTight A g sources) a p
      ((tight_is A lawful g roads sources labels best a w.0).0 (All-head (λ b. IsTrue (is_tight A g labels b)) a p h))
      (all_tight (arc_of g a).head p v w.2 (All-tail (λ b. IsTrue (is_tight A g labels b)) a p h))

  all_pass : (p : List ℕ) → All (IsTight A g sources) p → All (λ a. IsTrue (is_tight A g labels a)) p
  all_pass p h k d lt = let t = h k d lt in (tight_is A lawful g roads sources labels best (get_or p k d) t.arc).1 t

  to_tight : (v k : ℕ) → IsWalkOf g (is_tight A g labels) sources v k → IsTightWalk A g sources v k
  to_tight v k w = (w.0, w.1, all_tight w.1.0 w.0 v w.1.2 w.2, w.3)

  from_tight : (v k : ℕ) → IsTightWalk A g sources v k → IsWalkOf g (is_tight A g labels) sources v k
  from_tight v k w = (w.0, w.1, all_pass w.0 w.2, w.3)

  hops_are : (v k : ℕ) (l : Option ℕ) → l ≡ Some k → IsLeastAt g (is_tight A g labels) sources v l → AreHops A g sources v k
  hops_are v k None e h = let bad : None ≡ Some k = e in cc
  hops_are v k (Some j) e h =
      let same : j ≡ k = same_some (Some j) j k refl e in
      subst (λ (i : ℕ). AreHops A g sources v i) same (record { attained = to_tight v j h.0; least = λ i w. h.1 i (from_tight v i w) })

  least_hops : (v k : ℕ) (l : Option ℕ) → IsLeastAt g (is_tight A g labels) sources v l → AreHops A g sources v k → l ≡ Some k
  least_hops v k None h a = absurd (h k (from_tight v k a.attained))
  least_hops v k (Some j) h a =
      let low = h.1 k (from_tight v k a.attained) in
      let high = a.least j (to_tight v j h.0) in
      let same : j ≡ k = omega (arith, low, high) in
      ap (λ (i : ℕ). Some i) same

  has_hops : Option ℕ → Bool
  has_hops None = false
  has_hops (Some k) = true

  marks : List Bool
  marks = map has_hops hops

  mark_is : (v : ℕ) → HasVertex g v → get_or marks (v - 1) false ≡ has_hops (label_of hops v)
  unfolding marks
  mark_is v in_v = get_or-map has_hops hops (v - 1) None false (omega (arith, in_v.0, in_v.1, least.count))

  reached_has : (v k : ℕ) (l : Option ℕ) → IsWalkOf g (is_tight A g labels) sources v k → IsLeastAt g (is_tight A g labels) sources v l → has_hops l ≡ true
  unfolding has_hops
  reached_has v k None w h = absurd (h k w)
  reached_has v k (Some j) w h = refl

  has_some : (v : ℕ) (l : Option ℕ) → has_hops l ≡ true → IsLeastAt g (is_tight A g labels) sources v l → (k : ℕ) × (l ≡ Some k) × IsWalkOf g (is_tight A g labels) sources v k
  unfolding has_hops
  has_some v None t h = let bad : false ≡ true = t in cc
  has_some v (Some k) t h = (k, refl, h.0)

  marked : (v k : ℕ) → HasVertex g v → IsWalkOf g (is_tight A g labels) sources v k → get_or marks (v - 1) false ≡ true
  marked v k in_v w = mark_is v in_v ∙ reached_has v k (label_of hops v) w (least.least v in_v)

  -- without hops there is no walk with a value
  none_unreached : (v : ℕ) → HasVertex g v → label_of hops v ≡ None → IsUnreached A g sources v
  unfolding has_hops
  none_unreached v in_v e y w =
      let l = labelled A lawful g roads sources labels best v (label_of labels v) in_v refl y w in
      let m = tight_arcs_reach A lawful g roads sources labels best in_s marks
      (λ s h. marked s 0 (in_s s h) (IsWalkOf-nil g (is_tight A g labels) sources s h))
      (λ a h t tail_marked.
      let ends = roads.ends a h in
      let f = has_some (arc_of g a).tail (label_of hops (arc_of g a).tail) (sym (mark_is (arc_of g a).tail ends.0) ∙ tail_marked) (least.least (arc_of g a).tail ends.0) in
      let p = (tight_is A lawful g roads sources labels best a h).1 t in
      marked (arc_of g a).head (f.0 + 1) ends.1 (IsWalkOf-snoc g (is_tight A g labels) sources (arc_of g a).tail a f.0 f.2 h refl p))
      v l.0 in_v l.1 in
      let bad : true ≡ false = sym m ∙ mark_is v in_v ∙ ap has_hops e in
      cc

  hops_label : (v : ℕ) (l : Option ℕ) → HasVertex g v → label_of hops v ≡ l → AreHopsAt A g sources v l
  hops_label v None in_v e = none_unreached v in_v e
  hops_label v (Some k) in_v e = hops_are v k (label_of hops v) e (least.least v in_v)

  module _ (parents : List (Option ℕ)) (tails : AreLeastTails g (is_tight A g labels) hops parents) where
    -- what an arc of the tree says
    module _ (v : ℕ) (in_v : HasVertex g v) (u : ℕ) (tail : IsLeastTail g (is_tight A g labels) hops v (Some u)) where
      is_parent : IsParent A g sources v u
      is_parent =
          let f = tail.0 in
          let o = by_arc g roads (is_tight A g labels) sources hops least v u tail in
          let hops_u = hops_are u o.0 (label_of hops u) o.1 (least.least u o.3) in
          let hops_v = hops_are v (o.0 + 1) (label_of hops v) o.2 (least.least v in_v) in
          record {
            no_source = λ s. let low = hops_v.least 0 (to_tight v 0 (IsWalkOf-nil g (is_tight A g labels) sources v s)) in omega (arith, low);
            nearer = (f.0, (tight_is A lawful g roads sources labels best f.0 f.1.arc).0 f.1.passes, f.3, f.2, (o.0, hops_u, hops_v));
            least = λ t n.
                let ends = roads.ends n.0 n.1.arc in
                let in_t = subst (λ (w : ℕ). HasVertex g w) n.2 ends.0 in
                let at_t = least_hops t n.4.0 (label_of hops t) (least.least t in_t) n.4.1 in
                let at_v = least_hops v (n.4.0 + 1) (label_of hops v) (least.least v in_v) n.4.2 in
                subst (λ (w : ℕ). u ≤ w) n.2 (tail.1 n.0 (record {
                  arc = n.1.arc;
                  passes = (tight_is A lawful g roads sources labels best n.0 n.1.arc).1 n.1;
                  near = n.4.0;
                  at_tail = ap (label_of hops) n.2 ∙ at_t;
                  at_head = ap (label_of hops) n.3 ∙ at_v;
                }) n.3);
          }

    parent_label : (v : ℕ) → HasVertex g v → (l m : Option ℕ) → label_of hops v ≡ l → label_of parents v ≡ m → IsParentAt A g sources v l m
    parent_label v in_v None None e f = none_unreached v in_v e
    parent_label v in_v None (Some u) e f =
        let o = by_arc g roads (is_tight A g labels) sources hops least v u (tail_at g roads (is_tight A g labels) sources hops least parents tails v (Some u) in_v f) in
        let bad : None ≡ Some (o.0 + 1) = sym e ∙ o.2 in cc
    parent_label v in_v (Some k) None e f = no_arc g roads (is_tight A g labels) sources hops least v k in_v e (tail_at g roads (is_tight A g labels) sources hops least parents tails v None in_v f)
    parent_label v in_v (Some k) (Some u) e f = is_parent v in_v u (tail_at g roads (is_tight A g labels) sources hops least parents tails v (Some u) in_v f)

    pub tree_is : IsTree A g sources (record { hops = hops; parents = parents })
    tree_is = record {
      hops_count = least.count;
      parents_count = tails.count;
      hops = λ v in_v. hops_label v (label_of hops v) in_v refl;
      parents = λ v in_v. parent_label v in_v (label_of hops v) (label_of parents v) refl refl;
    }
