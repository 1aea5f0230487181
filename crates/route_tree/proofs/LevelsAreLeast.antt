-- When no level is left, hops are least and parents are least.
use Rattle.route_tree.proofs.Words.{◌≡◌, ℕ, ◌+◌, ◌≤◌, inl, inr, Bool, true, eqb, eqb-true, List, [], ◌∷◌, ◌++◌, length, refl, ap, sym, ◌∙◌, arith, Option, Some, None, length-append, nil_from_length, IsTrue, Contains, All, GraphData, HasArc, HasVertex, arc_of, not_in_empty, same_some, IsWalk, label_of, IsWalkOf, IsLeastAt, AreLeast, IsTreeArc, IsLeastTail, AreLeastTails, IsPassed, Visiting}
use Rattle.std.proofs.lemmas.List.Elements.{All-nil, All-cons, All-head, All-tail, All-append}
use Rattle.path_algebra.proofs.Walks.{IsWalk-snoc}

module _ (g : GraphData) (test : ℕ → Bool) (sources : List ℕ) where
  -- a walk goes on by an arc that passes
  pub IsWalkOf-snoc : (u a k : ℕ) → IsWalkOf g test sources u k → HasArc g a → (arc_of g a).tail ≡ u → test a ≡ true → IsWalkOf g test sources (arc_of g a).head (k + 1)
  IsWalkOf-snoc u a k w h e t =
      let n = length-append w.0 (a ∷ []) in
      let l = w.3 in (
        w.0 ++ a ∷ [],
        (w.1.0, w.1.1, IsWalk-snoc g w.1.0 w.0 u a w.1.2 h e),
        All-append (λ b. IsTrue (test b)) w.0 (a ∷ []) w.2 (All-cons (λ b. IsTrue (test b)) a [] t (All-nil (λ b. IsTrue (test b)))),
        omega (arith, n, l),
      )

  -- the empty walk at a source
  pub IsWalkOf-nil : (s : ℕ) → Contains sources s → IsWalkOf g test sources s 0
  IsWalkOf-nil s h = ([], (s, h, refl), All-nil (λ a. IsTrue (test a)), refl)

  module _ (k : ℕ) (hops parents : List (Option ℕ)) (known : Visiting g test sources k hops parents [] [] []) where
    passed : (a j : ℕ) → HasArc g a → test a ≡ true → label_of hops (arc_of g a).tail ≡ Some j → IsPassed g hops parents a (j + 1)
    passed a j h t e = elim (known.closed a j h t e) [
      | inl none ↦ absurd (not_in_empty a none)
      | inr r ↦ elim r [ inl none ↦ absurd (not_in_empty _ none) | inr s ↦ elim s [ inl none ↦ absurd (not_in_empty _ none) | inr done ↦ done ] ]
    ]

    bounded_along : (u : ℕ) (p : List ℕ) (v j : ℕ) → IsWalk g u p v → All (λ a. IsTrue (test a)) p → label_of hops u ≡ Some j →
        (i : ℕ) × (label_of hops v ≡ Some i) × (i ≤ j + length p)
    bounded_along u [] v j w all e = (j, ap (label_of hops) (sym w) ∙ e, omega arith)
    bounded_along u (a ∷ p) v j w all e =
        let next = passed a j w.0 (All-head (λ b. IsTrue (test b)) a p all) (ap (label_of hops) w.1 ∙ e) in
        let r = bounded_along (arc_of g a).head p v next.far w.2 (All-tail (λ b. IsTrue (test b)) a p all) next.at_head in
        let below = next.few in
        let bound = r.2 in
        (r.0, r.1, omega (arith, below, bound))

    bound : (v j : ℕ) → IsWalkOf g test sources v j → (i : ℕ) × (label_of hops v ≡ Some i) × (i ≤ j)
    bound v j w =
        let r = bounded_along w.1.0 w.0 v 0 w.1.2 w.2 (known.at_sources w.1.0 w.1.1).1 in
        let l = w.3 in let b = r.2 in
        (r.0, r.1, omega (arith, l, b))

    least_at : (v : ℕ) → HasVertex g v → (l : Option ℕ) → label_of hops v ≡ l → IsLeastAt g test sources v l
    least_at v in_v None e = λ j w. let r = bound v j w in let bad : None ≡ Some r.0 = sym e ∙ r.1 in cc
    least_at v in_v (Some i) e = (
      known.attained v i in_v e,
      λ j w.
          let r = bound v j w in
          let same : r.0 ≡ i = same_some (label_of hops v) r.0 i r.1 e in
          let b = r.2 in
          omega (arith, same, b),
    )

    pub hops_are_least : AreLeast g test sources hops
    hops_are_least = record { count = known.count; least = λ v in_v. least_at v in_v (label_of hops v) refl }

    -- the head of an arc of the tree has a parent that is no greater than the arc's tail
    adopted_by : (a : ℕ) → IsTreeArc g test hops a → (u : ℕ) × (label_of parents (arc_of g a).head ≡ Some u) × (u ≤ (arc_of g a).tail)
    adopted_by a l =
        let p = passed a l.near l.arc l.passes l.at_tail in
        p.parent (same_some (label_of hops (arc_of g a).head) p.far (l.near + 1) p.at_head l.at_head)

    least_tail_at : (v : ℕ) → HasVertex g v → (l : Option ℕ) → label_of parents v ≡ l → IsLeastTail g test hops v l
    least_tail_at v in_v None e = λ a l h.
        let p = adopted_by a l in
        let bad : None ≡ Some p.0 = sym e ∙ ap (label_of parents) (sym h) ∙ p.1 in cc
    least_tail_at v in_v (Some u) e = (
      known.adopted v u in_v e,
      λ a l h.
          let p = adopted_by a l in
          let same : p.0 ≡ u = same_some (label_of parents v) p.0 u (ap (label_of parents) (sym h) ∙ p.1) e in
          let b = p.2 in
          omega (arith, same, b),
    )

    pub parents_are_least : AreLeastTails g test hops parents
    parents_are_least = record { count = known.parents_count; tails = λ v in_v. least_tail_at v in_v (label_of parents v) refl }

  -- a search that has no vertex left to visit is over
  pub search_ends : (k : ℕ) (hops parents : List (Option ℕ)) (next : List ℕ) → eqb (length next) 0 ≡ true → Visiting g test sources k hops parents next [] [] →
      AreLeast g test sources hops × AreLeastTails g test hops parents
  search_ends k hops parents next empty known =
      let last : Visiting g test sources k hops parents [] [] [] = rw (nil_from_length next (eqb-true (length next) 0 empty)) at known in
      (hops_are_least k hops parents last, parents_are_least k hops parents last)
