-- One arc of a vertex that is visited.
use Rattle.std.proofs.Common.{◌≡◌, ℕ, ◌+◌, ◌-◌, ◌<◌, ◌≤◌, ◌⊎◌, inl, inr, Bool, true, false, cond, eqb, leb, eqb-true, eq-eqb, leb-true, le-leb, List, [], ◌∷◌, ◌++◌, length, set, refl, ap, sym, ◌∙◌, subst, arith, Option, Some, None, get_or-set_same, get_or-set_other, length-set}
use Rattle.route_tree.proofs.Words.{cases_eq, Contains-append_left, Contains-append_right, Contains-append_cases, Contains, GraphData, IsGraph, HasArc, HasVertex, arc_of, not_in_empty, head_or_tail, here, later, same_some, label_of}
use Rattle.route_tree.specs.Levels.{IsWalkOf, IsTreeArc, lesser, hops_if, parents_if, next_if, IsPassed, Visiting}
use Rattle.route_tree.proofs.LevelsAreLeast.{IsWalkOf-snoc}

-- what the lesser of two parents is
pub lesser_is : (l : Option ℕ) (t : ℕ) → (u : ℕ) × (lesser l t ≡ Some u) × (u ≤ t) × ((l ≡ Some u) ⊎ (t ≡ u)) × ((o : ℕ) → l ≡ Some o → u ≤ o)
lesser_is None t = (t, refl, omega arith, inr refl, λ o e. let bad : None ≡ Some o = e in cc)
lesser_is (Some s) t = elim (leb s t) as (λ b. leb s t ≡ b → (u : ℕ) × (Some (cond b s t) ≡ Some u) × (u ≤ t) × ((Some s ≡ Some u) ⊎ (t ≡ u)) × ((o : ℕ) → Some s ≡ Some o → u ≤ o)) [
  | true ↦ (λ e. (s, refl, leb-true s t e, inl refl, λ o f. let same : s ≡ o = cc in omega (arith, same)))
  | false ↦ (λ e. (t, refl, omega arith, inr refl, λ o f. let same : s ≡ o = cc in let below = greater s t e in omega (arith, same, below)))
] refl
  where
    greater : (s t : ℕ) → leb s t ≡ false → t ≤ s
    greater s t e = elim (either s t) [ inl h ↦ h | inr h ↦ let bad : true ≡ false = sym (le-leb s t h) ∙ e in cc ]
      where
        either : (x y : ℕ) → (y ≤ x) ⊎ (x ≤ y)
        either x y = grind arith

module _ (g : GraphData) (roads : IsGraph g) (test : ℕ → Bool) (sources : List ℕ) (k : ℕ) (hops parents : List (Option ℕ))
    (pending next rest : List ℕ) (a : ℕ) (known : Visiting g test sources k hops parents pending (a ∷ rest) next) where
  this : HasArc g a × (label_of hops (arc_of g a).tail ≡ Some k)
  this = known.arcs_at a (here a rest)

  tail_in : HasVertex g (arc_of g a).tail
  tail_in = (roads.ends a this.0).0

  head_in : HasVertex g (arc_of g a).head
  head_in = (roads.ends a this.0).1

  -- an arc that does not pass, or whose head is settled, is dropped
  pub visit_drop : (test a ≡ true → IsPassed g hops parents a (k + 1)) → Visiting g test sources k hops parents pending rest next
  visit_drop passed = record {
    count = known.count;
    parents_count = known.parents_count;
    attained = known.attained;
    at_sources = known.at_sources;
    few = known.few;
    adopted = known.adopted;
    pending_at = known.pending_at;
    next_at = known.next_at;
    arcs_at = λ b h. known.arcs_at b (later a b rest h);
    closed = λ b j h t e. elim (known.closed b j h t e) [
      | inl waits ↦ elim (head_or_tail a b rest waits) [
        | inl same ↦
            let t_a : test a ≡ true = ap test same ∙ t in
            let e_a : label_of hops (arc_of g a).tail ≡ Some j = ap (λ (c : ℕ). label_of hops (arc_of g c).tail) same ∙ e in
            let level : k ≡ j = same_some (label_of hops (arc_of g a).tail) k j this.1 e_a in
            inr (inr (inr (subst (λ (c : ℕ). IsPassed g hops parents c (j + 1)) same (subst (λ (i : ℕ). IsPassed g hops parents a (i + 1)) level (passed t_a)))))
        | inr q ↦ inl q
      ]
      | inr r ↦ inr r
    ];
  }

  -- the head had no hops
  module _ (t : test a ≡ true) (none : label_of hops (arc_of g a).head ≡ None) where
    abbrev after : List (Option ℕ)
    after = set hops ((arc_of g a).head - 1) (Some (k + 1))

    abbrev adopting : List (Option ℕ)
    adopting = set parents ((arc_of g a).head - 1) (Some (arc_of g a).tail)

    at_head : label_of after (arc_of g a).head ≡ Some (k + 1)
    at_head =
        let lt : (arc_of g a).head - 1 < length hops = omega (arith, head_in.0, head_in.1, known.count) in
        get_or-set_same hops ((arc_of g a).head - 1) (Some (k + 1)) None lt

    parent_at_head : label_of adopting (arc_of g a).head ≡ Some (arc_of g a).tail
    parent_at_head =
        let lt : (arc_of g a).head - 1 < length parents = omega (arith, head_in.0, head_in.1, known.parents_count) in
        get_or-set_same parents ((arc_of g a).head - 1) (Some (arc_of g a).tail) None lt

    elsewhere : (xs : List (Option ℕ)) (x : Option ℕ) (v : ℕ) → HasVertex g v → (v ≡ (arc_of g a).head → ⊥) → label_of (set xs ((arc_of g a).head - 1) x) v ≡ label_of xs v
    elsewhere xs x v in_v ne =
        let other : v - 1 ≡ (arc_of g a).head - 1 → ⊥ = λ e. ne (omega (arith, in_v.0, head_in.0)) in
        get_or-set_other xs ((arc_of g a).head - 1) (v - 1) x None other

    kept : (v j : ℕ) → HasVertex g v → label_of hops v ≡ Some j → label_of after v ≡ Some j
    kept v j in_v e = elim (cases_eq v (arc_of g a).head) [
      | inl same ↦ let bad : None ≡ Some j = sym none ∙ ap (label_of hops) (sym same) ∙ e in cc
      | inr other ↦ elsewhere hops (Some (k + 1)) v in_v other ∙ e
    ]

    old_or_new : (v j : ℕ) → HasVertex g v → label_of after v ≡ Some j → (label_of hops v ≡ Some j) ⊎ ((v ≡ (arc_of g a).head) × (k + 1 ≡ j))
    old_or_new v j in_v e = elim (cases_eq v (arc_of g a).head) [
      | inl same ↦ inr (same, same_some (label_of after v) (k + 1) j (ap (label_of after) same ∙ at_head) e)
      | inr other ↦ inl (sym (elsewhere hops (Some (k + 1)) v in_v other) ∙ e)
    ]

    kept_tree_arc : (b : ℕ) → IsTreeArc g test hops b → IsTreeArc g test after b
    kept_tree_arc b l = record {
      arc = l.arc;
      passes = l.passes;
      near = l.near;
      at_tail = kept (arc_of g b).tail l.near ((roads.ends b l.arc).0) l.at_tail;
      at_head = kept (arc_of g b).head (l.near + 1) ((roads.ends b l.arc).1) l.at_head;
    }

    kept_passed : (b j : ℕ) → HasArc g b → IsPassed g hops parents b j → IsPassed g after adopting b j
    kept_passed b j h p = record {
      far = p.far;
      at_head = kept (arc_of g b).head p.far ((roads.ends b h).1) p.at_head;
      few = p.few;
      parent = λ e. let f = p.parent e in (f.0, elsewhere parents (Some (arc_of g a).tail) (arc_of g b).head ((roads.ends b h).1) other ∙ f.1, f.2);
    }
      where
        other : (arc_of g b).head ≡ (arc_of g a).head → ⊥
        other same = let bad : None ≡ Some p.far = sym none ∙ ap (label_of hops) (sym same) ∙ p.at_head in cc

    this_passed : IsPassed g after adopting a (k + 1)
    this_passed = record {
      far = k + 1;
      at_head = at_head;
      few = omega arith;
      parent = λ _. ((arc_of g a).tail, parent_at_head, omega arith);
    }

    adopted_after : (v u : ℕ) → HasVertex g v → label_of adopting v ≡ Some u → (b : ℕ) × IsTreeArc g test after b × ((arc_of g b).head ≡ v) × ((arc_of g b).tail ≡ u)
    adopted_after v u in_v e = elim (cases_eq v (arc_of g a).head) [
      | inl same ↦
          let is : (arc_of g a).tail ≡ u = same_some (label_of adopting v) (arc_of g a).tail u (ap (label_of adopting) same ∙ parent_at_head) e in
          (a, record { arc = this.0; passes = t; near = k; at_tail = kept (arc_of g a).tail k tail_in this.1; at_head = at_head }, sym same, is)
      | inr other ↦
          let f = known.adopted v u in_v (sym (elsewhere parents (Some (arc_of g a).tail) v in_v other) ∙ e) in
          (f.0, kept_tree_arc f.0 f.1, f.2, f.3)
    ]

    closed_after : (b j : ℕ) → HasArc g b → test b ≡ true → label_of after (arc_of g b).tail ≡ Some j →
        Contains rest b ⊎ (Contains pending (arc_of g b).tail ⊎ (Contains (next ++ (arc_of g a).head ∷ []) (arc_of g b).tail ⊎ IsPassed g after adopting b (j + 1)))
    closed_after b j h tb e = elim (old_or_new (arc_of g b).tail j ((roads.ends b h).0) e) [
      | inl old ↦ elim (known.closed b j h tb old) [
        | inl waits ↦ elim (head_or_tail a b rest waits) [
          | inl same ↦
              let old_a : label_of hops (arc_of g a).tail ≡ Some j = ap (λ (c : ℕ). label_of hops (arc_of g c).tail) same ∙ old in
              let level : k ≡ j = same_some (label_of hops (arc_of g a).tail) k j this.1 old_a in
              inr (inr (inr (subst (λ (c : ℕ). IsPassed g after adopting c (j + 1)) same (subst (λ (i : ℕ). IsPassed g after adopting a (i + 1)) level this_passed))))
          | inr q ↦ inl q
        ]
        | inr r ↦ elim r [
          | inl p ↦ inr (inl p)
          | inr s ↦ elim s [
            | inl n ↦ inr (inr (inl (Contains-append_left next ((arc_of g a).head ∷ []) (arc_of g b).tail n)))
            | inr done ↦ inr (inr (inr (kept_passed b (j + 1) h done)))
          ]
        ]
      ]
      | inr new ↦ inr (inr (inl (Contains-append_right next ((arc_of g a).head ∷ []) (arc_of g b).tail
          (subst (λ (u : ℕ). Contains ((arc_of g a).head ∷ []) u) (sym new.0) (here (arc_of g a).head [])))))
    ]

    pub visit_new : Visiting g test sources k after adopting pending rest (next ++ (arc_of g a).head ∷ [])
    visit_new = record {
      count = simp length-set known.count;
      parents_count = simp length-set known.parents_count;
      attained = λ v j in_v e. elim (old_or_new v j in_v e) [
        | inl old ↦ known.attained v j in_v old
        | inr new ↦
            let w = IsWalkOf-snoc g test sources (arc_of g a).tail a k (known.attained (arc_of g a).tail k tail_in this.1) this.0 refl t in
            subst (λ (u : ℕ). IsWalkOf g test sources u j) (sym new.0) (subst (λ (i : ℕ). IsWalkOf g test sources (arc_of g a).head i) new.1 w)
      ];
      at_sources = λ s h. let f = known.at_sources s h in (f.0, kept s 0 f.0 f.1);
      few = λ v j in_v e. elim (old_or_new v j in_v e) [ inl old ↦ known.few v j in_v old | inr new ↦ omega (arith, new.1) ];
      adopted = adopted_after;
      pending_at = λ v h. let f = known.pending_at v h in (f.0, kept v k f.0 f.1);
      next_at = λ v h. elim (Contains-append_cases next ((arc_of g a).head ∷ []) v h) [
        | inl old ↦ let f = known.next_at v old in (f.0, kept v (k + 1) f.0 f.1)
        | inr new ↦ elim (head_or_tail (arc_of g a).head v [] new) [
          | inl same ↦ subst (λ (u : ℕ). HasVertex g u × (label_of after u ≡ Some (k + 1))) same (head_in, at_head)
          | inr none ↦ absurd (not_in_empty v none)
        ]
      ];
      arcs_at = λ b h. let f = known.arcs_at b (later a b rest h) in (f.0, kept (arc_of g b).tail k ((roads.ends b f.0).0) f.1);
      closed = closed_after;
    }

  -- the head was reached in this level
  module _ (t : test a ≡ true) (far : label_of hops (arc_of g a).head ≡ Some (k + 1)) where
    abbrev best : List (Option ℕ)
    best = set parents ((arc_of g a).head - 1) (lesser (label_of parents (arc_of g a).head) (arc_of g a).tail)

    best_at_head : label_of best (arc_of g a).head ≡ lesser (label_of parents (arc_of g a).head) (arc_of g a).tail
    best_at_head =
        let lt : (arc_of g a).head - 1 < length parents = omega (arith, head_in.0, head_in.1, known.parents_count) in
        get_or-set_same parents ((arc_of g a).head - 1) (lesser (label_of parents (arc_of g a).head) (arc_of g a).tail) None lt

    best_elsewhere : (v : ℕ) → HasVertex g v → (v ≡ (arc_of g a).head → ⊥) → label_of best v ≡ label_of parents v
    best_elsewhere v in_v ne =
        let other : v - 1 ≡ (arc_of g a).head - 1 → ⊥ = λ e. ne (omega (arith, in_v.0, head_in.0)) in
        get_or-set_other parents ((arc_of g a).head - 1) (v - 1) (lesser (label_of parents (arc_of g a).head) (arc_of g a).tail) None other

    -- no parent becomes greater
    lower : (v o : ℕ) → HasVertex g v → label_of parents v ≡ Some o → (u : ℕ) × (label_of best v ≡ Some u) × (u ≤ o)
    lower v o in_v e = elim (cases_eq v (arc_of g a).head) [
      | inl same ↦
          let m = lesser_is (label_of parents (arc_of g a).head) (arc_of g a).tail in
          (m.0, ap (label_of best) same ∙ best_at_head ∙ m.1, m.4 o (ap (label_of parents) (sym same) ∙ e))
      | inr other ↦ (o, best_elsewhere v in_v other ∙ e, omega arith)
    ]

    better_passed : (b j : ℕ) → HasArc g b → IsPassed g hops parents b j → IsPassed g hops best b j
    better_passed b j h p = record {
      far = p.far;
      at_head = p.at_head;
      few = p.few;
      parent = λ e.
          let f = p.parent e in
          let m = lower (arc_of g b).head f.0 ((roads.ends b h).1) f.1 in
          let x = f.2 in let y = m.2 in
          (m.0, m.1, omega (arith, x, y));
    }

    this_better : IsPassed g hops best a (k + 1)
    this_better =
        let m = lesser_is (label_of parents (arc_of g a).head) (arc_of g a).tail in
        record { far = k + 1; at_head = far; few = omega arith; parent = λ _. (m.0, best_at_head ∙ m.1, m.2) }

    adopted_better : (v u : ℕ) → HasVertex g v → label_of best v ≡ Some u → (b : ℕ) × IsTreeArc g test hops b × ((arc_of g b).head ≡ v) × ((arc_of g b).tail ≡ u)
    adopted_better v u in_v e = elim (cases_eq v (arc_of g a).head) [
      | inl same ↦
          let m = lesser_is (label_of parents (arc_of g a).head) (arc_of g a).tail in
          let is : m.0 ≡ u = same_some (label_of best v) m.0 u (ap (label_of best) same ∙ best_at_head ∙ m.1) e in
          elim m.3 [
            | inl old ↦ known.adopted v u in_v (ap (label_of parents) same ∙ old ∙ ap (λ (x : ℕ). Some x) is)
            | inr new ↦ (a, record { arc = this.0; passes = t; near = k; at_tail = this.1; at_head = far }, sym same, new ∙ is)
          ]
      | inr other ↦ known.adopted v u in_v (sym (best_elsewhere v in_v other) ∙ e)
    ]

    pub visit_better : Visiting g test sources k hops best pending rest next
    visit_better = record {
      count = known.count;
      parents_count = simp length-set known.parents_count;
      attained = known.attained;
      at_sources = known.at_sources;
      few = known.few;
      adopted = adopted_better;
      pending_at = known.pending_at;
      next_at = known.next_at;
      arcs_at = λ b h. known.arcs_at b (later a b rest h);
      closed = λ b j h tb e. elim (known.closed b j h tb e) [
        | inl waits ↦ elim (head_or_tail a b rest waits) [
          | inl same ↦
              let e_a : label_of hops (arc_of g a).tail ≡ Some j = ap (λ (c : ℕ). label_of hops (arc_of g c).tail) same ∙ e in
              let level : k ≡ j = same_some (label_of hops (arc_of g a).tail) k j this.1 e_a in
              inr (inr (inr (subst (λ (c : ℕ). IsPassed g hops best c (j + 1)) same (subst (λ (i : ℕ). IsPassed g hops best a (i + 1)) level this_better))))
          | inr q ↦ inl q
        ]
        | inr r ↦ elim r [
          | inl p ↦ inr (inl p)
          | inr s ↦ elim s [
            | inl n ↦ inr (inr (inl n))
            | inr done ↦ inr (inr (inr (better_passed b (j + 1) h done)))
          ]
        ]
      ];
    }

  -- the head had fewer hops
  settled : (i : ℕ) → label_of hops (arc_of g a).head ≡ Some i → (i ≡ k + 1 → ⊥) → IsPassed g hops parents a (k + 1)
  settled i e other = record {
    far = i;
    at_head = e;
    few = known.few (arc_of g a).head i head_in e;
    parent = λ same. absurd (other same);
  }

  reached_before : (i : ℕ) → label_of hops (arc_of g a).head ≡ Some i → test a ≡ true → (b : Bool) → eqb i (k + 1) ≡ b →
      Visiting g test sources k hops (cond b (set parents ((arc_of g a).head - 1) (lesser (label_of parents (arc_of g a).head) (arc_of g a).tail)) parents) pending rest next
  reached_before i e t true q = visit_better t (e ∙ ap (λ (x : ℕ). Some x) (eqb-true i (k + 1) q))
  reached_before i e t false q = visit_drop (λ _. settled i e (λ same. let bad : true ≡ false = sym (eq-eqb i (k + 1) same) ∙ q in cc))

  pub visit_arc : (b : Bool) → test a ≡ b → (l : Option ℕ) → label_of hops (arc_of g a).head ≡ l →
      Visiting g test sources k (cond b (hops_if (k + 1) hops (arc_of g a).head l) hops) (cond b (parents_if (k + 1) parents (arc_of g a).head (arc_of g a).tail l) parents)
      pending rest (cond b (next_if next (arc_of g a).head l) next)
  visit_arc false t l e = visit_drop (λ t'. let bad : true ≡ false = sym t' ∙ t in cc)
  visit_arc true t None e = visit_new t e
  visit_arc true t (Some i) e = reached_before i e t (eqb i (k + 1)) refl
