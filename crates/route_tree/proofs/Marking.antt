-- The first level: the sources.
use Rattle.route_tree.proofs.Words.{◌≡◌, ℕ, ◌+◌, ◌-◌, ◌<◌, ◌≤◌, ◌⊎◌, inl, inr, Bool, List, [], ◌∷◌, ◌++◌, length, get_or, set, replicate, take, refl, ap, sym, ◌∙◌, subst, arith, Option, Some, None, get_or-set_same, get_or-set_other, length-set, cases_eq, Contains-append_left, Contains-append_right, Contains-append_cases, Contains, All, GraphData, IsGraph, HasArc, HasVertex, arc_of, not_in_empty, head_or_tail, here, same_some, label_of, IsWalkOf, hops_if, next_if, Visiting, IsMarked}
use Rattle.std.proofs.lemmas.List.{get_or-replicate, length-replicate, take_more}
use Rattle.route_tree.proofs.LevelsAreLeast.{IsWalkOf-nil}

module _ (n : ℕ) (sources : List ℕ) where
  pub marked_start : IsMarked n sources [] (replicate n None) []
  marked_start = record {
    count = length-replicate n None;
    at_done = λ s h. absurd (not_in_empty s h);
    only = λ v j low high e. let none = get_or-replicate n (v - 1) None None (omega (arith, low, high)) in let bad : None ≡ Some j = sym none ∙ e in cc;
    level_at = λ v h. absurd (not_in_empty v h);
  }

  module _ (done : List ℕ) (hops : List (Option ℕ)) (level : List ℕ) (v : ℕ) (low : 1 ≤ v) (high : v ≤ n) (is_source : Contains sources v) (known : IsMarked n sources done hops level) where
    in_done : (s : ℕ) → Contains (done ++ v ∷ []) s → Contains done s ⊎ (v ≡ s)
    in_done s h = elim (Contains-append_cases done (v ∷ []) s h) [
      | inl old ↦ inl old
      | inr new ↦ elim (head_or_tail v s [] new) [ inl same ↦ inr same | inr none ↦ absurd (not_in_empty s none) ]
    ]

    abbrev after : List (Option ℕ)
    after = set hops (v - 1) (Some 0)

    at_v : label_of after v ≡ Some 0
    at_v = let lt : v - 1 < length hops = omega (arith, low, high, known.count) in get_or-set_same hops (v - 1) (Some 0) None lt

    elsewhere : (u : ℕ) → (u - 1 ≡ v - 1 → ⊥) → label_of after u ≡ label_of hops u
    elsewhere u ne = get_or-set_other hops (v - 1) (u - 1) (Some 0) None ne

    kept : label_of hops v ≡ None → (u j : ℕ) → label_of hops u ≡ Some j → label_of after u ≡ Some j
    kept e u j f = elim (cases_eq (u - 1) (v - 1)) [
      | inl same ↦ let bad : None ≡ Some j = sym e ∙ ap (λ (i : ℕ). get_or hops i None) (sym same) ∙ f in cc
      | inr other ↦ elsewhere u other ∙ f
    ]

    pub marked_more : (l : Option ℕ) → label_of hops v ≡ l → IsMarked n sources (done ++ v ∷ []) (hops_if 0 hops v l) (next_if level v l)
    marked_more (Some j) e = record {
      count = known.count;
      at_done = λ s h. elim (in_done s h) [
        | inl old ↦ known.at_done s old
        | inr same ↦ let z = (known.only v j low high e).0 in subst (λ (t : ℕ). label_of hops t ≡ Some 0) same (e ∙ ap (λ (i : ℕ). Some i) z)
      ];
      only = known.only;
      level_at = known.level_at;
    }
    marked_more None e = record {
      count = simp length-set known.count;
      at_done = λ s h. elim (in_done s h) [
        | inl old ↦ kept e s 0 (known.at_done s old)
        | inr same ↦ subst (λ (t : ℕ). label_of after t ≡ Some 0) same at_v
      ];
      only = λ u j u_low u_high f. elim (cases_eq u v) [
        | inl same ↦ (
          same_some (label_of after u) j 0 f (ap (label_of after) same ∙ at_v),
          subst (λ (t : ℕ). Contains sources t) (sym same) is_source,
          Contains-append_right level (v ∷ []) u (subst (λ (t : ℕ). Contains (v ∷ []) t) (sym same) (here v [])),
        )
        | inr other ↦ let old = known.only u j u_low u_high (sym (elsewhere u (λ q. other (omega (arith, low, u_low, q)))) ∙ f) in
            (old.0, old.1, Contains-append_left level (v ∷ []) u old.2)
      ];
      level_at = λ u h. elim (Contains-append_cases level (v ∷ []) u h) [
        | inl old ↦ let f = known.level_at u old in (f.0, f.1, kept e u 0 f.2)
        | inr new ↦ elim (head_or_tail v u [] new) [
          | inl same ↦ subst (λ (t : ℕ). (1 ≤ t) × (t ≤ n) × (label_of after t ≡ Some 0)) same (low, high, at_v)
          | inr none ↦ absurd (not_in_empty u none)
        ]
      ];
    }

  -- the source at place i of the list
  pub marked_once : (i v : ℕ) (hops : List (Option ℕ)) (level : List ℕ) (hops' : List (Option ℕ)) (level' : List ℕ) → i < length sources → v ≡ get_or sources i v → 1 ≤ v → v ≤ n →
      hops' ≡ hops_if 0 hops v (label_of hops v) → level' ≡ next_if level v (label_of hops v) →
      IsMarked n sources (take i sources) hops level → IsMarked n sources (take (i + 1) sources) hops' level'
  marked_once i v hops level hops' level' lt is low high e f known =
      let longer : take (i + 1) sources ≡ take i sources ++ v ∷ [] = take_more sources i v lt ∙ ap (λ (w : ℕ). take i sources ++ w ∷ []) (sym is) in
      rw (longer, e, f) (marked_more (take i sources) hops level v low high (i, lt, sym is) known (label_of hops v) refl)

-- the sources are the first level
pub marked_visits : (g : GraphData) → IsGraph g → (test : ℕ → Bool) (sources : List ℕ) (hops : List (Option ℕ)) (level : List ℕ) → All (HasVertex g) sources →
    IsMarked g.vertices sources sources hops level → Visiting g test sources 0 hops (replicate g.vertices None) level [] []
marked_visits g roads test sources hops level inside known = record {
  count = known.count;
  parents_count = length-replicate g.vertices None;
  attained = λ v j in_v e. let f = known.only v j in_v.0 in_v.1 e in
      subst (λ (i : ℕ). IsWalkOf g test sources v i) (sym f.0) (IsWalkOf-nil g test sources v f.1);
  at_sources = λ s h. (subst (λ (t : ℕ). HasVertex g t) h.2 (inside h.0 s h.1), known.at_done s h);
  few = λ v j in_v e. let z = (known.only v j in_v.0 in_v.1 e).0 in omega (arith, z);
  adopted = λ v u in_v e. let none = get_or-replicate g.vertices (v - 1) None None (omega (arith, in_v.0, in_v.1)) in let bad : None ≡ Some u = sym none ∙ e in absurd (cc);
  pending_at = λ v h. let f = known.level_at v h in ((f.0, f.1), f.2);
  next_at = λ v h. absurd (not_in_empty v h);
  arcs_at = λ a h. absurd (not_in_empty a h);
  closed = λ a j h t e. inr (inl (in_level a j h e));
}
  where
    in_level : (a j : ℕ) → HasArc g a → label_of hops (arc_of g a).tail ≡ Some j → Contains level (arc_of g a).tail
    in_level a j h e = let ends = (roads.ends a h).0 in (known.only (arc_of g a).tail j ends.0 ends.1 e).2
