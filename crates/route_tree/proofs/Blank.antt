-- Lists that are made blank again at the vertices that were found.
use Rattle.route_tree.proofs.Words.{◌≡◌, ℕ, ◌+◌, ◌-◌, ◌<◌, ◌≤◌, ◌⊎◌, inl, inr, Bool, true, false, cond, List, [], ◌∷◌, ◌++◌, length, get_or, set, drop, replicate, refl, ap, sym, ◌∙◌, subst, arith, Option, Some, None, get_or-set_same, get_or-set_other, length-set, cases_eq, Contains, GraphData, IsGraph, HasVertex, arc_of, not_in_empty, head_or_tail, here, later, label_of, is_marked, AreFound, IsBlankBut, AreLeast, AreLeastTails}
use Rattle.std.proofs.lemmas.List.{get_or-replicate, length-replicate, ext_get_or, drop_more, drop_all}
use Rattle.std.proofs.lemmas.List.Elements.{Contains-append_left, Contains-push, Contains-push_cases}
use Rattle.route_tree.proofs.Trees.{no_arc, tail_at}

module _ {X : Type 0} (blank : X) where
  -- one more vertex is made blank
  module _ (found : List ℕ) (i v : ℕ) (lt : i < length found) (is : v ≡ get_or found i v) (list : List X) (known : IsBlankBut blank (drop i found) list) where
    is_next : drop i found ≡ v ∷ drop (i + 1) found
    is_next = drop_more found i v lt ∙ ap (λ (u : ℕ). u ∷ drop (i + 1) found) (sym is)

    pub next_inside : (1 ≤ v) × (v ≤ length list)
    next_inside = known.inside v (rw is_next (here v (drop (i + 1) found)))

    pub blank_next : IsBlankBut blank (drop (i + 1) found) (set list (v - 1) blank)
    blank_next = record {
      inside = λ u h. simp length-set (known.inside u (rw is_next (later v u (drop (i + 1) found) h)));
      others = λ u low high. elim (cases_eq (u - 1) (v - 1)) [
        | inl same ↦ inr (rw same (get_or-set_same list (v - 1) blank blank (omega (arith, next_inside.0, next_inside.1))))
        | inr other ↦ elim (known.others u low (simp length-set at high)) [
          | inl on ↦ elim (head_or_tail v u (drop (i + 1) found) (rw is_next at on)) [
            | inl same ↦ absurd (other (omega (arith, same)))
            | inr waits ↦ inl waits
          ]
          | inr old ↦ inr (get_or-set_other list (v - 1) (u - 1) blank blank other ∙ old)
        ]
      ];
    }

  pub all_blank : (found : List ℕ) (i : ℕ) (list : List X) → length found ≤ i → IsBlankBut blank (drop i found) list → list ≡ replicate (length list) blank
  all_blank found i list le known =
      let past : drop i found ≡ [] = drop_all i found le in
      let last : IsBlankBut blank [] list = rw past at known in
      ext_get_or blank list (replicate (length list) blank) (sym (length-replicate (length list) blank)) (λ k lt.
      let e : (k + 1) - 1 ≡ k = omega arith in
      elim (last.others (k + 1) (omega arith) (omega (arith, lt))) [
        | inl on ↦ absurd (not_in_empty (k + 1) on)
        | inr is ↦ rw e at is ∙ sym (get_or-replicate (length list) k blank blank lt)
      ])

-- the first vertex that is found
pub found_first : (g : GraphData) (target : ℕ) (marks : List Bool) → HasVertex g target → marks ≡ set (replicate g.vertices false) (target - 1) true → AreFound g marks (target ∷ [])
found_first g target marks in_t e = record {
  inside = λ v h. elim (head_or_tail target v [] h) [ inl same ↦ subst (HasVertex g) same in_t | inr none ↦ absurd (not_in_empty v none) ];
  marked = λ v in_v. elim (cases_eq v target) [
    | inl same ↦ inl (subst (λ (u : ℕ). Contains (target ∷ []) u) (sym same) (here target []))
    | inr other ↦ inr (ap (λ (m : List Bool). is_marked m v) e
        ∙ get_or-set_other (replicate g.vertices false) (target - 1) (v - 1) true false (λ q. other (omega (arith, in_v.0, in_t.0, q)))
        ∙ get_or-replicate g.vertices (v - 1) false false (omega (arith, in_v.0, in_v.1)))
  ];
}

-- one more
pub found_more : (g : GraphData) (marks : List Bool) (found : List ℕ) (v : ℕ) → HasVertex g v → AreFound g marks found → AreFound g marks (found ++ v ∷ [])
found_more g marks found v in_v known = record {
  inside = λ u h. elim (Contains-push_cases found v u h) [ inl old ↦ known.inside u old | inr new ↦ subst (HasVertex g) new in_v ];
  marked = λ u in_u. elim (known.marked u in_u) [ inl on ↦ inl (Contains-append_left found (v ∷ []) u on) | inr none ↦ inr none ];
}

-- and it gets a mark
pub found_marked : (g : GraphData) (marks : List Bool) (found : List ℕ) (v : ℕ) → HasVertex g v → AreFound g marks found → AreFound g (set marks (v - 1) true) (found ++ v ∷ [])
found_marked g marks found v in_v known =
    let more = found_more g marks found v in_v known in
    record {
      inside = more.inside;
      marked = λ u in_u. elim (cases_eq u v) [
        | inl same ↦ inl (subst (λ (w : ℕ). Contains (found ++ v ∷ []) w) (sym same) (Contains-push found v))
        | inr other ↦ elim (more.marked u in_u) [
          | inl on ↦ inl on
          | inr none ↦ inr (get_or-set_other marks (v - 1) (u - 1) true false (λ q. other (omega (arith, in_u.0, in_v.0, q))) ∙ none)
        ]
      ];
    }

-- a tree that is held to the marked vertices has hops and parents only at these and at the source
module _ (g : GraphData) (roads : IsGraph g) (test : ℕ → Bool) (source : ℕ) (marks : List Bool) (found : List ℕ) (known : AreFound g marks found) (count : length marks ≡ g.vertices)
    (has_source : Contains found source) where
  pub marks_blank : IsBlankBut false found marks
  marks_blank = record {
    inside = λ v h. let at = known.inside v h in (at.0, omega (arith, at.1, count));
    others = λ v low high. known.marked v (low, omega (arith, high, count));
  }

  abbrev into : ℕ → Bool
  into a = cond (is_marked marks (arc_of g a).head) (test a) false

  of_both : (b c : Bool) → cond b c false ≡ true → b ≡ true
  of_both true c e = refl
  of_both false c e = let bad : false ≡ true = e in cc

  module _ (hops parents : List (Option ℕ)) (least : AreLeast g into (source ∷ []) hops) (tails : AreLeastTails g into hops parents) where
    -- a vertex that a tree arc enters is marked
    entered : (v u : ℕ) → HasVertex g v → label_of parents v ≡ Some u → Contains found v
    entered v u in_v e =
        let f = (tail_at g roads into (source ∷ []) hops least parents tails v (Some u) in_v e).0 in
        let m : is_marked marks v ≡ true = ap (is_marked marks) (sym f.2) ∙ of_both (is_marked marks (arc_of g f.0).head) (test f.0) f.1.passes in
        elim (known.marked v in_v) [ inl on ↦ on | inr none ↦ let bad : true ≡ false = sym m ∙ none in cc ]

    hops_by : (v : ℕ) → HasVertex g v → (l m : Option ℕ) → label_of hops v ≡ l → label_of parents v ≡ m → Contains found v ⊎ (label_of hops v ≡ None)
    hops_by v in_v None m e f = inr e
    hops_by v in_v (Some k) (Some u) e f = inl (entered v u in_v f)
    hops_by v in_v (Some k) None e f =
        let at = no_arc g roads into (source ∷ []) hops least v k in_v e (tail_at g roads into (source ∷ []) hops least parents tails v None in_v f) in
        elim (head_or_tail source v [] at) [ inl same ↦ inl (subst (λ (u : ℕ). Contains found u) same has_source) | inr none ↦ absurd (not_in_empty v none) ]

    pub hops_blank : IsBlankBut None found hops
    hops_blank = record {
      inside = λ v h. let at = known.inside v h in (at.0, omega (arith, at.1, least.count));
      others = λ v low high. hops_by v (low, omega (arith, high, least.count)) (label_of hops v) (label_of parents v) refl refl;
    }

    parent_by : (v : ℕ) → HasVertex g v → (m : Option ℕ) → label_of parents v ≡ m → Contains found v ⊎ (label_of parents v ≡ None)
    parent_by v in_v None f = inr f
    parent_by v in_v (Some u) f = inl (entered v u in_v f)

    pub parents_blank : IsBlankBut None found parents
    parents_blank = record {
      inside = λ v h. let at = known.inside v h in (at.0, omega (arith, at.1, tails.count));
      others = λ v low high. parent_by v (low, omega (arith, high, tails.count)) (label_of parents v) refl;
    }

-- a region has one list of marks
pub same_region : {marks other : List Bool} → Some marks ≡ Some other → marks ≡ other
same_region {marks} {other} e = cc
