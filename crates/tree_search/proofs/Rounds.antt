-- The search with hops and parents: its start, the choice of a vertex, and one round after the
-- other.
use Rattle.tree_search.proofs.Words.{◌≡◌, ℕ, ◌+◌, ◌-◌, ◌<◌, ◌≤◌, ◌⊎◌, inl, inr, Bool, true, false, List, [], length, get_or, set, replicate, ap, sym, ◌∙◌, subst, arith, Option, Some, None, get_or-set_same, get_or-set_other, length-map, cases_eq, IsTrue, All, option_map, not_in_empty, same_some, Algebra, IsLawful, label_of, IsBestOpen, key_of, values_in, keys_in, by_number, told, AreOpening, Relaxes, Mark}
use Rattle.road_graph.specs.GraphData.{GraphData, IsGraph, HasVertex, arc_of, ListsArcsFrom}
use Rattle.path_plain.proofs.Known.{IsSettled, none_settled, search_start, search_pick, picked, not_picked}
use Rattle.tree_search.proofs.Reading.{read, found}
use Rattle.tree_search.proofs.Hopping.{Hopping, again, hopping_relaxed, stays_relaxed}

module _ {V : Type 0} (A : Algebra V) (lawful : IsLawful A) (g : GraphData) (roads : IsGraph g) (sources : List ℕ) where
  pub hopping_start : (marks : List (Option (Mark V))) → AreOpening A.origin g.vertices sources marks → Hopping A g sources marks (replicate g.vertices false) A.origin 0 []
  hopping_start marks opening = record {
    known = search_start A lawful g roads sources (values_in marks) opening.labels;
    below = λ v m in_v t e. absurd (none_settled A lawful g roads sources v in_v t);
    above = λ v m in_v o e back. omega arith;
    at_sources = λ s c.
        let f = found (λ (m : Mark V). m.value) marks s A.origin (opening.labels.at_sources s c) in
        (f.0, f.1, ap (λ (m : Mark V). m.hops) (opening.only s f.0 f.1));
    given = λ v m in_v e.
        let is = opening.only v m e in
        inl (ap (λ (q : Mark V). q.hops) is, ap (λ (q : Mark V). q.parent) is, (opening.labels.only_there v m.value in_v.0 in_v.1 (read (λ (q : Mark V). q.value) marks v m e)).0);
    passed = λ a has t. absurd (none_settled A lawful g roads sources (arc_of g a).tail ((roads.ends a has).0) t);
    current = λ a w. absurd (not_in_empty a w);
  }

module _ {V : Type 0} (A : Algebra V) (lawful : IsLawful A) (g : GraphData) (roads : IsGraph g) (sources : List ℕ) (marks : List (Option (Mark V))) (settled : List Bool)
    (x y : V) (h k i : ℕ) (out : List ℕ)
    (hopping : Hopping A g sources marks settled x h []) (best : IsBestOpen (by_number A.no_worse) (keys_in marks) settled g.vertices i (y, k)) (lists : ListsArcsFrom g (i + 1) out) where
  place_is : (i + 1) - 1 ≡ i
  place_is = omega arith

  top : (m : Mark V) × (label_of marks (i + 1) ≡ Some m) × (key_of m ≡ (y, k))
  top = found key_of marks (i + 1) (y, k) (ap (λ (j : ℕ). get_or (keys_in marks) j None) place_is ∙ best.label)

  top_value : top.0.value ≡ y
  top_value = ap (λ (p : V × ℕ). p.0) top.2

  top_hops : top.0.hops ≡ k
  top_hops = ap (λ (p : V × ℕ). p.1) top.2

  top_in : HasVertex g (i + 1)
  top_in = (omega arith, (omega (arith, best.below)))

  top_open : get_or settled ((i + 1) - 1) false ≡ false
  top_open = ap (λ (j : ℕ). get_or settled j false) place_is ∙ best.is_open

  -- no open key is better
  least_key : (v : ℕ) (m : Mark V) → HasVertex g v → get_or settled (v - 1) false ≡ false → label_of marks v ≡ Some m → IsTrue (by_number A.no_worse (y, k) (key_of m))
  least_key v m in_v o e =
      best.least (v - 1) (omega (arith, in_v.0, in_v.1)) (key_of m) o (read key_of marks v m e)

  best_value : IsBestOpen A.no_worse (values_in marks) settled g.vertices i y
  best_value = record {
    below = best.below;
    is_open = best.is_open;
    label = ap (λ (j : ℕ). get_or (values_in marks) j None) (sym place_is) ∙ read (λ (q : Mark V). q.value) marks (i + 1) top.0 top.1 ∙ ap (λ (z : V). Some z) top_value;
    least = λ j lt z o e.
        let back : (j + 1) - 1 ≡ j = omega arith in
        let f = found (λ (q : Mark V). q.value) marks (j + 1) z (ap (λ (n : ℕ). get_or (values_in marks) n None) back ∙ e) in
        let l = least_key (j + 1) f.0 (omega arith, omega (arith, lt)) (ap (λ (n : ℕ). get_or settled n false) back ∙ o) f.1 in
        subst (λ (w : V). IsTrue (A.no_worse y w)) f.2 (told A.no_worse (y, k) (key_of f.0) l).0;
  }

  still_settled : (v : ℕ) → HasVertex g v → IsSettled settled v → IsSettled (set settled i true) v
  still_settled v in_v t = elim (cases_eq (v - 1) i) [
    | inl same ↦
        let lt : i < length settled = (omega (arith, best.below, hopping.known.settled_count)) in
        ap (λ (j : ℕ). get_or (set settled i true) j false) same ∙ get_or-set_same settled i true false lt
    | inr other ↦ get_or-set_other settled i (v - 1) true false other ∙ t
  ]

  now_or_before : (v : ℕ) → HasVertex g v → IsSettled (set settled i true) v → ((v ≡ i + 1) × (label_of (values_in marks) v ≡ Some y)) ⊎ IsSettled settled v
  now_or_before v in_v t = picked A lawful g roads sources (values_in marks) settled x y i out hopping.known best_value lists v in_v t

  pub hopping_pick : Hopping A g sources marks (set settled i true) y k out
  hopping_pick = record {
    known = search_pick A lawful g roads sources (values_in marks) settled x y i out hopping.known best_value lists;
    below = λ v m in_v t e back. elim (now_or_before v in_v t) [
      | inl now ↦
          let this : m ≡ top.0 = (let both : Some m ≡ Some top.0 = sym e ∙ ap (label_of marks) now.0 ∙ top.1 in cc) in
          let n : m.hops ≡ k = ap (λ (q : Mark V). q.hops) this ∙ top_hops in
          omega (arith, n)
      | inr before ↦
          let l = hopping.known.labelled v in_v before in
          let value : m.value ≡ l.0 = (let both : Some m.value ≡ Some l.0 = sym (read (λ (q : Mark V). q.value) marks v m e) ∙ l.1 in cc) in
          let m_x : IsTrue (A.no_worse m.value x) = subst (λ (z : V). IsTrue (A.no_worse z x)) (sym value) l.2 in
          let x_top : IsTrue (A.no_worse x top.0.value) = hopping.known.above (i + 1) top.0.value top_in top_open (read (λ (q : Mark V). q.value) marks (i + 1) top.0 top.1) in
          let x_y : IsTrue (A.no_worse x y) = subst (λ (z : V). IsTrue (A.no_worse x z)) top_value x_top in
          let few : m.hops ≤ h = hopping.below v m in_v before e (lawful.ordered.transitive x y m.value x_y back) in
          let top_x : IsTrue (A.no_worse top.0.value x) = subst (λ (z : V). IsTrue (A.no_worse z x)) (sym top_value) (lawful.ordered.transitive y m.value x back m_x) in
          let more : h ≤ top.0.hops = hopping.above (i + 1) top.0 top_in top_open top.1 top_x in
          omega (arith, few, more, top_hops)
    ];
    above = λ v m in_v o e back.
        (told A.no_worse (y, k) (key_of m) (least_key v m in_v (not_picked A lawful g roads sources (values_in marks) settled x y i out hopping.known best_value lists v o) e)).1 back;
    at_sources = hopping.at_sources;
    given = λ v m in_v e. elim (hopping.given v m in_v e) [
      | inl source ↦ inl source
      | inr by ↦ inr (again by (still_settled (arc_of g by.arc).tail ((roads.ends by.arc by.has).0) by.done) by.at_tail)
    ];
    passed = λ a has t. elim (cases_eq (arc_of g a).tail (i + 1)) [
      | inl same ↦ inl ((lists.complete a).1 (has, same))
      | inr other ↦ elim (now_or_before (arc_of g a).tail ((roads.ends a has).0) t) [
        | inl now ↦ absurd (other now.0)
        | inr before ↦ elim (hopping.passed a has before) [ inl none ↦ absurd (not_in_empty a none) | inr p ↦ inr p ]
      ]
    ];
    current = λ a w.
        let tail : (arc_of g a).tail ≡ i + 1 = ((lists.complete a).0 w).1 in
        (top.0, ap (label_of marks) tail ∙ top.1, top_hops);
  }

-- a search between two rounds
pub record Between {V : Type 0} (A : Algebra V) (g : GraphData) (sources : List ℕ) (marks : List (Option (Mark V))) (settled : List Bool) : Type 0 where
  pub level : V
  pub hops : ℕ
  pub hopping : Hopping A g sources marks settled level hops []

pub starting : {V : Type 0} (A : Algebra V) → IsLawful A → (g : GraphData) → IsGraph g → (sources : List ℕ) (marks : List (Option (Mark V))) → AreOpening A.origin g.vertices sources marks →
    Between A g sources marks (replicate g.vertices false)
starting A lawful g roads sources marks opening = record { level = A.origin; hops = 0; hopping = hopping_start A lawful g roads sources marks opening }

module _ {V : Type 0} (A : Algebra V) (lawful : IsLawful A) (g : GraphData) (roads : IsGraph g) (sources : List ℕ) (inside : All (HasVertex g) sources)
    (order : V → V → Bool) (same : A.no_worse ≡ order)
    (marks : List (Option (Mark V))) (settled : List Bool) (between : Between A g sources marks settled) where
  pub keys_count : length (keys_in marks) ≡ g.vertices
  keys_count = length-map marks (option_map key_of) ∙ sym (length-map marks (option_map (λ (m : Mark V). m.value))) ∙ between.hopping.known.labels_count

  pub round : (i : ℕ) (x : V) (h : ℕ) (next : List (Option (Mark V))) → IsBestOpen (by_number order) (keys_in marks) settled (length (keys_in marks)) i (x, h) →
      Relaxes A g (i + 1) x h marks next → Between A g sources next (set settled i true)
  round i x h next best pass =
      let mine : IsBestOpen (by_number A.no_worse) (keys_in marks) settled g.vertices i (x, h) = rw (same, ← keys_count) best in
      record {
        level = x;
        hops = h;
        hopping = rw pass.2 (hopping_relaxed A lawful g roads sources inside (set settled i true) x h (i + 1) pass.0 (λ a w. ((pass.1.complete a).0 w).1) marks
            (hopping_pick A lawful g roads sources marks settled between.level x between.hops h i pass.0 between.hopping mine pass.1));
      }

  -- what one round does to the settled vertices: i + 1 joins them with x, which is no better than
  -- theirs, and their marks stay
  module _ (i : ℕ) (x : V) (h : ℕ) (next : List (Option (Mark V))) (best : IsBestOpen (by_number order) (keys_in marks) settled (length (keys_in marks)) i (x, h)) (pass : Relaxes A g (i + 1) x h marks next) where
    mine : IsBestOpen (by_number A.no_worse) (keys_in marks) settled g.vertices i (x, h)
    mine = rw (same, ← keys_count) best

    pub round_stays : (v : ℕ) → HasVertex g v → IsSettled (set settled i true) v → label_of next v ≡ label_of marks v
    round_stays v in_v t =
        ap (λ (l : List (Option (Mark V))). label_of l v) pass.2
        ∙ stays_relaxed A lawful g roads sources inside (set settled i true) x h (i + 1) pass.0 (λ a w. ((pass.1.complete a).0 w).1) marks
        (hopping_pick A lawful g roads sources marks settled between.level x between.hops h i pass.0 between.hopping mine pass.1) v in_v t

    pub round_inside : HasVertex g (i + 1)
    round_inside = top_in A lawful g roads sources marks settled between.level x between.hops h i pass.0 between.hopping mine pass.1

    pub round_value : label_of (values_in marks) (i + 1) ≡ Some x
    round_value =
        let place : (i + 1) - 1 ≡ i = omega arith in
        ap (λ (j : ℕ). get_or (values_in marks) j None) place
        ∙ (best_value A lawful g roads sources marks settled between.level x between.hops h i pass.0 between.hopping mine pass.1).label

    pub round_open : get_or settled ((i + 1) - 1) false ≡ false
    round_open = top_open A lawful g roads sources marks settled between.level x between.hops h i pass.0 between.hopping mine pass.1

    pub round_still : (v : ℕ) → HasVertex g v → IsSettled settled v → IsSettled (set settled i true) v
    round_still = still_settled A lawful g roads sources marks settled between.level x between.hops h i pass.0 between.hopping mine pass.1

    pub round_now : IsSettled (set settled i true) (i + 1)
    round_now =
        let lt : i < length settled = (omega (arith, mine.below, between.hopping.known.settled_count)) in
        let place : (i + 1) - 1 ≡ i = omega arith in
        ap (λ (j : ℕ). get_or (set settled i true) j false) place ∙ get_or-set_same settled i true false lt

    pub round_settled : (v : ℕ) → HasVertex g v → IsSettled (set settled i true) v → (v ≡ i + 1) ⊎ IsSettled settled v
    round_settled v in_v t = elim (now_or_before A lawful g roads sources marks settled between.level x between.hops h i pass.0 between.hopping mine pass.1 v in_v t) [
      | inl now ↦ inl now.0
      | inr before ↦ inr before
    ]

    pub round_no_better : (v : ℕ) (y : V) → HasVertex g v → IsSettled settled v → label_of (values_in marks) v ≡ Some y → IsTrue (A.no_worse y x)
    round_no_better v y in_v t e =
        let l = between.hopping.known.labelled v in_v t in
        let is : l.0 ≡ y = same_some (label_of (values_in marks) v) l.0 y l.1 e in
        let above = between.hopping.known.above (i + 1) x round_inside round_open round_value in
        lawful.ordered.transitive y between.level x (subst (λ (z : V). IsTrue (A.no_worse z between.level)) is l.2) above
