-- At the end of the search the values are best, and hops and parents are their tree.
use Rattle.tree_search.proofs.Words.{◌≡◌, ℕ, zero, suc, ◌+◌, ◌-◌, ◌≤◌, inl, inr, Bool, true, false, cond, List, [], ◌∷◌, get_or, refl, ap, sym, ◌∙◌, subst, arith, Option, Some, None, get_or-map, length-map, cases_Bool, ne_eqb, eqb_tells, IsTrue, All, option_map, GraphData, IsGraph, HasArc, HasVertex, arc_of, not_in_empty, same_some, Algebra, IsLawful, AnswersBestOpen, all_inside, same_no_worse, IsSettled, IsLinked, IsTree, by_number, Mark}
use Rattle.path_algebra.specs.Walks.{AreBest, label_of, is_tight, is_tight_between, is_reached_by}
use Rattle.path_plain.proofs.Rounds as plain
use Rattle.route_tree.specs.Levels.{IsWalkOf, Visiting}
use Rattle.route_tree.proofs.LevelsAreLeast.{IsWalkOf-snoc, IsWalkOf-nil, search_ends}
use Rattle.route_tree.proofs.Trees.{linked, tree_is}
use Rattle.tree_search.specs.Marks.{key_of, values_in, keys_in, hops_in, parents_in, parent_in, parent_or_none}
use Rattle.tree_search.proofs.Reading.{read, read_none, found, is_some}
use Rattle.tree_search.proofs.Hopping.{Hopping}

-- some number is no less than the hops of all marks
most : {V : Type 0} (marks : List (Option (Mark V))) → (n : ℕ) × ((i : ℕ) (m : Mark V) → get_or marks i None ≡ Some m → m.hops ≤ n)
most [] = (0, λ i m e. cc)
most (None ∷ marks) =
    let rest = most marks in
    (rest.0, elim [ zero ↦ (λ m e. cc) | suc i ↦ (λ m e. rest.1 i m e) ])
most (Some top ∷ marks) =
    let rest = most marks in (
      top.hops + rest.0,
      elim [
        | zero ↦ (λ m e. let same : top ≡ m = (cc) in let n : m.hops ≡ top.hops = ap (λ q. q.hops) (sym same) in omega (arith, n))
        | suc i ↦ (λ m e. omega (arith, rest.1 i m e))
      ],
    )

module _ {V : Type 0} (A : Algebra V) (lawful : IsLawful A) (g : GraphData) (roads : IsGraph g) (sources : List ℕ) (inside : All (HasVertex g) sources)
    (marks : List (Option (Mark V))) (settled : List Bool) (x : V) (h : ℕ) (hopping : Hopping A g sources marks settled x h [])
    (none : AnswersBestOpen (by_number A.no_worse) (keys_in marks) settled g.vertices None) where
  abbrev labels : List (Option V)
  labels = values_in marks

  abbrev test : ℕ → Bool
  test a = is_tight A g labels a

  value_at : (v : ℕ) (m : Mark V) → label_of marks v ≡ Some m → label_of labels v ≡ Some m.value
  value_at v m e = read (λ (q : Mark V). q.value) marks v m e

  hops_at : (v : ℕ) (m : Mark V) → label_of marks v ≡ Some m → label_of (hops_in marks) v ≡ Some m.hops
  hops_at v m e = read (λ (q : Mark V). q.hops) marks v m e

  mark_of_hops : (v j : ℕ) → label_of (hops_in marks) v ≡ Some j → (m : Mark V) × (label_of marks v ≡ Some m) × (m.hops ≡ j)
  mark_of_hops v j e = found (λ (q : Mark V). q.hops) marks v j e

  parent_read : (v : ℕ) → label_of (parents_in marks) v ≡ parent_in (label_of marks v)
  parent_read v = get_or-map parent_in marks (v - 1) None

  -- a vertex with a mark is settled
  pub all_settled : (v : ℕ) (m : Mark V) → HasVertex g v → label_of marks v ≡ Some m → IsSettled settled v
  all_settled v m in_v e = elim (cases_Bool (get_or settled (v - 1) false)) [
    | inl t ↦ t
    | inr o ↦
        let bad : None ≡ Some (key_of m) = sym (none (v - 1) (omega (arith, in_v.0, in_v.1)) o) ∙ read key_of marks v m e in cc
  ]

  none_open : AnswersBestOpen A.no_worse labels settled g.vertices None
  none_open j lt o =
      let back : (j + 1) - 1 ≡ j = omega arith in
      elim (is_some (label_of marks (j + 1))) [
        | inl empty ↦ ap (λ (n : ℕ). get_or labels n None) (sym back) ∙ read_none (λ (q : Mark V). q.value) marks (j + 1) empty
        | inr some ↦
            let bad : true ≡ false = sym (all_settled (j + 1) some.0 (omega arith, omega (arith, lt)) some.1) ∙ ap (λ (n : ℕ). get_or settled n false) back ∙ o in cc
      ]

  pub values_are_best : AreBest A g sources labels
  values_are_best = plain.search_ends A lawful g roads sources inside settled x labels hopping.known none_open

  tight_by : (a : ℕ) (t m : Mark V) → label_of marks (arc_of g a).tail ≡ Some t → label_of marks (arc_of g a).head ≡ Some m → A.extend t.value (arc_of g a).weight ≡ Some m.value → test a ≡ true
  tight_by a t m e f extends =
      ap (λ (l : Option V). is_tight_between A l (arc_of g a).weight (label_of labels (arc_of g a).head)) (value_at (arc_of g a).tail t e)
      ∙ ap (λ (l : Option V). is_tight_between A (Some t.value) (arc_of g a).weight l) (value_at (arc_of g a).head m f)
      ∙ ap (λ (o : Option V). is_reached_by A.no_worse o m.value) extends
      ∙ same_no_worse A.no_worse lawful.ordered m.value

  between : (l : Option V) (w : ℕ) (o : Option V) → is_tight_between A l w o ≡ true → (y z : V) × (l ≡ Some y) × (o ≡ Some z) × ((u : V) × (A.extend y w ≡ Some u) × IsTrue (A.no_worse u z))
  between (Some y) w (Some z) e = (y, z, refl, refl, reached (A.extend y w) z e)
    where
      reached : (o : Option V) (z : V) → is_reached_by A.no_worse o z ≡ true → (u : V) × (o ≡ Some u) × IsTrue (A.no_worse u z)
      reached None z e = cc
      reached (Some u) z e = (u, refl, e)
  between l w o e = cc

  -- what an arc that is tight by the values says of the marks of its ends
  tight_says : (a : ℕ) (t : Mark V) → HasArc g a → test a ≡ true → label_of marks (arc_of g a).tail ≡ Some t →
      (m : Mark V) × (label_of marks (arc_of g a).head ≡ Some m) × (A.extend t.value (arc_of g a).weight ≡ Some m.value)
  tight_says a t has e at =
      let b = between (label_of labels (arc_of g a).tail) (arc_of g a).weight (label_of labels (arc_of g a).head) e in
      let tail_value : t.value ≡ b.0 = same_some (label_of labels (arc_of g a).tail) t.value b.0 (value_at (arc_of g a).tail t at) b.2 in
      let f = found (λ (q : Mark V). q.value) marks (arc_of g a).head b.1 b.3 in
      let u = b.4.0 in
      let extends : A.extend t.value (arc_of g a).weight ≡ Some u = ap (λ (y : V). A.extend y (arc_of g a).weight) tail_value ∙ b.4.1 in
      let u_before : IsTrue (A.no_worse u f.0.value) = subst (λ (y : V). IsTrue (A.no_worse u y)) (sym f.2) b.4.2 in
      elim (hopping.known.closed a has (all_settled (arc_of g a).tail t ((roads.ends a has).0) at)) [
        | inl waits ↦ absurd (not_in_empty a waits)
        | inr closed ↦
            let c = closed t.value u (value_at (arc_of g a).tail t at) extends in
            let value : f.0.value ≡ c.0 = same_some (label_of labels (arc_of g a).head) f.0.value c.0 (value_at (arc_of g a).head f.0 f.1) c.1 in
            let back : IsTrue (A.no_worse f.0.value u) = subst (λ (y : V). IsTrue (A.no_worse y u)) (sym value) c.2 in
            let is : u ≡ f.0.value = lawful.ordered.antisymmetric u f.0.value u_before back in
            (f.0, f.1, extends ∙ ap (λ (y : V). Some y) is)
      ]

  -- a mark's hops are those of a walk of tight arcs
  walk_of : (k : ℕ) (v : ℕ) (m : Mark V) → HasVertex g v → label_of marks v ≡ Some m → m.hops ≡ k → IsWalkOf g test sources v k
  walk_of zero v m in_v e n = elim (hopping.given v m in_v e) [
    | inl source ↦ IsWalkOf-nil g test sources v source.2
    | inr by ↦ absurd (let up : m.hops ≡ by.near.hops + 1 = by.hops in omega (arith, up, n))
  ]
  walk_of (suc k) v m in_v e n = elim (hopping.given v m in_v e) [
    | inl source ↦ absurd (let z : m.hops ≡ 0 = source.0 in omega (arith, z, n))
    | inr by ↦
        let up : m.hops ≡ by.near.hops + 1 = by.hops in
        let one : by.near.hops ≡ k = omega (arith, up, n) in
        let w = walk_of k (arc_of g by.arc).tail by.near ((roads.ends by.arc by.has).0) by.at_tail one in
        let t = tight_by by.arc by.near m by.at_tail (ap (label_of marks) by.head ∙ e) by.extends in
        let on = IsWalkOf-snoc g test sources (arc_of g by.arc).tail by.arc k w by.has refl t in
        let s : k + 1 ≡ suc k = omega arith in
        subst (λ (j : ℕ). IsWalkOf g test sources v j) s (subst (λ (u : ℕ). IsWalkOf g test sources u (k + 1)) by.head on)
  ]

  some_parent : (u : ℕ) → 1 ≤ u → parent_or_none u ≡ Some u
  some_parent u low = ap (λ (b : Bool). cond b None (Some u)) (ne_eqb u 0 (λ e. omega (arith, low, e)))

  parent_cases : (o : Option (Mark V)) (u : ℕ) → parent_in o ≡ Some u → (m : Mark V) × (o ≡ Some m) × (m.parent ≡ u) × (m.parent ≡ 0 → ⊥)
  parent_cases None u e = cc
  parent_cases (Some m) u e = elim (eqb_tells m.parent 0) [
    | inl zeroed ↦ let bad : None ≡ Some u = sym (ap (λ (b : Bool). cond b None (Some m.parent)) zeroed.0) ∙ e in cc
    | inr more ↦ let is : Some m.parent ≡ Some u = sym (ap (λ (b : Bool). cond b None (Some m.parent)) more.0) ∙ e in (m, refl, cc, more.1)
  ]

  visiting : Visiting g test sources (most marks).0 (hops_in marks) (parents_in marks) [] [] []
  visiting = record {
    count = length-map marks (option_map (λ (m : Mark V). m.hops)) ∙ sym (length-map marks (option_map (λ (m : Mark V). m.value))) ∙ hopping.known.labels_count;
    parents_count = length-map marks parent_in ∙ sym (length-map marks (option_map (λ (m : Mark V). m.value))) ∙ hopping.known.labels_count;
    attained = λ v j in_v e. let f = mark_of_hops v j e in walk_of j v f.0 in_v f.1 f.2;
    at_sources = λ s c. let was = hopping.at_sources s c in (all_inside g sources inside s c, hops_at s was.0 was.1 ∙ ap (λ (j : ℕ). Some j) was.2);
    few = λ v j in_v e.
        let f = mark_of_hops v j e in
        omega (arith, (most marks).1 (v - 1) f.0 f.1, f.2);
    adopted = λ v u in_v e.
        let p = parent_cases (label_of marks v) u (sym (parent_read v) ∙ e) in
        elim (hopping.given v p.0 in_v p.1) [
          | inl source ↦ absurd (p.3 source.1)
          | inr by ↦
              let f : label_of marks (arc_of g by.arc).head ≡ Some p.0 = ap (label_of marks) by.head ∙ p.1 in (
                by.arc,
                record {
                  arc = by.has;
                  passes = tight_by by.arc by.near p.0 by.at_tail f by.extends;
                  near = by.near.hops;
                  at_tail = hops_at (arc_of g by.arc).tail by.near by.at_tail;
                  at_head = hops_at (arc_of g by.arc).head p.0 f ∙ ap (λ (j : ℕ). Some j) by.hops;
                },
                by.head,
                by.tail ∙ p.2,
              )
        ];
    pending_at = λ v w. absurd (not_in_empty v w);
    next_at = λ v w. absurd (not_in_empty v w);
    arcs_at = λ a w. absurd (not_in_empty a w);
    closed = λ a j has e at.
        let ends = roads.ends a has in
        let t = mark_of_hops (arc_of g a).tail j at in
        let n : t.0.hops ≡ j = t.2 in
        let s = tight_says a t.0 has e t.1 in
        let m = s.0 in
        elim (hopping.passed a has (all_settled (arc_of g a).tail t.0 ends.0 t.1)) [
          | inl waits ↦ absurd (not_in_empty a waits)
          | inr passed ↦
              let p = passed t.0 m t.1 s.1 s.2 in
              let few : m.hops ≤ t.0.hops + 1 = p.0 in
              inr (inr (inr (record {
                far = m.hops;
                at_head = hops_at (arc_of g a).head m s.1;
                few = omega (arith, few, n);
                parent = λ as_many. elim (hopping.given (arc_of g a).head m ends.1 s.1) [
                  | inl source ↦ absurd (let z : m.hops ≡ 0 = source.0 in omega (arith, as_many, n, z))
                  | inr by ↦
                      let low : 1 ≤ m.parent = subst (λ (u : ℕ). 1 ≤ u) by.tail ((roads.ends by.arc by.has).0.0) in
                      (m.parent, parent_read (arc_of g a).head ∙ ap parent_in s.1 ∙ some_parent m.parent low, p.1 (omega (arith, as_many, n)))
                ];
              })))
        ];
  }

  pub tree_is_found : IsTree A g sources (record { hops = hops_in marks; parents = parents_in marks })
  tree_is_found =
      let least = search_ends g test sources (most marks).0 (hops_in marks) (parents_in marks) [] refl visiting in
      tree_is A lawful g roads sources (all_inside g sources inside) labels values_are_best (hops_in marks) least.0 (parents_in marks) least.1

  pub linked_found : IsLinked (record { hops = hops_in marks; parents = parents_in marks })
  linked_found =
      let least = search_ends g test sources (most marks).0 (hops_in marks) (parents_in marks) [] refl visiting in
      linked g roads test sources (hops_in marks) least.0 (parents_in marks) least.1
