-- Findings of vertices, one after the other, are labels and a tree.
use Rattle.factor_routes.proofs.Words.{◌≡◌, ℕ, ◌+◌, ◌-◌, ◌≤◌, ◌⊎◌, inl, inr, List, [], ◌∷◌, ◌++◌, length, get_or, refl, ap, sym, ◌∙◌, subst, arith, Option, Some, None, All-nil, GraphData, IsGraph, HasVertex, Algebra, IsToldOf}
use Rattle.std.proofs.Math.Seq.{get_or-append_seam}
use Rattle.std.proofs.lemmas.List.{get_or_append_left, length-append}
use Rattle.path_algebra.specs.Walks.{IsWalkValue, IsBestLabel, IsTight, AreBest, AreHops, label_of}
use Rattle.route_tree.specs.Tree.{Branches, hops_of, parent_of, AreHopsAt, IsParentAt, IsTree, IsLinkedAt, IsLinked}
use Rattle.route_tree.proofs.Told.{one_hops}

-- what was found of the vertices 1 to n
pub record AreTold {V : Type 0} (A : Algebra V) (g : GraphData) (sources : List ℕ) (n : ℕ) (values : List (Option V)) (hops parents : List (Option ℕ)) : Type 0 where
  pub values_count : length values ≡ n
  pub hops_count : length hops ≡ n
  pub parents_count : length parents ≡ n
  pub told : (v : ℕ) → 1 ≤ v → v ≤ n → IsToldOf A g sources v (label_of values v) (label_of hops v) (label_of parents v)

module _ {X : Type 0} (xs : List (Option X)) (x : Option X) (n : ℕ) (count : length xs ≡ n) where
  pushed_count : length (xs ++ x ∷ []) ≡ n + 1
  pushed_count = let more = length-append xs (x ∷ []) in omega (arith, more, count)

  pushed_before : (v : ℕ) → 1 ≤ v → v ≤ n → label_of (xs ++ x ∷ []) v ≡ label_of xs v
  pushed_before v low high = get_or_append_left xs (x ∷ []) None (v - 1) (omega (arith, low, high, count))

  pushed_last : label_of (xs ++ x ∷ []) (n + 1) ≡ x
  pushed_last =
      let place : n + 1 - 1 ≡ length xs = omega (arith, count) in
      ap (λ (i : ℕ). get_or (xs ++ x ∷ []) i None) place ∙ get_or-append_seam xs x [] None

module _ {V : Type 0} (A : Algebra V) (g : GraphData) (sources : List ℕ) where
  pub told_more : (n : ℕ) (values : List (Option V)) (hops parents : List (Option ℕ)) (x : Option V) (h p : Option ℕ) →
      AreTold A g sources n values hops parents → IsToldOf A g sources (n + 1) x h p →
      AreTold A g sources (n + 1) (values ++ x ∷ []) (hops ++ h ∷ []) (parents ++ p ∷ [])
  told_more n values hops parents x h p known is = record {
    values_count = pushed_count values x n known.values_count;
    hops_count = pushed_count hops h n known.hops_count;
    parents_count = pushed_count parents p n known.parents_count;
    told = λ v low high. elim (split v high) [
      | inl before ↦
          rw (pushed_before values x n known.values_count v low before)
          (rw (pushed_before hops h n known.hops_count v low before)
          (rw (pushed_before parents p n known.parents_count v low before) (known.told v low before)))
      | inr last ↦
          rw last
          (rw (pushed_last values x n known.values_count)
          (rw (pushed_last hops h n known.hops_count) (rw (pushed_last parents p n known.parents_count) is)))
    ];
  }
    where
      split : (v : ℕ) → v ≤ n + 1 → (v ≤ n) ⊎ (v ≡ n + 1)
      split v high = grind (arith, high)

  value_of : (v : ℕ) (l : Option V) (m p : Option ℕ) → IsToldOf A g sources v l m p → IsBestLabel A g sources v l
  value_of v None None None h = h
  value_of v None None (Some u) h = absurd h
  value_of v None (Some k) None h = absurd h
  value_of v None (Some k) (Some u) h = absurd h
  value_of v (Some x) None None h = absurd h
  value_of v (Some x) None (Some u) h = absurd h
  value_of v (Some x) (Some k) None h = h.0
  value_of v (Some x) (Some k) (Some u) h = h.0

  hops_are : (v : ℕ) (l : Option V) (m p : Option ℕ) → IsToldOf A g sources v l m p → AreHopsAt A g sources v m
  hops_are v None None None h = h
  hops_are v None None (Some u) h = absurd h
  hops_are v None (Some k) None h = absurd h
  hops_are v None (Some k) (Some u) h = absurd h
  hops_are v (Some x) None None h = absurd h
  hops_are v (Some x) None (Some u) h = absurd h
  hops_are v (Some x) (Some k) None h = h.1
  hops_are v (Some x) (Some k) (Some u) h = h.1

  parent_is : (v : ℕ) (l : Option V) (m p : Option ℕ) → IsToldOf A g sources v l m p → IsParentAt A g sources v m p
  parent_is v None None None h = h
  parent_is v None None (Some u) h = absurd h
  parent_is v None (Some k) None h = absurd h
  parent_is v None (Some k) (Some u) h = absurd h
  parent_is v (Some x) None None h = absurd h
  parent_is v (Some x) None (Some u) h = absurd h
  parent_is v (Some x) (Some k) None h = h.2
  parent_is v (Some x) (Some k) (Some u) h = h.2

  module _ (values : List (Option V)) (hops parents : List (Option ℕ)) (known : AreTold A g sources g.vertices values hops parents) where
    pub told_best : AreBest A g sources values
    told_best = record {
      count = known.values_count;
      best = λ v in_v. value_of v (label_of values v) (label_of hops v) (label_of parents v) (known.told v in_v.0 in_v.1);
    }

    pub told_tree : IsTree A g sources (record { hops = hops; parents = parents })
    told_tree = record {
      hops_count = known.hops_count;
      parents_count = known.parents_count;
      hops = λ v in_v. hops_are v (label_of values v) (label_of hops v) (label_of parents v) (known.told v in_v.0 in_v.1);
      parents = λ v in_v. parent_is v (label_of values v) (label_of hops v) (label_of parents v) (known.told v in_v.0 in_v.1);
    }

  module _ (roads : IsGraph g) (t : Branches) (tree : IsTree A g sources t) where
    hops_some : (u : ℕ) (m : Option ℕ) → hops_of t u ≡ m → AreHopsAt A g sources u m → (z : V) → IsWalkValue A g sources u z →
        (j : ℕ) × (hops_of t u ≡ Some j) × AreHops A g sources u j
    hops_some u None e h z w = absurd (h z w)
    hops_some u (Some j) e h z w = (j, e, h)

    link_at : (v : ℕ) (m p : Option ℕ) → AreHopsAt A g sources v m → IsParentAt A g sources v m p → IsLinkedAt t m p
    link_at v None None h q = tt
    link_at v None (Some u) h q = q
    link_at v (Some k) None h q = let low = h.least 0 ([], (v, q, refl), All-nil (IsTight A g sources), refl) in omega (arith, low)
    link_at v (Some k) (Some u) h q =
        let near = q.nearer in
        let in_u = subst (λ (n : ℕ). HasVertex g n) near.2 (roads.ends near.0 near.1.arc).0 in
        let w = subst (λ (n : ℕ). IsWalkValue A g sources n near.1.tail) near.2 near.1.tail_best.attained in
        let j = hops_some u (hops_of t u) refl (tree.hops u in_u) near.1.tail w in
        let next = one_hops A g sources v k (near.4.0 + 1) h near.4.2 in
        (in_u.0, omega (arith, in_u.1, tree.hops_count), (j.0, j.1, omega (arith, one_hops A g sources u j.0 near.4.0 j.2 near.4.1, next)))

    -- a tree is linked
    pub tree_linked : IsLinked t
    tree_linked = record {
      count = tree.parents_count ∙ sym tree.hops_count;
      links = λ v low high.
          let in_v : HasVertex g v = (low, omega (arith, high, tree.hops_count)) in
          link_at v (hops_of t v) (parent_of t v) (tree.hops v in_v) (tree.parents v in_v);
    }
