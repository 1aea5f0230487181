-- The tree of an elimination: the parent of a place is its first head.
use Rattle.path_factors.proofs.Words.{◌≡◌, ℕ, zero, suc, ◌+◌, ◌<◌, ◌≤◌, ◌⊎◌, inl, inr, List, [], ◌∷◌, ◌++◌, length, get_or, refl, ap, sym, ◌∙◌, subst, arith, IsStrictlyIncreasing, cases_eq, cases_lt, get_or_append_left, get_or_default, get_or_push, length-append, row_of, AreHeads, IsHead, AreParentsTo, IsTreeParent, IsUp, IsAncestor, first_is_least}

module _ (n : ℕ) (heads : List (List ℕ)) (are : AreHeads n heads) where
  pub parent_inside : (v p : ℕ) → v < n → IsTreeParent heads n v p → (v < p) × (p ≤ n)
  parent_inside v p low parent = elim parent.one [
    | inl none ↦ (omega (arith, low, none), omega (arith, none))
    | inr up ↦ let r = are.rising v p up in (r.0, omega (arith, r.1))
  ]

  pub parent_unique : (v p q : ℕ) → IsTreeParent heads n v p → IsTreeParent heads n v q → p ≡ q
  parent_unique v p q one other = elim one.one [
    | inl none ↦ elim other.one [
      | inl also ↦ omega (arith, none, also)
      | inr up ↦
          absurd (omega (arith, one.least q up, none, (are.rising v q up).1))
    ]
    | inr up ↦ elim other.one [
      | inl none ↦
          absurd (omega (arith, other.least p up, none, (are.rising v p up).1))
      | inr also ↦
          omega (arith, one.least q also, other.least p up)
    ]
  ]

  -- one more parent up
  pub up_more : (k v y p : ℕ) → IsUp heads n k v y → y < n → IsTreeParent heads n y p →
      IsUp heads n (suc k) v p
  up_more zero v y p is low parent = (
    subst (λ (u : ℕ). u < n) (sym is) low,
    (p, subst (λ (u : ℕ). IsTreeParent heads n u p) (sym is) parent, refl),
  )
  up_more (suc k) v y p h low parent = (h.0, (h.1.0, h.1.1, up_more k h.1.0 y p h.1.2 low parent))

  pub ancestor_more : (v y p : ℕ) → IsAncestor heads n v y → y < n → IsTreeParent heads n y p →
      IsAncestor heads n v p
  ancestor_more v y p h low parent = (suc h.0, up_more h.0 v y p h.1 low parent)

  -- an ancestor of an ancestor is one
  pub ancestor_on : (u v y : ℕ) → IsAncestor heads n u v → IsAncestor heads n v y → IsAncestor heads n u y
  ancestor_on u v y h on = up_on h.0 u h.1
    where
      up_on : (k u : ℕ) → IsUp heads n k u v → IsAncestor heads n u y
      up_on zero u is = subst (λ (w : ℕ). IsAncestor heads n w y) (sym is) on
      up_on (suc k) u up = let more = up_on k up.1.0 up.1.2 in (suc more.0, (up.0, (up.1.0, up.1.1, more.1)))

  -- an ancestor is the place, or an ancestor of its parent
  pub ancestor_less : (v p y : ℕ) → IsTreeParent heads n v p → IsAncestor heads n v y →
      (v ≡ y) ⊎ IsAncestor heads n p y
  ancestor_less v p y parent h = up_less h.0 h.1
    where
      up_less : (k : ℕ) → IsUp heads n k v y → (v ≡ y) ⊎ IsAncestor heads n p y
      up_less zero is = inl is
      up_less (suc k) up =
          inr (k, subst (λ (q : ℕ). IsUp heads n k q y) (parent_unique v up.1.0 p up.1.1 parent) up.1.2)

-- the parent of a place is its first head, if it has one
pub first_is_parent : (heads : List (List ℕ)) (n v p : ℕ) → IsStrictlyIncreasing (row_of heads v) → 0 < length (row_of heads v) → get_or (row_of heads v) 0 0 ≡ p →
    IsTreeParent heads n v p
first_is_parent heads n v p up some is = record {
  least = λ y head. let first = first_is_least (row_of heads v) up y head in omega (arith, first, is);
  one = inr (0, some, get_or_default (row_of heads v) 0 p 0 some ∙ is);
}

-- a head of a place is an ancestor
pub head_above : (n : ℕ) (heads : List (List ℕ)) → AreHeads n heads → (v y : ℕ) → IsHead heads v y → IsAncestor heads n v y
head_above n heads are v y head = above y v (omega arith) head
  where
    above : (k v : ℕ) → y ≤ v + k → IsHead heads v y → IsAncestor heads n v y
    above zero v near head = absurd (omega (arith, near, (are.rising v y head).0))
    above (suc k) v near head =
        let rises = are.rising v y head in
        let p = get_or (row_of heads v) 0 0 in
        let parent : IsTreeParent heads n v p = first_is_parent heads n v p (are.ascending v) (omega (arith, head.1)) refl in
        let low : v < n = omega (arith, rises.0, rises.1) in
        elim (cases_eq p y) [
          | inl is ↦ (1, (low, (p, parent, is)))
          | inr other ↦
              let first = parent.least y head in
              elim parent.one [
                | inl none ↦ absurd (omega (arith, none, first, other, rises.1))
                | inr up ↦
                    let more = above k p (omega (arith, near, (are.rising v p up).0)) (are.nested v p y up head (omega (arith, first, other))) in
                    (suc more.0, (low, (p, parent, more.1)))
              ]
        ]

-- the parent of one more place
pub parents_more : (heads : List (List ℕ)) (n k p : ℕ) (parents : List ℕ) → AreParentsTo heads n k parents → IsTreeParent heads n k p →
    AreParentsTo heads n (k + 1) (parents ++ p ∷ [])
parents_more heads n k p parents done last = record {
  count = length-append parents (p ∷ []) ∙ ap (λ (m : ℕ). m + 1) done.count;
  parent = λ v low. elim (cases_lt v k) [
    | inl before ↦
        subst (λ (q : ℕ). IsTreeParent heads n v q) (sym (get_or_append_left parents (p ∷ []) 0 v (omega (arith, before, done.count)))) (done.parent v before)
    | inr past ↦
        let is : k ≡ v = omega (arith, low, past) in
        subst (λ (q : ℕ). IsTreeParent heads n v q) (sym (get_or_push parents p 0 v (done.count ∙ is))) (subst (λ (i : ℕ). IsTreeParent heads n i p) is last)
  ];
}
