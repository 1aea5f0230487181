-- What offers along a row leave.
use Rattle.path_factors.proofs.Words.{◌≡◌, ℕ, ◌<◌, ◌⊎◌, inl, inr, List, [], ◌∷◌, length, refl, ap, sym, ◌∙◌, subst, arith, Option, Some, None, get_or-set_same, get_or-set_other, length-set, IsTrue, Contains, cases_eq, cases_Bool, not_in_empty, here, later, head_or_tail, Algebra, IsLawful, Composition, applied, same_no_worse, other_no_worse, Link}
use Rattle.path_algebra.specs.Walks.{improved, better_label}
use Rattle.path_factors.specs.Substituting.{at, HasNoWorse, offered_link, offered_along, offered_from, best_along}

-- what a walk makes of a label, it makes of a value
pub applied_is : {V W : Type 0} (C : Composition V W) (o : Option V) (a : W) (z : V) → applied C o a ≡ Some z →
    (x : V) × (o ≡ Some x) × (C.apply x a ≡ Some z)
applied_is C None a z e = cc
applied_is C (Some x) a z e = (x, refl, e)

module _ {V : Type 0} (A : Algebra V) (lawful : IsLawful A) where
  same : (x : V) → IsTrue (A.no_worse x x)
  same x = same_no_worse A.no_worse lawful.ordered x

  improved_keeps : (x z : V) → HasNoWorse A (improved A.no_worse (Some x) z) x
  improved_keeps x z = elim (cases_Bool (A.no_worse x z)) [
    | inl kept ↦ (x, rw kept refl, same x)
    | inr worse ↦ (z, rw worse refl, other_no_worse A.no_worse lawful.ordered x z worse)
  ]

  improved_takes : (l : Option V) (z : V) → HasNoWorse A (improved A.no_worse l z) z
  improved_takes None z = (z, refl, same z)
  improved_takes (Some x) z = elim (cases_Bool (A.no_worse x z)) [
    | inl kept ↦ (x, rw kept refl, kept)
    | inr worse ↦ (z, rw worse refl, same z)
  ]

  improved_is_one : (l : Option V) (z y : V) → improved A.no_worse l z ≡ Some y → (l ≡ Some y) ⊎ (z ≡ y)
  improved_is_one None z y e = inr (cc)
  improved_is_one (Some x) z y e = elim (cases_Bool (A.no_worse x z)) [
    | inl kept ↦ let f : improved A.no_worse (Some x) z ≡ Some x = rw kept refl in inl (sym f ∙ e)
    | inr worse ↦ let f : improved A.no_worse (Some x) z ≡ Some z = rw worse refl in let k : Some z ≡ Some y = sym f ∙ e in inr (cc)
  ]

  -- the better of two labels is no worse than the one
  better_keeps : (l m : Option V) (x : V) → l ≡ Some x → HasNoWorse A (better_label A.no_worse l m) x
  better_keeps l None x e = (x, e, same x)
  better_keeps l (Some z) x e = subst (λ (o : Option V). HasNoWorse A (improved A.no_worse o z) x) (sym e) (improved_keeps x z)

  -- and than the other
  better_takes : (l m : Option V) (z : V) → m ≡ Some z → HasNoWorse A (better_label A.no_worse l m) z
  better_takes l m z e = subst (λ (o : Option V). HasNoWorse A (better_label A.no_worse l o) z) (sym e) (improved_takes l z)

  -- and it is one of them
  better_is_one : (l m : Option V) (y : V) → better_label A.no_worse l m ≡ Some y → (l ≡ Some y) ⊎ (m ≡ Some y)
  better_is_one l None y e = inl e
  better_is_one l (Some z) y e = elim (improved_is_one l z y e) [
    | inl old ↦ inl old
    | inr new ↦ inr (ap (λ (v : V). Some v) new)
  ]

  pub no_worse_on : (l : Option V) (x z : V) → HasNoWorse A l x → IsTrue (A.no_worse x z) → HasNoWorse A l z
  no_worse_on l x z h k = (h.0, h.1, lawful.ordered.transitive h.0 x z h.2 k)

  module _ {W : Type 0} (C : Composition V W) where
    -- the best along a row is no worse than the label before
    pub best_keeps : (labels : List (Option V)) (row : List (Link W)) (l : Option V) (x : V) → l ≡ Some x →
        HasNoWorse A (best_along A C labels l row) x
    best_keeps labels [] l x e = (x, e, same x)
    best_keeps labels (k ∷ row) l x e =
        let m = applied C (at labels k.place) k.walk in
        let one = better_keeps l m x e in
        no_worse_on (best_along A C labels (better_label A.no_worse l m) row) one.0 x (best_keeps labels row (better_label A.no_worse l m) one.0 one.1) one.2

    -- and than what a link of the row brings
    pub best_passes : (labels : List (Option V)) (row : List (Link W)) (l : Option V) (k : Link W) (x z : V) → Contains row k →
        at labels k.place ≡ Some x → C.apply x k.walk ≡ Some z → HasNoWorse A (best_along A C labels l row) z
    best_passes labels [] l k x z h e f = absurd (not_in_empty k h)
    best_passes labels (r ∷ row) l k x z h e f =
        let m = applied C (at labels r.place) r.walk in
        elim (head_or_tail r k row h) [
          | inl is ↦
              let brings : m ≡ Some z =
              ap (λ (q : Link W). applied C (at labels q.place) q.walk) is ∙ ap (λ (o : Option V). applied C o k.walk) e ∙ f in
              let one = better_takes l m z brings in
              no_worse_on (best_along A C labels (better_label A.no_worse l m) row) one.0 z (best_keeps labels row (better_label A.no_worse l m) one.0 one.1) one.2
          | inr after ↦ best_passes labels row (better_label A.no_worse l m) k x z after e f
        ]

    -- what a link of a row brings
    pub record Brings (labels : List (Option V)) (row : List (Link W)) (z : V) : Type 0 where
      pub link : Link W
      pub among : Contains row link
      pub value : V
      pub label : at labels link.place ≡ Some value
      pub extends : C.apply value link.walk ≡ Some z

    -- and it is one of these
    pub best_is_one : (labels : List (Option V)) (row : List (Link W)) (l : Option V) (z : V) →
        best_along A C labels l row ≡ Some z → (l ≡ Some z) ⊎ Brings labels row z
    best_is_one labels [] l z e = inl e
    best_is_one labels (k ∷ row) l z e =
        let m = applied C (at labels k.place) k.walk in
        elim (best_is_one labels row (better_label A.no_worse l m) z e) [
          | inl one ↦ elim (better_is_one l m z one) [
            | inl old ↦ inl old
            | inr new ↦
                let by = applied_is C (at labels k.place) k.walk z new in
                inr (record { link = k; among = here k row; value = by.0; label = by.1; extends = by.2 })
          ]
          | inr by ↦ inr (record {
            link = by.link;
            among = later k by.link row by.among;
            value = by.value;
            label = by.label;
            extends = by.extends;
          })
        ]

    module _ (x : V) where
      pub offered_count : (row : List (Link W)) (labels : List (Option V)) →
          length (offered_along A C x labels row) ≡ length labels
      offered_count [] labels = refl
      offered_count (k ∷ row) labels =
          offered_count row (offered_link A C x labels k)
          ∙ length-set labels k.place (better_label A.no_worse (at labels k.place) (C.apply x k.walk))

      -- a place to which no link leads keeps its label
      pub offered_other : (row : List (Link W)) (labels : List (Option V)) (i : ℕ) →
          ((k : Link W) → Contains row k → i < k.place) →
          at (offered_along A C x labels row) i ≡ at labels i
      offered_other [] labels i beyond = refl
      offered_other (k ∷ row) labels i beyond =
          offered_other row (offered_link A C x labels k) i (λ q h. beyond q (later k q row h))
          ∙ get_or-set_other labels k.place i (better_label A.no_worse (at labels k.place) (C.apply x k.walk)) None
          (λ e. omega (arith, beyond k (here k row), e))

      module _ (labels : List (Option V)) (k : Link W) (inside : k.place < length labels) where
        link_same : at (offered_link A C x labels k) k.place ≡ better_label A.no_worse (at labels k.place) (C.apply x k.walk)
        link_same = get_or-set_same labels k.place (better_label A.no_worse (at labels k.place) (C.apply x k.walk)) None inside

        link_other : (i : ℕ) → (k.place ≡ i → ⊥) → at (offered_link A C x labels k) i ≡ at labels i
        link_other i other =
            get_or-set_other labels k.place i (better_label A.no_worse (at labels k.place) (C.apply x k.walk)) None
            (λ e. other (sym e))

        link_keeps : (i : ℕ) (y : V) → at labels i ≡ Some y → HasNoWorse A (at (offered_link A C x labels k) i) y
        link_keeps i y e = elim (cases_eq k.place i) [
          | inl is ↦
              let here_is : at labels k.place ≡ Some y = ap (at labels) is ∙ e in
              let better = better_keeps (at labels k.place) (C.apply x k.walk) y here_is in
              (better.0, ap (at (offered_link A C x labels k)) (sym is) ∙ link_same ∙ better.1, better.2)
          | inr other ↦ (y, link_other i other ∙ e, same y)
        ]

        link_takes : (z : V) → C.apply x k.walk ≡ Some z → HasNoWorse A (at (offered_link A C x labels k) k.place) z
        link_takes z f =
            let better = better_takes (at labels k.place) (C.apply x k.walk) z f in
            (better.0, link_same ∙ better.1, better.2)

        link_is_one : (i : ℕ) (z : V) → at (offered_link A C x labels k) i ≡ Some z →
            (at labels i ≡ Some z) ⊎ ((k.place ≡ i) × (C.apply x k.walk ≡ Some z))
        link_is_one i z e = elim (cases_eq k.place i) [
          | inl is ↦
              let here_is : better_label A.no_worse (at labels k.place) (C.apply x k.walk) ≡ Some z =
              sym link_same ∙ ap (at (offered_link A C x labels k)) is ∙ e in
              elim (better_is_one (at labels k.place) (C.apply x k.walk) z here_is) [
                | inl old ↦ inl (ap (at labels) (sym is) ∙ old)
                | inr new ↦ inr (is, new)
              ]
          | inr other ↦ inl (sym (link_other i other) ∙ e)
        ]

        link_count : length (offered_link A C x labels k) ≡ length labels
        link_count = length-set labels k.place (better_label A.no_worse (at labels k.place) (C.apply x k.walk))

      -- the links of a row lead to places below n
      abbrev LeadBelow : ℕ → List (Link W) → Type 0
      LeadBelow n row = (k : Link W) → Contains row k → k.place < n

      rest_inside : (n : ℕ) (k : Link W) (row : List (Link W)) → LeadBelow n (k ∷ row) → LeadBelow n row
      rest_inside n k row inside q h = inside q (later k q row h)

      -- no label gets worse
      pub offered_keeps : (row : List (Link W)) (labels : List (Option V)) → LeadBelow (length labels) row →
          (i : ℕ) (y : V) → at labels i ≡ Some y → HasNoWorse A (at (offered_along A C x labels row) i) y
      offered_keeps [] labels inside i y e = (y, e, same y)
      offered_keeps (k ∷ row) labels inside i y e =
          let next = offered_link A C x labels k in
          let low = inside k (here k row) in
          let one = link_keeps labels k low i y e in
          let further = subst (λ (n : ℕ). LeadBelow n row) (sym (link_count labels k low)) (rest_inside (length labels) k row inside) in
          no_worse_on (at (offered_along A C x next row) i) one.0 y (offered_keeps row next further i one.0 one.1) one.2

      -- the place of a link has a label no worse than it was offered
      pub offered_passes : (row : List (Link W)) (labels : List (Option V)) → LeadBelow (length labels) row →
          (k : Link W) (z : V) → Contains row k → C.apply x k.walk ≡ Some z →
          HasNoWorse A (at (offered_along A C x labels row) k.place) z
      offered_passes [] labels inside k z h f = absurd (not_in_empty k h)
      offered_passes (r ∷ row) labels inside k z h f =
          let next = offered_link A C x labels r in
          let low = inside r (here r row) in
          let further = subst (λ (n : ℕ). LeadBelow n row) (sym (link_count labels r low)) (rest_inside (length labels) r row inside) in
          elim (head_or_tail r k row h) [
            | inl is ↦
                let offer : C.apply x r.walk ≡ Some z = ap (λ (q : Link W). C.apply x q.walk) is ∙ f in
                let one = link_takes labels r low z offer in
                subst (λ (q : Link W). HasNoWorse A (at (offered_along A C x next row) q.place) z) is
                (no_worse_on (at (offered_along A C x next row) r.place) one.0 z (offered_keeps row next further r.place one.0 one.1) one.2)
            | inr after ↦ offered_passes row next further k z after f
          ]

      -- each label was there before, or a link of the row brought it
      pub offered_is_one : (row : List (Link W)) (labels : List (Option V)) → LeadBelow (length labels) row →
          (i : ℕ) (z : V) → at (offered_along A C x labels row) i ≡ Some z →
          (at labels i ≡ Some z) ⊎ ((k : Link W) × Contains row k × (k.place ≡ i) × (C.apply x k.walk ≡ Some z))
      offered_is_one [] labels inside i z e = inl e
      offered_is_one (k ∷ row) labels inside i z e =
          let low = inside k (here k row) in
          let further = subst (λ (n : ℕ). LeadBelow n row) (sym (link_count labels k low)) (rest_inside (length labels) k row inside) in
          elim (offered_is_one row (offered_link A C x labels k) further i z e) [
            | inl one ↦ elim (link_is_one labels k low i z one) [
              | inl old ↦ inl old
              | inr new ↦ inr (k, here k row, new.0, new.1)
            ]
            | inr by ↦ inr (by.0, later k by.0 row by.1, by.2, by.3)
          ]

    pub offered_from_count : (l : Option V) (labels : List (Option V)) (row : List (Link W)) →
        length (offered_from A C l labels row) ≡ length labels
    offered_from_count None labels row = refl
    offered_from_count (Some x) labels row = offered_count x row labels
