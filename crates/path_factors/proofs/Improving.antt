-- A row in which a link was made better.
use Rattle.std.proofs.Common.{◌≡◌, ℕ, ◌<◌, inl, inr, Bool, true, false, cond, List, length, set, get_or, ap, sym, ◌∙◌, subst, arith, get_or-set_same, get_or-set_other, length-set}
use Rattle.path_factors.proofs.Words.{IsTrue, Contains, cases_eq, cases_Bool, IsOrder, Composition, same_no_worse, other_no_worse, Link, IsImproved, better_walk}
use Rattle.std.proofs.lemmas.List.{get_or_default, set-get_or}

module _ {V W : Type 0} (C : Composition V W) (ordered : IsOrder C.no_worse) where
  same : (a : W) → IsTrue (C.no_worse a a)
  same a = same_no_worse C.no_worse ordered a

  -- put in the place of one that leads to the same place and is worse
  pub improved_set : (row : List (Link W)) (k : Link W) (j : ℕ) (old : Link W) → j < length row →
      old ≡ get_or row j old → old.place ≡ k.place → C.no_worse old.walk k.walk ≡ false →
      IsImproved C row k (set row j k)
  improved_set row k j old lt is leads worse =
      let n : length (set row j k) ≡ length row = length-set row j k in
      let here : Contains (set row j k) k = (j, omega (arith, lt, n), get_or-set_same row j k k lt) in
      record {
        given = λ l c. elim (cases_eq c.0 j) [
          | inl at_j ↦
              let read : get_or (set row j k) j l ≡ l = ap (λ (i : ℕ). get_or (set row j k) i l) (sym at_j) ∙ c.2 in
              inr (sym read ∙ get_or-set_same row j k l lt)
          | inr other ↦ inl (c.0, (let low = c.1 in omega (arith, low, n)), sym (get_or-set_other row j c.0 k l other) ∙ c.2)
        ];
        kept = λ p a c. elim (cases_eq c.0 j) [
          | inl at_j ↦
              let l : Link W = record { place = p; walk = a } in
              let read : get_or row j l ≡ l = ap (λ (i : ℕ). get_or row i l) (sym at_j) ∙ c.2 in
              let was : old ≡ l = is ∙ get_or_default row j old l lt ∙ read in
              let to : k.place ≡ p = sym leads ∙ ap (λ (q : Link W). q.place) was in (
                k.walk,
                subst (λ (i : ℕ). Contains (set row j k) (record { place = i; walk = k.walk })) to here,
                subst (λ (q : Link W). IsTrue (C.no_worse k.walk q.walk)) was (other_no_worse C.no_worse ordered old.walk k.walk worse),
              )
          | inr other ↦
              let l : Link W = record { place = p; walk = a } in
              (a, (c.0, (let low = c.1 in omega (arith, low, n)), get_or-set_other row j c.0 k l other ∙ c.2), same a)
        ];
        has = (k.walk, here, same k.walk);
      }

  -- not needed, since one that leads to the same place is no worse
  pub improved_already : (row : List (Link W)) (k : Link W) (j : ℕ) (old : Link W) → j < length row →
      old ≡ get_or row j old → old.place ≡ k.place → C.no_worse old.walk k.walk ≡ true →
      IsImproved C row k row
  improved_already row k j old lt is leads better =
      let here : Contains row old = (j, lt, sym is) in
      record {
        given = λ l c. inl c;
        kept = λ p a c. (a, c, same a);
        has = (old.walk, subst (λ (i : ℕ). Contains row (record { place = i; walk = old.walk })) leads here, better);
      }

  -- the better of both put in the place of one that leads to the same place
  pub improved_better : (row : List (Link W)) (k : Link W) (j : ℕ) (old : Link W) → j < length row →
      old ≡ get_or row j old → old.place ≡ k.place →
      IsImproved C row k (set row j (record { place = k.place; walk = better_walk C old.walk k.walk }))
  improved_better row k j old lt is leads = elim (cases_Bool (C.no_worse old.walk k.walk)) [
    | inl better ↦
        let walk : better_walk C old.walk k.walk ≡ old.walk = ap (λ (b : Bool). cond b old.walk k.walk) better in
        let link : record { place = k.place; walk = better_walk C old.walk k.walk } ≡ old =
        λ i. record { place = (sym leads) i; walk = walk i } in
        let same : set row j (record { place = k.place; walk = better_walk C old.walk k.walk }) ≡ row =
        ap (λ (q : Link W). set row j q) (link ∙ is) ∙ set-get_or row j old in
        subst (λ (r : List (Link W)). IsImproved C row k r) (sym same) (improved_already row k j old lt is leads better)
    | inr worse ↦
        let walk : better_walk C old.walk k.walk ≡ k.walk = ap (λ (b : Bool). cond b old.walk k.walk) worse in
        let link : record { place = k.place; walk = better_walk C old.walk k.walk } ≡ k =
        λ i. record { place = k.place; walk = walk i } in
        subst (λ (q : Link W). IsImproved C row k (set row j q)) (sym link) (improved_set row k j old lt is leads worse)
  ]
