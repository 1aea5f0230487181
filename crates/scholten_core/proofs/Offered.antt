-- The loop of pumping: after the first k outgoing arcs.
use Rattle.scholten_core.proofs.Words.{◌≡◌, ◌≢◌, ℕ, ◌+◌, ◌<◌, List, length, get_or, sym, ap, ◌∙◌, subst, inl, inr, arith, cases_eq, cond-false, Algebra, Network, CoreState, pump, pump_one}
use Rattle.scholten_core.proofs.Basics.{put-at, put-other, not_due, pumped_same}

module _ {V : Type 0} (A : Algebra V) (N : Network) where
  pub record Offered (v : ℕ) (xs : List ℕ) (k : ℕ) (old new : CoreState V) : Type 0 where
    pub label : new.label ≡ old.label
    pub engager : new.engager ≡ old.engager
    pub done : (j : ℕ) → j < k → (new.token (get_or xs j 0) ≡ (pump A N v old).token (get_or xs j 0)) × (new.told (get_or xs j 0) ≡ (pump A N v old).told (get_or xs j 0))
    pub left : (b : ℕ) → ((j : ℕ) → j < k → get_or xs j 0 ≢ b) → (new.token b ≡ old.token b) × (new.told b ≡ old.told b)

  pub offered_more : (v : ℕ) (xs : List ℕ) (k : ℕ) (old new : CoreState V) → ((j : ℕ) → j < k → get_or xs j 0 ≢ get_or xs k 0) →
      Offered v xs k old new → Offered v xs (k + 1) old (pump_one A N v (get_or xs k 0) new)
  offered_more v xs k old new apart O =
      let b = get_or xs k 0 in
      let same = O.left (get_or xs k 0) (λ j l. apart j l) in
      let p = pumped_same A N v new old (get_or xs k 0) same.0 same.1 (ap (λ f. f v) O.label) in
      record {
        label = O.label;
        engager = O.engager;
        done = λ j l. elim (cases_eq (get_or xs j 0) (get_or xs k 0)) [
          | inl e ↦ (
            put-at new.token (get_or xs k 0) ((pump A N v new).token (get_or xs k 0)) (get_or xs j 0) e ∙ p.0 ∙ ap (pump A N v old).token (sym e),
            put-at new.told (get_or xs k 0) ((pump A N v new).told (get_or xs k 0)) (get_or xs j 0) e ∙ p.1 ∙ ap (pump A N v old).told (sym e),
          )
          | inr n ↦ elim (cases_eq j k) [
            | inl e ↦ absurd (n (ap (λ m. get_or xs m 0) e))
            | inr m ↦ (let d = O.done j (omega arith) in (
              put-other new.token (get_or xs k 0) ((pump A N v new).token (get_or xs k 0)) (get_or xs j 0) n ∙ d.0,
              put-other new.told (get_or xs k 0) ((pump A N v new).told (get_or xs k 0)) (get_or xs j 0) n ∙ d.1,
            ))
          ]
        ];
        left = λ b h.
            let n : b ≢ get_or xs k 0 = (λ e. h k (omega arith) (sym e)) in
            let d = O.left b (λ j l. h j (omega arith)) in (
              put-other new.token (get_or xs k 0) ((pump A N v new).token (get_or xs k 0)) b n ∙ d.0,
              put-other new.told (get_or xs k 0) ((pump A N v new).told (get_or xs k 0)) b n ∙ d.1,
            );
      }

  pub offered_all : (v : ℕ) (xs : List ℕ) (old new : CoreState V) → ((b : ℕ) → N.tail b ≡ v → (j : ℕ) × (j < length xs) × (get_or xs j 0 ≡ b)) →
      ((j : ℕ) → j < length xs → N.tail (get_or xs j 0) ≡ v) → Offered v xs (length xs) old new → new ≡ pump A N v old
  offered_all v xs old new all leads O =
      let each = λ (b : ℕ). elim (cases_eq (N.tail b) v) as (λ _. (new.token b ≡ (pump A N v old).token b) × (new.told b ≡ (pump A N v old).told b)) [
        | inl e ↦ (let j = all b e in subst (λ a. (new.token a ≡ (pump A N v old).token a) × (new.told a ≡ (pump A N v old).told a)) j.2 (O.done j.0 j.1))
        | inr n ↦ (let d = O.left b (λ j l e. n (ap N.tail (sym e) ∙ leads j l)) in
            (d.0 ∙ sym (cond-false _ _ _ (not_due A N v old b n)), d.1 ∙ sym (cond-false _ _ _ (not_due A N v old b n))))
      ] in
      (λ i. record { label = O.label i; engager = O.engager i; token = λ b. (each b).0 i; told = λ b. (each b).1 i })
