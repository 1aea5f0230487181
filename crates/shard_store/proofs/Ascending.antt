-- An ascending list of just the arcs out of v is the one list.
use Rattle.shard_store.proofs.Words.{◌≡◌, ◌≢◌, ℕ, zero, suc, ◌+◌, ◌<◌, ◌≤◌, eqb, List, [], ◌∷◌, refl, sym, ap, ◌∙◌, inl, inr, arith, eq-eqb, ne_eqb, Contains, cases_eq, cond-true, cond-false, Network, arcs_from}
use Rattle.road_graph.proofs.Lists.{not_in_empty, here, later, head_or_tail, listed_above}
use Rattle.road_graph.specs.GraphData.{IsAscendingFrom}

module _ (N : Network) where
  pub arcs_are : (v k n low : ℕ) (xs : List ℕ) → IsAscendingFrom low xs → ((b : ℕ) → Contains xs b → (N.tail b ≡ v) × (k ≤ b) × (b < k + n))
      → ((b : ℕ) → N.tail b ≡ v → k ≤ b → b < k + n → Contains xs b) → xs ≡ arcs_from N v k n
  arcs_are v k zero low [] s only all = refl
  arcs_are v k zero low (x ∷ xs) s only all = absurd (let o = only x (here x xs) in let l = o.1 in let h = o.2 in omega (arith, l, h))
  arcs_are v k (suc n) low xs s only all = elim (cases_eq (N.tail k) v) [
    | inl e ↦ leaves (λ x ys a o l. arcs_are v (suc k) n x ys a o l) low xs s only all e
        ∙ sym (cond-true (eqb (N.tail k) v) (k ∷ arcs_from N v (suc k) n) (arcs_from N v (suc k) n) (eq-eqb (N.tail k) v e))
    | inr ne ↦ arcs_are v (suc k) n low xs s
        (λ b l. let o = only b l in let d : b ≢ k = λ q. ne (ap N.tail (sym q) ∙ o.0) in let g = o.1 in let h = o.2 in (o.0, omega (arith, d, g), omega (arith, h)))
        (λ b t g h. all b t (omega (arith, g)) (omega (arith, h)))
        ∙ sym (cond-false (eqb (N.tail k) v) (k ∷ arcs_from N v (suc k) n) (arcs_from N v (suc k) n) (ne_eqb (N.tail k) v ne))
  ]
    where
      leaves : ((x : ℕ) (ys : List ℕ) → IsAscendingFrom x ys → ((b : ℕ) → Contains ys b → (N.tail b ≡ v) × (suc k ≤ b) × (b < suc k + n))
          → ((b : ℕ) → N.tail b ≡ v → suc k ≤ b → b < suc k + n → Contains ys b) → ys ≡ arcs_from N v (suc k) n) →
          (low : ℕ) (xs : List ℕ) → IsAscendingFrom low xs → ((b : ℕ) → Contains xs b → (N.tail b ≡ v) × (k ≤ b) × (b < k + suc n))
          → ((b : ℕ) → N.tail b ≡ v → k ≤ b → b < k + suc n → Contains xs b) → N.tail k ≡ v → xs ≡ k ∷ arcs_from N v (suc k) n
      leaves again low [] s only all e = absurd (not_in_empty k (all k e (omega arith) (omega arith)))
      leaves again low (x ∷ ys) s only all e =
          let x_is : x ≡ k = elim (head_or_tail x k ys (all k e (omega arith) (omega arith))) [
            | inl q ↦ q
            | inr m ↦ absurd (let r = listed_above x ys k s.1 m in let h = (only x (here x ys)).1 in omega (arith, r, h))
          ] in
          (λ i. x_is i ∷ again x ys s.1 (λ b l. let o = only b (later x b ys l) in let r = listed_above x ys b s.1 l in let h = o.2 in (o.0, omega (arith, r, x_is), omega (arith, h)))
          (λ b t g h. elim (head_or_tail x b ys (all b t (omega (arith, g)) (omega (arith, h)))) [ inl q ↦ absurd (omega (arith, q, x_is, g)) | inr m ↦ m ]) i)
