-- All parts as they are opened show the opening.
use Rattle.shard_part.proofs.Words.{◌≡◌, ◌≢◌, ℕ, zero, suc, ◌+◌, ◌<◌, ◌≤◌, true, ◌⊎◌, refl, sym, ap, ◌∙◌, inl, inr, arith, eq-eqb, ne_eqb, cases_eq, Algebra, Item, MessageOn, opening, one_if, SetupData, network_of, place_in, IsPlanned, PartData, total, is, part_weight, All, HoldsTables, RepresentsIn, first_items, opened_part, opened_parts, place_below}
use Rattle.shard_part.proofs.Opened.{opened_weight, opening_weight, opened_holds}

module _ {S : Type 0} (t : SetupData S) (P : IsPlanned t 0) where
  pub planned_each : (s : ℕ) → s < t.plan.shards → IsPlanned t s
  planned_each s l = record { roads = P.roads; source = P.source; plan = P.plan; covers = P.covers; shard = l }

module _ {S V : Type 0} (A : Algebra V) (t : SetupData S) where
  pub all_same : (k n : ℕ) → All (λ (p : PartData S V). p.setup ≡ t) (opened_parts A t k n)
  all_same k zero = tt
  all_same k (suc n) = (refl, all_same (suc k) n)

  -- no shard before the first has a part
  pub shards_past : (j k n : ℕ) → j < k → total (λ (p : PartData S V). is j p.shard) (opened_parts A t k n) ≡ 0
  shards_past j k zero l = refl
  shards_past j k (suc n) l = let r = shards_past j (suc k) n (omega (arith, l)) in let z = ap one_if (ne_eqb j k (λ e. omega (arith, e, l))) in omega (arith, r, z)

module _ {S V : Type 0} (A : Algebra V) (t : SetupData S) (P : IsPlanned t 0) where
  all_hold : (k n : ℕ) → k + n ≤ t.plan.shards → All (HoldsTables A (network_of t) (place_in t) (opening A (network_of t))) (opened_parts A t k n)
  all_hold k zero l = tt
  all_hold k (suc n) l = ((opened_holds A t k (planned_each t P k (omega (arith, l)))).tables, all_hold (suc k) n (omega (arith, l)))

  -- the first message weighs at the source's part alone
  weight_at : (h : ℕ → Item V → ℕ) (k : ℕ) → k < t.plan.shards
      → ((place_in t 0 ≡ k) × (part_weight h (opened_part A t k) ≡ h (place_in t 0) (MessageOn 0 A.origin)))
      ⊎ ((place_in t 0 ≢ k) × (part_weight h (opened_part A t k) ≡ 0))
  weight_at h k l = elim (cases_eq (place_in t 0) k) [
    | inl e ↦ inl (e, opened_weight A t k (planned_each t P k l) h ∙ ap (λ f. total (h k) (first_items A f)) (eq-eqb (place_in t 0) k e) ∙ one (h k) ∙ ap (λ j. h j (MessageOn 0 A.origin)) (sym e))
    | inr n ↦ inr (n, opened_weight A t k (planned_each t P k l) h ∙ ap (λ f. total (h k) (first_items A f)) (ne_eqb (place_in t 0) k n))
  ]
    where
      one : (f : Item V → ℕ) → total f (first_items A true) ≡ f (MessageOn 0 A.origin)
      one f = omega arith

  weights_past : (h : ℕ → Item V → ℕ) (k n : ℕ) → k + n ≤ t.plan.shards → place_in t 0 < k → total (part_weight h) (opened_parts A t k n) ≡ 0
  weights_past h k zero l m = refl
  weights_past h k (suc n) l m = let r = weights_past h (suc k) n (omega (arith, l)) (omega (arith, m)) in elim (weight_at h k (omega (arith, l))) [
    | inl w ↦ absurd (let e = w.0 in omega (arith, e, m))
    | inr w ↦ (let z = w.1 in omega (arith, r, z))
  ]

  weights_all : (h : ℕ → Item V → ℕ) (k n : ℕ) → k + n ≤ t.plan.shards → k ≤ place_in t 0 → place_in t 0 < k + n
      → total (part_weight h) (opened_parts A t k n) ≡ h (place_in t 0) (MessageOn 0 A.origin)
  weights_all h k zero l a b = absurd (omega (arith, a, b))
  weights_all h k (suc n) l a b = elim (weight_at h k (omega (arith, l))) [
    | inl w ↦ (let e = w.0 in let z = w.1 in let r = weights_past h (suc k) n (omega (arith, l)) (omega (arith, e)) in omega (arith, z, r))
    | inr w ↦ (let e = w.0 in let z = w.1 in let r = weights_all h (suc k) n (omega (arith, l)) (omega (arith, a, e)) (omega (arith, b)) in omega (arith, z, r))
  ]

  shards_once : (j k n : ℕ) → total (λ (p : PartData S V). is j p.shard) (opened_parts A t k n) ≤ 1
  shards_once j k zero = omega arith
  shards_once j k (suc n) = elim (cases_eq j k) [
    | inl e ↦ (let r = shards_past A t j (suc k) n (omega (arith, e)) in let z = ap one_if (eq-eqb j k e) in omega (arith, r, z))
    | inr ne ↦ (let r = shards_once j (suc k) n in let z = ap one_if (ne_eqb j k ne) in omega (arith, r, z))
  ]

  pub opened_show : (mail : (ℕ → Item V → ℕ) → ℕ) → ((h : ℕ → Item V → ℕ) → mail h ≡ 0) → RepresentsIn A (network_of t) (place_in t) (opened_parts A t 0 t.plan.shards) mail (opening A (network_of t))
  opened_show mail none = record {
    tables = all_hold 0 t.plan.shards (omega arith);
    weighs = λ h. (let w = weights_all h 0 t.plan.shards (omega arith) (omega arith) (let b = place_below t 0 P 0 in omega (arith, b)) in
        let f = opening_weight A t 0 P h in let z = none h in omega (arith, w, f, z));
    apart = λ j. shards_once j 0 t.plan.shards;
  }

  pub opened_same : All (λ (p : PartData S V). p.setup ≡ t) (opened_parts A t 0 t.plan.shards)
  opened_same = all_same A t 0 t.plan.shards
