-- Mailboxes that are tried one after the other.
use Rattle.station.proofs.Words.{◌≡◌, ℕ, zero, suc, ◌+◌, ◌-◌, ◌*◌, ◌<◌, ◌≤◌, Bool, true, false, List, [], ◌∷◌, ◌++◌, length, set, get_or, refl, sym, ap, ◌∙◌, subst, inl, inr, arith, length-append, published_to, PartData, SentOff, WordStep, at, if_found, IsTry, AreTries, used}
use Rattle.std.proofs.lemmas.List.{get_or-set_other}
use Rattle.post_floor.specs.Boxes.{next_slot}
use Rattle.station.proofs.Counted.{before_own, after_own}

-- all these are below n
abbrev pub AreBelow : ℕ → List ℕ → Type 0
AreBelow n [] = Unit
AreBelow n (j ∷ js) = (j < n) × AreBelow n js

below_more : (n : ℕ) (b : Bool) (js : List ℕ) → AreBelow n js → AreBelow (suc n) (js ++ if_found b n)
below_more n true [] t = (omega arith, tt)
below_more n false [] t = tt
below_more n b (j ∷ js) (l, t) = (omega (arith, l), below_more n b js t)

-- one shard more was used, or none
pub used_more : (b : Bool) (j : ℕ) (js next : List ℕ) → used (js ++ if_found b j) next ≡ used (if_found b j) (used js next)
used_more b j [] next = refl
used_more b j (i ∷ js) next = used_more b j js (set next i (next_slot (get_or next i 0)))

-- the slot of a shard that was not used stays the next one
pub used_other : (n : ℕ) (js next : List ℕ) → AreBelow n js → get_or (used js next) n 0 ≡ get_or next n 0
used_other n [] next t = refl
used_other n (j ∷ js) next (l, t) = used_other n js (set next j (next_slot (get_or next j 0))) t ∙ get_or-set_other next j n (next_slot (get_or next j 0)) 0 (λ e. absurd (omega (arith, l, e)))

module _ {S V : Type 0} where
  -- the outbox to a shard to which nothing was sent off is as it was
  pub sent_other : (n : ℕ) (js : List ℕ) (p q : PartData S V) → SentOff js p q → AreBelow n js → get_or q.outs n [] ≡ get_or p.outs n []
  sent_other n [] p q e t = ap (λ (z : PartData S V). get_or z.outs n []) (sym e)
  sent_other n (j ∷ js) p q s (l, t) = sent_other n js (published_to j p) q s.2 t ∙ get_or-set_other p.outs j n [] [] (λ e. absurd (omega (arith, l, e)))

module _ (wanted stored : ℕ) (due : ℕ → Type 0) (box : ℕ → ℕ) where
  pub tries_below : (n : ℕ) (found : List ℕ) (before after : List WordStep) → AreTries wanted stored due box n found before after → AreBelow n found
  tries_below zero found before after t = subst (AreBelow 0) (sym t.0) tt
  tries_below (suc n) found before after (b, earlier, steps, t, one, e) = subst (AreBelow (suc n)) (sym e) (below_more n b earlier (tries_below n earlier before steps t))

  -- two steps for each at most
  one_few : (d : Type 0) (k : ℕ) (b : Bool) (before after : List WordStep) → IsTry wanted stored d k b before after → (length after ≤ length before + 2) × ((d → ⊥) → length after ≡ length before)
  one_few d k true before after (o, e) = let l = ap (λ (xs : List WordStep). length xs) e ∙ length-append before (at k wanted ∷ at k stored ∷ []) in (omega (arith, l), λ not_due. absurd (not_due o))
  one_few d k false before after t = elim t [
    | inl h ↦ (let l = ap (λ (xs : List WordStep). length xs) h.3 ∙ length-append before (at k h.1 ∷ []) in (omega (arith, l), λ not_due. absurd (not_due h.0)))
    | inr h ↦ (let l = ap (λ (xs : List WordStep). length xs) h.1 in (omega (arith, l), λ not_due. l))
  ]

  few : (own : ℕ) → (due own → ⊥) → (n : ℕ) (found : List ℕ) (before after : List WordStep) → AreTries wanted stored due box n found before after
      → (n ≤ own → length after ≤ length before + 2 * n) × (own < n → length after + 2 ≤ length before + 2 * n)
  few own not_due zero found before after t = let l = ap (λ (xs : List WordStep). length xs) t.1 in (λ _. omega (arith, l), λ x. absurd (omega (arith, x)))
  few own not_due (suc n) found before after (b, earlier, steps, t, one, e) =
      let r = few own not_due n earlier before steps t in let o = one_few (due n) (box n) b steps after one in (
        (λ l. let z = before_own own n (length before) (length steps) (length after) r.0 o.0 (omega (arith, l)) in omega (arith, z)),
        (λ l. let z = after_own own n (length before) (length steps) (length after) r.0 r.1 o.0 (λ q. o.1 (λ d. not_due (subst due q d))) (omega (arith, l)) in omega (arith, z)),
      )

  -- two steps for each other shard at most
  pub few_tries : (own : ℕ) → (due own → ⊥) → (n : ℕ) → own < n → (found : List ℕ) (before after : List WordStep)
      → AreTries wanted stored due box n found before after → length after ≤ length before + 2 * (n - 1)
  few_tries own not_due n l found before after t = let r = (few own not_due n found before after t).1 l in omega (arith, r, l)
