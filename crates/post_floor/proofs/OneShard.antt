-- With one shard there is one part, and no mailbox is full.
use Rattle.post_floor.proofs.Words.{◌≡◌, ℕ, ◌<◌, Bool, cond, List, [], ◌∷◌, ◌++◌, length, get_or, refl, sym, ap, ◌∙◌, subst, inl, inr, arith, ne_eqb, length-append, cases_eq, nil_from_length, get_elem?, State, Algebra, Item, PartData, SetupData, place_in, IsPlanned, total, is, place_below, sum_zero, sum_below_same, total_append, All, part_weight, all_parts, is_self, View, full, box_count, dest, Slot, flat, box, load_place, in_transit, FloorInvariant}
use Rattle.post_floor.proofs.Opened.{ends_below}

total_short : {X : Type 0} (f : X → ℕ) (xs : List X) → length xs ≡ 0 → total f xs ≡ 0
total_short f xs l = ap (total f) (nil_from_length xs l)

module _ {S V : Type 0} where
  -- parts that are all of shard 0 are as many as are of it
  of_first : (ps : List (PartData S V)) → All (λ (p : PartData S V). p.shard < 1) ps → total (λ (p : PartData S V). is 0 p.shard) ps ≡ length ps
  of_first [] a = refl
  of_first (p ∷ ps) a =
      let z : is 0 p.shard ≡ is 0 0 = ap (is 0) (let e : p.shard ≡ 0 = omega (arith, a.0) in e) in let o = is_self 0 in
      omega (arith, z, o, of_first ps a.1)

module _ {S V : Type 0} (meaning : S → Algebra V) (t : SetupData S) (s : State (Slot V) (View S V)) (r : FloorInvariant meaning t s) (P : IsPlanned t 0) (one : t.plan.shards ≡ 1)
    (before after : List (PartData S V)) (b : PartData S V) (now : flat s.views ≡ before ++ b ∷ after) where
  -- the part has all vertices, and all items under way
  pub record Lone : Type 0 where
    pub all : (v : ℕ) → place_in t v ≡ b.shard
    pub none : (h : ℕ → Item V → ℕ) → in_transit t.plan.shards s.words s.homes h ≡ 0
    pub weighs : (h : ℕ → Item V → ℕ) → total (part_weight h) (before ++ b ∷ after) ≡ part_weight h b

  low : All (λ (p : PartData S V). p.shard < 1) (before ++ b ∷ after)
  low = subst (λ n. All (λ (p : PartData S V). p.shard < n) (before ++ b ∷ after)) one (subst (All (λ (p : PartData S V). p.shard < t.plan.shards)) now r.below)

  alone : length (before ++ b ∷ after) ≡ 1
  alone = sym (of_first (before ++ b ∷ after) low) ∙ ap (total (λ (p : PartData S V). is 0 p.shard)) (sym now) ∙ r.whole 0 (omega (arith, one))

  not_full : (k : ℕ) → k < box_count t.plan.shards → (h : ℕ → Item V → ℕ) → box (h (dest t.plan.shards k)) (get_or s.words k 0) (get_elem? s.homes k) ≡ 0
  not_full k lt h = elim (cases_eq (get_or s.words k 0) full) [
    | inl f ↦ absurd ((r.boxes k lt).apart f (let e = ends_below t.plan.shards k lt in let x = e.0 in let y = e.1 in omega (arith, x, y, one)))
    | inr ne ↦ ap (λ (c : Bool). cond c (load_place (h (dest t.plan.shards k)) (get_elem? s.homes k)) 0) (ne_eqb (get_or s.words k 0) full ne)
  ]

  pub lone : Lone
  lone = record {
    all = λ v. let l = place_below t 0 P v in let m = (all_parts (λ (p : PartData S V). p.shard < 1) before (b ∷ after) low).1.0 in omega (arith, l, m, one);
    none = λ h. sum_below_same (λ k. box (h (dest t.plan.shards k)) (get_or s.words k 0) (get_elem? s.homes k)) (λ _. 0) (box_count t.plan.shards) (λ k lt. not_full k lt h)
        ∙ sum_zero (λ _. 0) (box_count t.plan.shards) (λ _. refl);
    weighs = λ h. (
        let n = alone in let l = length-append before (b ∷ after) in
        let x = total_short (part_weight h) before (omega (arith, n, l)) in let y = total_short (part_weight h) after (omega (arith, n, l)) in
        omega (arith, x, y, total_append (part_weight h) before (b ∷ after)));
  }
