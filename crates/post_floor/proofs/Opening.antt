-- The table as it is opened keeps the rule.
use Rattle.post_floor.proofs.Words.{◌≡◌, ℕ, zero, suc, ◌+◌, ◌<◌, ◌≤◌, true, false, List, [], ◌∷◌, length, get_or, map, replicate, refl, sym, ap, ◌∙◌, subst, inl, inr, arith, eq-eqb, ne_eqb, append-nil, cases_eq, Option, some, get_elem?, at_map, Algebra, Item, one_if, PartData, SetupData, place_in, IsPlanned, total, is, All, Represents, core_of, OwnOutboxIsEmpty, opened_parts, sum_zero, sum_below_same, place_below, View, box_count, mailbox, dest, Slot, flat, CountsNone, box, in_transit, empty_slot, words_between, MailboxInvariant, FloorInvariant, knows}
use Rattle.std.proofs.lemmas.List.{length-replicate, length-map}
use Rattle.atomic_table.specs.Table.{opening}
use Rattle.shard_part.proofs.OpenedAll.{opened_show, opened_same, shards_past}
use Rattle.post_floor.proofs.Opened.{get_same}
use Rattle.post_floor.proofs.Order.{fresh_order}
use Rattle.post_floor.proofs.Ordering.{only}

module _ {S V : Type 0} (A : Algebra V) (t : SetupData S) where
  -- each shard has a part
  pub one_each : (j k n : ℕ) → k ≤ j → j < k + n → total (λ (p : PartData S V). is j p.shard) (opened_parts A t k n) ≡ 1
  one_each j k zero l m = absurd (omega (arith, l, m))
  one_each j k (suc n) l m = elim (cases_eq j k) [
    | inl e ↦ (let r = shards_past A t j (suc k) n (omega (arith, e)) in let z = ap one_if (eq-eqb j k e) in omega (arith, r, z))
    | inr ne ↦ (let r = one_each j (suc k) n (omega (arith, l, ne)) (omega (arith, m)) in let z = ap one_if (ne_eqb j k ne) in omega (arith, r, z))
  ]

  sent_are : (k n : ℕ) → total (λ (p : PartData S V). p.sent) (opened_parts A t k n) ≡ total (λ (p : PartData S V). is (place_in t 0) p.shard) (opened_parts A t k n)
  sent_are k zero = refl
  sent_are k (suc n) = omega (arith, sent_are (suc k) n)

  all_below : (m k n : ℕ) → k + n ≤ m → All (λ (p : PartData S V). p.shard < m) (opened_parts A t k n)
  all_below m k zero l = tt
  all_below m k (suc n) l = ((omega (arith, l)), all_below m (suc k) n (omega (arith, l)))

  all_own : (k n : ℕ) → All (λ (p : PartData S V). OwnOutboxIsEmpty p) (opened_parts A t k n)
  all_own k zero = tt
  all_own k (suc n) = (get_same [] t.plan.shards k, all_own (suc k) n)

module _ {S V : Type 0} (meaning : S → Algebra V) (t : SetupData S) (P : IsPlanned t 0) where
  pub opens : (ws : List ℕ) (xs : List (Slot V)) → ws ≡ replicate (box_count t.plan.shards + 1) 0 → length xs ≡ box_count t.plan.shards
      → ((k : ℕ) → k < box_count t.plan.shards → get_elem? xs k ≡ some (empty_slot t k))
      → FloorInvariant meaning t (opening ws xs (knows t.plan.shards (opened_parts (meaning t.diffusion.algebra) t 0 t.plan.shards)))
  opens ws xs zeros wide empty =
      let n : ℕ = t.plan.shards in
      let ps : List (PartData S V) = opened_parts (meaning t.diffusion.algebra) t 0 n in
      let v : View S V = knows n ps in
      let hs : List (Option (Slot V)) = map some xs in
      let zero_at : (k : ℕ) → get_or ws k 0 ≡ 0 = λ k. ap (λ (z : List ℕ). get_or z k 0) zeros ∙ get_same 0 (box_count n + 1) k in
      let none' : (h : ℕ → Item V → ℕ)
      → in_transit n ws hs h ≡ 0 =
      λ h. sum_below_same (λ k. box (h (dest n k)) (get_or ws k 0) (get_elem? hs k)) (λ _. 0) (box_count n)
      (λ k lt. ap (λ (z : ℕ). box (h (dest n k)) z (get_elem? hs k)) (zero_at k)) ∙ sum_zero (λ _. 0) (box_count n) (λ _. refl) in
      let all : flat (v ∷ []) ≡ ps = append-nil ps in record {
        events = [];
        shown = subst (λ (l : List (PartData S V)). Represents meaning t l (in_transit n ws hs) (core_of meaning t [])) (sym all)
            (record { same = opened_same (meaning t.diffusion.algebra) t P; shown = opened_show (meaning t.diffusion.algebra) t P (in_transit n ws hs) none' });
        whole = λ j lt. ap (total (λ (p : PartData S V). is j p.shard)) all ∙ one_each (meaning t.diffusion.algebra) t j 0 n (omega arith) (omega (arith, lt));
        below = subst (All (λ (p : PartData S V). p.shard < n)) (sym all) (all_below (meaning t.diffusion.algebra) t n 0 n (omega arith));
        idle = λ id u a none''. subst (λ (z : View S V). z.parts ≡ [] → CountsNone z) (only v id u a)
            (λ q. record { sent = ap (total (λ (p : PartData S V). p.sent)) q; delivered = refl; signalled = refl; accepted = refl }) none'';
        counts = record {
          sent = (let b = one_each (meaning t.diffusion.algebra) t (place_in t 0) 0 n (omega arith) (let l = place_below t 0 P 0 in omega (arith, l)) in
              omega (arith, sent_are (meaning t.diffusion.algebra) t 0 n, b));
          delivered = refl;
          signalled = refl;
          accepted = refl;
        };
        boxes = λ k lt. subst (λ (z : ℕ). MailboxInvariant t k z (get_elem? hs k) 0 0) (sym (zero_at k)) (record {
          low = omega arith;
          fills_is = refl;
          reads_is = refl;
          empty_home = λ _. at_map (λ y. some y) xs k (empty_slot t k) (empty k lt);
          full_home = λ e. absurd (omega (arith, e));
          apart = λ e. absurd (omega (arith, e));
          out = λ z. elim z [ inl e ↦ absurd (omega (arith, e)) | inr e ↦ absurd (omega (arith, e)) ];
        });
        own = subst (All (λ (p : PartData S V). OwnOutboxIsEmpty p)) (sym all) (all_own (meaning t.diffusion.algebra) t 0 n);
        best = λ _ _. tt;
        done = λ e. absurd (let z = zero_at (box_count n) in omega (arith, e, z));
        seen = λ id u a sn. let f : false ≡ true = ap (λ (z : View S V). z.seen) (only v id u a) ∙ sn in absurd cc;
        wide = ap length zeros ∙ length-replicate (box_count n + 1) 0;
        roomy = length-map xs some ∙ wide;
        ordered = λ i j u w p q a b' _ _ _. fresh_order (words_between n ws p.shard q.shard) (get_or w.next_read p.shard 0) (get_or u.next_fill q.shard 0)
            (ap (λ (z : View S V). get_or z.next_read p.shard 0) (sym (only v j w b')) ∙ get_same 0 n p.shard)
            (ap (λ (z : View S V). get_or z.next_fill q.shard 0) (sym (only v i u a)) ∙ get_same 0 n q.shard) (λ x. zero_at (mailbox n p.shard q.shard x));
      }
