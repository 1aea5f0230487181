-- What a part knows by itself stays so with each item.
use Rattle.shard_part.proofs.Words.{◌≡◌, ℕ, ◌+◌, ◌<◌, cond, [], ◌∷◌, ◌++◌, length, set, get_or, refl, sym, ap, subst, inl, inr, arith, eq-eqb, ne_eqb, get_or-set_same, get_or-set_other, cases_eq, Item, Algebra, Network, WellFormed, one_if, item_arc, PartData, state_in, IsArc, vertex_of, maker_of, Channels, channels_of, All, part_weight, is, engages, idles, LocalInvariant, route}
use Rattle.shard_part.proofs.Showing.{all_append}
use Rattle.shard_part.proofs.Routed.{routed}

module _ {V : Type 0} (N : Network) (place : ℕ → ℕ) (s : ℕ) where
  abbrev pub Here : Item V → Type 0
  Here i = (place (vertex_of N i) ≡ s) × IsArc N (item_arc i)

  abbrev pub Mine : Item V → Type 0
  Mine i = place (maker_of N i) ≡ s

  abbrev pub Gone : ℕ → Item V → Type 0
  Gone t i = (place (vertex_of N i) ≡ t) × (place (maker_of N i) ≡ s) × IsArc N (item_arc i)

  abbrev pub Sorted : Channels V → Type 0
  Sorted l = All Here l.queue × ((t : ℕ) → All (Gone t) (get_or l.outs t []))

  pub route_sorted : (i : Item V) (l : Channels V) → ((v : ℕ) → place v < length l.outs) → IsArc N (item_arc i) → Mine i → Sorted l → Sorted (route N place s i l)
  route_sorted i l w a m S = elim (cases_eq (place (vertex_of N i)) s) [
    | inl e ↦ subst (λ t. Sorted (cond t (record { queue = l.queue ++ i ∷ []; outs = l.outs })
        (record { queue = l.queue; outs = set l.outs (place (vertex_of N i)) (get_or l.outs (place (vertex_of N i)) [] ++ i ∷ []) })))
        (sym (eq-eqb (place (vertex_of N i)) s e)) (all_append Here l.queue (i ∷ []) S.0 ((e, a), tt), S.1)
    | inr n ↦ subst (λ t. Sorted (cond t (record { queue = l.queue ++ i ∷ []; outs = l.outs })
        (record { queue = l.queue; outs = set l.outs (place (vertex_of N i)) (get_or l.outs (place (vertex_of N i)) [] ++ i ∷ []) })))
        (sym (ne_eqb (place (vertex_of N i)) s n)) (
          S.0,
          λ t. elim (cases_eq t (place (vertex_of N i))) [
            | inl e ↦ subst (λ k. All (Gone k) (get_or (set l.outs (place (vertex_of N i)) (get_or l.outs (place (vertex_of N i)) [] ++ i ∷ [])) k [])) (sym e)
                (subst (All (Gone (place (vertex_of N i)))) (sym (get_or-set_same l.outs (place (vertex_of N i)) (get_or l.outs (place (vertex_of N i)) [] ++ i ∷ []) [] (w (vertex_of N i))))
                (all_append (Gone (place (vertex_of N i))) (get_or l.outs (place (vertex_of N i)) []) (i ∷ []) (S.1 (place (vertex_of N i))) ((refl, m, a), tt)))
            | inr ne ↦ subst (All (Gone t)) (sym (get_or-set_other l.outs (place (vertex_of N i)) t (get_or l.outs (place (vertex_of N i)) [] ++ i ∷ []) [] ne)) (S.1 t)
          ],
        )
  ]

-- One item more, on an arc of which nothing is known: the part stays sound. So do the moves of the
-- running code, each by itself.
pub put_sound : {S V : Type 0} (A : Algebra V) (N : Network) (place : ℕ → ℕ) → WellFormed N → (p : PartData S V) (i : Item V)
    → LocalInvariant N place p → IsArc N (item_arc i) → place (maker_of N i) ≡ p.shard →
    part_weight (λ _ j. is (item_arc i) (item_arc j)) p + engages N place p.shard (state_in p) (item_arc i) + idles N place p.shard (state_in p) (item_arc i) ≡ 0 →
    LocalInvariant N place (record p { queue = (route N place p.shard i (channels_of p)).queue; outs = (route N place p.shard i (channels_of p)).outs })
put_sound A N place W p i H r m z =
    let R = routed N place p.shard (i ∷ []) (channels_of p) H.wide in
    let T = route_sorted N place p.shard i (channels_of p) H.wide r m (H.here, H.gone) in record {
      once = λ b. (let w = R.weighs (λ _ j. is b (item_arc j)) in let o = H.once b in elim (cases_eq b (item_arc i)) [
        | inl e ↦ (let one : is b (item_arc i) ≡ 1 = ap one_if (eq-eqb b (item_arc i) e) in
            let z2 : part_weight (λ _ j. is b (item_arc j)) p + engages N place p.shard (state_in p) b + idles N place p.shard (state_in p) b
            ≡ 0 = subst (λ k. part_weight (λ _ j. is k (item_arc j)) p + engages N place p.shard (state_in p) k + idles N place p.shard
            (state_in p) k ≡ 0) (sym e) z in
            omega (arith, w, o, one, z2))
        | inr n ↦ (let none : is b (item_arc i) ≡ 0 = ap one_if (ne_eqb b (item_arc i) n) in omega (arith, w, o, none))
      ]);
      leads = H.leads;
      here = T.0;
      gone = T.1;
      wide = λ v. let u = H.wide v in let k = R.long in omega (arith, u, k);
    }
