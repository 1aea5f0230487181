-- Offers whose messages change nothing are only noted: what they owe to the offers that were made.
use Rattle.shard_part.proofs.Words.{◌≡◌, ◌≢◌, ◌⊎◌, ℕ, zero, suc, ◌+◌, ◌<◌, ◌≤◌, Bool, true, false, cond, eqb, Option, Some, None, List, [], ◌∷◌, ◌++◌, length, set, get_or, take, refl, sym, ap, ◌∙◌, subst, inl, inr, arith, length-set, get_or-set_same, get_or-set_other, eq-eqb, cases_Bool, cases_eq, cond-true, cond-false, false≢true, IsPermutation, IsPermutation-refl, Algebra, Lawful, Item, MessageOn, Network, WellFormed, is_due, extend_label, network_of, place_in, counted_on, PartData, state_in, token_if, Channels, with_message, offered, offered_all, IsPermutation-to_front, IsPermutation-trans, deficit, as_items, all_busy, IsOff, IsVoid, AreVoid, OfferedOrNoted, more, IsFit, Owes, OwesMany}
use Rattle.std.proofs.Common.{append_assoc}
use Rattle.std.proofs.lemmas.List.Sorted.{IsPermutation-append}
use Rattle.scholten_core.proofs.Basics.{due_same}
use Rattle.shard_part.specs.Repaying.{IsVoidOffer}
use Rattle.shard_part.proofs.Busy.{busy_other}
use Rattle.shard_part.proofs.Offers.{due_idle}
use Rattle.shard_part.proofs.OffersArePumped.{counted_top}
use Rattle.shard_part.proofs.Pumping.{offered_all_same, offered_more}
use Rattle.shard_part.proofs.Repaying.{more_after, more_before, long_busy, busy_off, told_quiet}

-- two flags are raised in either order
swapped : (f : List Bool) (i j : ℕ) → set (set f i true) j true ≡ set (set f j true) i true
swapped [] i j = refl
swapped (b ∷ f) zero zero = refl
swapped (b ∷ f) zero (suc j) = refl
swapped (b ∷ f) (suc i) zero = refl
swapped (b ∷ f) (suc i) (suc j) = ap (λ g. b ∷ g) (swapped f i j)

module _ {V : Type 0} where
  raised : (ms : List (ℕ × V)) (f : List Bool) (b : ℕ) → set (all_busy ms f) b true ≡ all_busy ms (set f b true)
  raised [] f b = refl
  raised (m ∷ ms) f b = swapped (all_busy ms f) m.0 b ∙ ap (λ g. set g m.0 true) (raised ms f b)

pub owed_same : {S V : Type 0} (A : Algebra V) (v n : ℕ) (u q : PartData S V) → OwesMany A v n u q → (q.setup ≡ u.setup) × (q.shard ≡ u.shard)
owed_same {S} {V} A v n u q (ms, k, O) = (ap (λ (w : PartData S V). w.setup) (sym O.rest), ap (λ (w : PartData S V). w.shard) (sym O.rest))

module _ {S V : Type 0} (A : Algebra V) (L : Lawful A) (v : ℕ) where
  abbrev Void : List (ℕ × V) → PartData S V → Type 0
  Void ms q = AreVoid A (network_of q.setup) (place_in q.setup) q.shard (state_in q) v ms

  -- a due arc is none of those that were only noted
  due_off : (q : PartData S V) (b : ℕ) (ms : List (ℕ × V)) → Void ms q → is_due A (network_of q.setup) v (state_in q) b ≡ true → IsOff b ms
  due_off q b [] h d = tt
  due_off q b (m ∷ ms) h d = (
    (λ e. false≢true (sym (told_quiet A (network_of q.setup) L v (state_in q) m.0 h.0.told) ∙ ap (is_due A (network_of q.setup) v (state_in q)) (sym e) ∙ d)),
    due_off q b ms h.2 d,
  )

  off_or_busy : (q : PartData S V) (f : List Bool) (b : ℕ) (ms : List (ℕ × V)) → ((b : ℕ) (x : V) → IsVoid A (network_of q.setup) (place_in q.setup) q.shard (state_in q) v b x → b < length f) → Void ms q
      → IsOff b ms ⊎ (get_or (all_busy ms f) b false ≡ true)
  off_or_busy q f b [] w h = inl tt
  off_or_busy q f b (m ∷ ms) w h = elim (cases_eq b m.0) [
    | inl e ↦ inr (ap (λ k. get_or (set (all_busy ms f) m.0 true) k false) e ∙ get_or-set_same (all_busy ms f) m.0 true false (let l = long_busy ms f in let n = w m.0 m.1 h.0 in omega (arith, l, n)))
    | inr n ↦ elim (off_or_busy q f b ms w h.2) [
      | inl o ↦ inl (n, o)
      | inr t ↦ inr (get_or-set_other (all_busy ms f) m.0 b true false n ∙ t)
    ]
  ]

  within : (q : PartData S V) → WellFormed (network_of q.setup) → v ≢ 0 → IsFit q → (b : ℕ) → (network_of q.setup).tail b ≡ v → (b < length q.busy) × (b < length q.told)
  within q W nz F b t =
      let r : b ≤ length q.setup.diffusion.roads.arcs = W.real b (λ z. nz (sym t ∙ z)) in let l = F.busy in let k = F.told in (omega (arith, r, l), omega (arith, r, k))

  -- nothing is owed yet
  pub owes_none : (p : PartData S V) → IsFit p → Owes A v [] p p
  owes_none p F = record { void = tt; items = IsPermutation-refl p.queue; none = λ _. refl; fit = F; rest = refl }

  -- the offers that were made, by what they owe
  module _ (ms : List (ℕ × V)) (u q : PartData S V) (O : Owes A v ms u q) (W : WellFormed (network_of q.setup)) (nz : v ≢ 0) (b : ℕ) (t : (network_of q.setup).tail b ≡ v) where
    abbrev N : Network
    N = network_of q.setup

    abbrev made : PartData S V
    made = record q { busy = all_busy ms q.busy; queue = u.queue; sent = more (length ms) q.sent }

    -- an arc that is not due
    pub owes_still : is_due A N v (state_in q) b ≡ false → Owes A v ms (offered A v b u) q
    owes_still d = subst (λ w. Owes A v ms w q) (sym O.rest ∙ sym stays) (record { void = O.void; items = O.items; none = O.none; fit = O.fit; rest = refl })
      where
        quiet : is_due A N v (state_in made) b ≡ false
        quiet = elim (off_or_busy q q.busy b ms (λ c x h. (within q W nz O.fit c h.tail).0) O.void) [
          | inl off ↦ due_same A N v (state_in made) (state_in q) b (ap token_if (busy_off ms q.busy b off)) refl refl ∙ d
          | inr busy ↦ elim (cases_Bool (is_due A N v (state_in made) b)) [
            | inl due ↦ absurd (false≢true (sym (due_idle A made v b due) ∙ busy))
            | inr f ↦ f
          ]
        ]

        stays : offered A v b u ≡ u
        stays = subst (λ w. offered A v b w ≡ w) (sym O.rest) (cond-false _ _ _ quiet)

    module _ (due : is_due A N v (state_in q) b ≡ true) where
      off : IsOff b ms
      off = due_off q b ms O.void due

      abbrev l : Option V
      l = (state_in q).label v

      made_due : offered A v b u ≡ with_message b (extend_label A l (N.weight b)) (record made { told = set q.told b l })
      made_due = ap (offered A v b) O.rest
          ∙ cond-true _ _ _ (due_same A N v (state_in made) (state_in q) b (ap token_if (busy_off ms q.busy b off)) refl refl ∙ due)

      -- what was owed is owed, whatever happened on b
      void_on : (f : List Bool) → (deficits : (w : ℕ) → w ≢ v → deficit N w (state_in (record q { busy = f })) ≡ deficit N w (state_in q)) → ((c : ℕ) → c ≢ b → get_or f c false ≡ get_or q.busy c false)
          → (ks : List (ℕ × V)) → IsOff b ks → Void ks q → AreVoid A N (place_in q.setup) q.shard (state_in (record q { busy = f; told = set q.told b l })) v ks
      void_on f deficits flags [] o h = tt
      void_on f deficits flags (m ∷ ks) o h = (
        record {
          tail = h.0.tail;
          other = h.0.other;
          here = h.0.here;
          idle = ap token_if (flags m.0 (λ e. o.0 (sym e))) ∙ h.0.idle;
          told = get_or-set_other q.told b m.0 l None (λ e. o.0 (sym e)) ∙ h.0.told;
          nothing = h.0.nothing;
          at_once = elim h.0.at_once [
            | inl k ↦ inl (k.0, deficits (N.head m.0) h.0.other ∙ k.1)
            | inr k ↦ inr (k.0, λ z. k.1 (sym (deficits (N.head m.0) h.0.other) ∙ z))
          ];
        },
        h.1,
        void_on f deficits flags ks o.1 h.2,
      )

      told_fit : IsFit (record q { told = set q.told b l })
      told_fit = record { labels = O.fit.labels; engagers = O.fit.engagers; busy = O.fit.busy; told = length-set q.told b l ∙ O.fit.told; sent = O.fit.sent; delivered = O.fit.delivered; signalled = O.fit.signalled; accepted = O.fit.accepted }

      more_fit : (qs : List (Item V)) (os : List (List (Item V))) → IsFit (record q { told = set q.told b l; busy = set q.busy b true; queue = qs; outs = os; sent = counted_on 1 q.sent })
      more_fit qs os = record {
        labels = O.fit.labels;
        engagers = O.fit.engagers;
        busy = length-set q.busy b true ∙ O.fit.busy;
        told = length-set q.told b l ∙ O.fit.told;
        sent = counted_top 1 q.sent;
        delivered = O.fit.delivered;
        signalled = O.fit.signalled;
        accepted = O.fit.accepted;
      }

      -- the lists after the item i, which is for the part itself or not
      abbrev chosen : Item V → Bool → List (Item V) → Channels V
      chosen i own xs = cond own (record { queue = xs ++ i ∷ []; outs = q.outs })
          (record { queue = xs; outs = set q.outs (place_in q.setup (N.head b)) (get_or q.outs (place_in q.setup (N.head b)) [] ++ i ∷ []) })

      one : counted_on 1 (more (length ms) q.sent) ≡ more (length ms) (counted_on 1 q.sent)
      one = more_before (length ms) q.sent ∙ sym (more_after (length ms) q.sent)

      still_void : AreVoid A N (place_in q.setup) q.shard (state_in (record q { busy = set q.busy b true; told = set q.told b l })) v ms
      still_void = void_on (set q.busy b true) (λ w n. busy_other q w b true (suc N.arcs) (λ e. n (sym e ∙ t))) (λ c n. get_or-set_other q.busy b c true false n) ms off O.void

      appended : (i : Item V) → IsPermutation (u.queue ++ i ∷ []) ((as_items ms ++ q.queue) ++ i ∷ [])
      appended i = IsPermutation-append u.queue (as_items ms ++ q.queue) (i ∷ []) (i ∷ []) O.items (IsPermutation-refl (i ∷ []))

      sent_on : (i : Item V) (own : Bool) → Owes A v ms
          (record made { told = set q.told b l; busy = set (all_busy ms q.busy) b true; queue = (chosen i own u.queue).queue; outs = (chosen i own u.queue).outs; sent = counted_on 1 (more (length ms) q.sent) })
          (record q { told = set q.told b l; busy = set q.busy b true; queue = (chosen i own q.queue).queue; outs = (chosen i own q.queue).outs; sent = counted_on 1 q.sent })
      sent_on i true = record {
        void = still_void;
        items = subst (IsPermutation (u.queue ++ i ∷ [])) (append_assoc (as_items ms) q.queue (i ∷ [])) (appended i);
        none = λ e. ap (λ xs. xs ++ i ∷ []) (O.none e);
        fit = more_fit (q.queue ++ i ∷ []) q.outs;
        rest = λ j. record q { told = set q.told b l; busy = raised ms q.busy b j; queue = u.queue ++ i ∷ []; sent = one j };
      }
      sent_on i false = record {
        void = still_void;
        items = O.items;
        none = O.none;
        fit = more_fit q.queue (chosen i false q.queue).outs;
        rest = λ j. record q { told = set q.told b l; busy = raised ms q.busy b j; queue = u.queue; outs = (chosen i false q.queue).outs; sent = one j };
      }

      message_on : (o : Option V) → Owes A v ms (with_message b o (record made { told = set q.told b l })) (with_message b o (record q { told = set q.told b l }))
      message_on None = record { void = void_on q.busy (λ w n. refl) (λ c n. refl) ms off O.void; items = O.items; none = O.none; fit = told_fit; rest = refl }
      message_on (Some y) = sent_on (MessageOn b y) (eqb (place_in q.setup (N.head b)) q.shard)

      -- a message is made on it
      owes_more : Owes A v ms (offered A v b u) (offered A v b q)
      owes_more = subst (λ w. Owes A v ms w (offered A v b q)) (sym made_due)
          (subst (Owes A v ms (with_message b (extend_label A l (N.weight b)) (record made { told = set q.told b l }))) (sym (cond-true _ _ _ due)) (message_on (extend_label A l (N.weight b))))

      -- or it is noted, and owed
      owes_noted : (R : IsVoidOffer A q v b) → Owes A v ((b, R.value) ∷ ms) (offered A v b u) (record q { told = set q.told b l })
      owes_noted R = let i = MessageOn b R.value in let own = eq-eqb _ _ R.here in
          subst (λ w. Owes A v ((b, R.value) ∷ ms) w (record q { told = set q.told b l }))
          (sym (made_due ∙ ap (λ o. with_message b o (record made { told = set q.told b l })) R.extended
          ∙ (λ j. record made { told = set q.told b l; busy = set (all_busy ms q.busy) b true; queue = (chosen i (own j) u.queue).queue; outs = (chosen i (own j) u.queue).outs; sent = counted_on 1 (more (length ms) q.sent) })))
          (record {
            void = (
              record { tail = t; other = R.other; here = R.here; idle = ap token_if (due_idle A q v b due); told = get_or-set_same q.told b l None (within q W nz O.fit b t).1; nothing = R.nothing; at_once = R.at_once },
              off,
              void_on q.busy (λ w n. refl) (λ c n. refl) ms off O.void,
            );
            items = IsPermutation-trans _ _ _ (appended i) (IsPermutation-to_front (as_items ms ++ q.queue) i);
            none = λ e. absurd (cc);
            fit = told_fit;
            rest = λ j. record q { told = set q.told b l; busy = set (all_busy ms q.busy) b true; queue = u.queue ++ i ∷ []; sent = more_before (length ms) q.sent j };
          })

  -- one arc more was offered or noted
  one_noted : (n : ℕ) (u q new : PartData S V) (b : ℕ) (noted : Bool) → WellFormed (network_of q.setup) → v ≢ 0 → (network_of q.setup).tail b ≡ v → OwesMany A v n u q → OfferedOrNoted A v b noted q new
      → OwesMany A v (cond noted (suc n) n) (offered A v b u) new
  one_noted n u q new b true W nz t (ms, k, O) (due, R, e) = ((b, R.value) ∷ ms, ap suc k, subst (Owes A v ((b, R.value) ∷ ms) (offered A v b u)) (sym e) (owes_noted ms u q O W nz b t due R))
  one_noted n u q new b false W nz t (ms, k, O) e = (
    ms,
    k,
    subst (Owes A v ms (offered A v b u)) (sym e) (elim (cases_Bool (is_due A (network_of q.setup) v (state_in q) b)) [
      | inl due ↦ owes_more ms u q O W nz b t due
      | inr quiet ↦ subst (Owes A v ms (offered A v b u)) (sym (cond-false _ _ _ quiet)) (owes_still ms u q O W nz b t quiet)
    ]),
  )

  -- after the arcs before it
  pub owes_next : (p mid new : PartData S V) (b k n : ℕ) (xs : List ℕ) (noted : Bool) → k < length xs → b ≡ get_or xs k b → WellFormed (network_of mid.setup) → v ≢ 0 → (network_of mid.setup).tail b ≡ v
      → OwesMany A v n (offered_all A v (take k xs) p) mid → OfferedOrNoted A v b noted mid new
      → (new.setup ≡ p.setup) × (new.shard ≡ p.shard) × OwesMany A v (cond noted (suc n) n) (offered_all A v (take (k + 1) xs) p) new
  owes_next p mid new b k n xs noted l h W nz t H R =
      let before = offered_all A v (take k xs) p in
      let O = subst (λ u. OwesMany A v (cond noted (suc n) n) u new) (offered_more A p before (offered A v b before) v b k xs l h refl refl) (one_noted n before mid new b noted W nz t H R) in
      let s = owed_same A v (cond noted (suc n) n) (offered_all A v (take (k + 1) xs) p) new O in
      let f = offered_all_same A v (take (k + 1) xs) p in (s.0 ∙ f.0, s.1 ∙ f.1, O)
