-- A vertex settles: the arcs offered and the rest that follows are those of the whole state.
use Rattle.std.proofs.Common.{◌≡◌, ℕ, ◌<◌, ◌≤◌, Bool, true, false, Option, Some, None, List, [], ◌∷◌, ◌++◌, length, set, get_or, append-nil, refl, sym, ap, ◌∙◌, subst, inl, inr, get_or-set_same, get_or-set_other, Contains}
use Rattle.shard_part.proofs.Words.{cond-false, Item, SignalOn, Algebra, CoreState, is_idle, is_due, pump, out_idle, Agree, put_tells, out_idle_agree, counted_on, top, PartData, state_in, network_of, place_in, channels_of, message_weight, signal_weight, total, routes, rest_here, settle_here, offered_all, rested, rested_by}
use Rattle.scholten_core.specs.Items.{pump_made, rest_made, settle_made, IsDistinct}
use Rattle.shard_part.proofs.Routed.{routes-append}
use Rattle.shard_part.proofs.OffersArePumped.{counted_none, counted_append, counted_top, listed_or, made_no_back, Offers, offers}

abbrev pub everywhere : ℕ → Bool
everywhere v = true

module _ {S V : Type 0} (A : Algebra V) where
  -- q is p with the tables of d, after these items were made
  pub record Made (d : CoreState V) (xs : List (Item V)) (p q : PartData S V) : Type 0 where
    pub setup : q.setup ≡ p.setup
    pub shard : q.shard ≡ p.shard
    pub tables : Agree A (network_of p.setup) everywhere d (state_in q)
    pub channels : channels_of q ≡ routes (network_of p.setup) (place_in p.setup) p.shard xs (channels_of p)
    pub sent : q.sent ≡ counted_on (total message_weight xs) p.sent
    pub signalled : q.signalled ≡ counted_on (total signal_weight xs) p.signalled
    pub delivered : q.delivered ≡ p.delivered
    pub accepted : q.accepted ≡ p.accepted

  -- where all arcs but the offered ones are not due, the vertex has pumped
  pumped_by : (v : ℕ) (xs ys : List ℕ) (p q : PartData S V) → p.signalled ≤ top → Offers A v xs p q →
      ((b : ℕ) → (Contains xs b → ⊥) → is_due A (network_of p.setup) v (state_in p) b ≡ false) →
      pump_made A (network_of p.setup) v (state_in p) ys ≡ pump_made A (network_of p.setup) v (state_in p) xs →
      Made (pump A (network_of p.setup) v (state_in p)) (pump_made A (network_of p.setup) v (state_in p) ys) p q
  pumped_by v xs ys p q s R quiet same =
      let N = network_of p.setup in record {
        setup = R.setup;
        shard = R.shard;
        tables = record {
          label = λ u _. ap (λ ls. get_or ls u None) R.labels;
          engager = λ u _. ap (λ es. get_or es u None) R.engagers;
          told = λ b _. elim (listed_or A N b xs) [
            | inl l ↦ (R.done b l).0
            | inr n ↦ (R.left b n).0 ∙ sym (cond-false _ _ _ (quiet b n))
          ];
          idle = λ b _. elim (listed_or A N b xs) [
            | inl l ↦ (R.done b l).1
            | inr n ↦ ap is_idle ((R.left b n).1 ∙ sym (cond-false _ _ _ (quiet b n)))
          ];
        };
        channels = R.channels ∙ ap (λ zs. routes N (place_in p.setup) p.shard zs (channels_of p)) (sym same);
        sent = R.sent ∙ ap (λ zs. counted_on (total message_weight zs) p.sent) (sym same);
        signalled = R.signalled ∙ sym (counted_none p.signalled s) ∙ ap (λ k. counted_on k p.signalled) (sym (ap (total signal_weight) same ∙ made_no_back A N v (state_in p) xs));
        delivered = R.delivered;
        accepted = R.accepted;
      }

  -- the setup and the shard of q are those of p
  pub of_one_shard : (p q : PartData S V) → q.setup ≡ p.setup → q.shard ≡ p.shard → q ≡ record q { setup = p.setup; shard = p.shard }
  of_one_shard p q e s = λ i. record q { setup = e i; shard = s i }

  made_nil : (d : CoreState V) (xs : List (Item V)) (p q : PartData S V) → Made d xs p q → Made d (xs ++ []) p q
  made_nil d xs p q M = subst (λ zs. Made d zs p q) (sym (append-nil xs)) M

  rest_by : (v : ℕ) (o : Option ℕ) (t : Bool) (d : CoreState V) (xs : List (Item V)) (p q : PartData S V) → v < length q.engagers →
      Made d xs p (record q { setup = p.setup; shard = p.shard }) →
      Made (rest_here A (network_of p.setup) v d o t) (xs ++ rest_made A (network_of p.setup) o t) p (rested_by v o t (record q { setup = p.setup; shard = p.shard }))
  rest_by v None t d xs p q l M = made_nil d xs p (record q { setup = p.setup; shard = p.shard }) M
  rest_by v (Some e) false d xs p q l M = made_nil d xs p (record q { setup = p.setup; shard = p.shard }) M
  rest_by v (Some e) true d xs p q l M = record {
    setup = refl;
    shard = refl;
    tables = record {
      label = M.tables.label;
      engager = λ u m. elim (put_tells d.engager v None u) [
        | inl k ↦ ap (λ w. get_or (set q.engagers v None) w None) k.0 ∙ get_or-set_same q.engagers v None None l ∙ sym k.1
        | inr k ↦ get_or-set_other q.engagers v u None None k.0 ∙ M.tables.engager u m ∙ sym k.1
      ];
      told = M.tables.told;
      idle = M.tables.idle;
    };
    channels = ap (routes (network_of p.setup) (place_in p.setup) p.shard (SignalOn e ∷ [])) M.channels
        ∙ sym (routes-append (network_of p.setup) (place_in p.setup) p.shard xs (SignalOn e ∷ []) (channels_of p));
    sent = counted_append message_weight xs (SignalOn e ∷ []) p.sent q.sent q.sent M.sent
        (sym (counted_none q.sent (subst (λ n. n ≤ top) (sym M.sent) (counted_top (total message_weight xs) p.sent))));
    signalled = counted_append signal_weight xs (SignalOn e ∷ []) p.signalled q.signalled (counted_on 1 q.signalled) M.signalled refl;
    delivered = M.delivered;
    accepted = M.accepted;
  }

  -- the vertex rests after it has pumped
  pub rests : (v : ℕ) (ys : List ℕ) (p q : PartData S V) → v < length q.engagers → Made (pump A (network_of p.setup) v (state_in p)) (pump_made A (network_of p.setup) v (state_in p) ys) p q →
      Made (settle_here A (network_of p.setup) v (state_in p)) (settle_made A (network_of p.setup) v (state_in p) ys) p (rested A v q)
  rests v ys p q l M =
      let N = network_of p.setup in
      let e = of_one_shard p q M.setup M.shard in
      let M' : Made (pump A N v (state_in p)) (pump_made A N v (state_in p) ys) p (record q { setup = p.setup; shard = p.shard }) = subst
      (Made (pump A N v (state_in p)) (pump_made A N v (state_in p) ys) p) e M in
      let o : (state_in q).engager v ≡ (state_in p).engager v = M'.tables.engager v refl in
      let t : out_idle A N v (state_in q) ≡ out_idle A N v (pump A N v (state_in p)) = out_idle_agree A N everywhere v (pump A N v (state_in p)) (state_in q) refl M'.tables in
      let R = rest_by v ((state_in p).engager v) (out_idle A N v (pump A N v (state_in p))) (pump A N v (state_in p)) (pump_made A N v (state_in p) ys) p q l M' in
      let same : rested_by v ((state_in p).engager v) (out_idle A N v (pump A N v (state_in p))) (record q { setup = p.setup; shard = p.shard }) ≡ rested A v q =
      (λ i. rested_by v (sym o i) (sym t i) (record q { setup = p.setup; shard = p.shard })) ∙ ap (rested A v) (sym e) in
      subst (Made (settle_here A N v (state_in p)) (settle_made A N v (state_in p) ys) p) same R

  -- a vertex settles: it offers its label to these arcs, where no other is due, and rests
  pub settles : (v : ℕ) (xs ys : List ℕ) (p : PartData S V) → p.sent ≤ top → p.signalled ≤ top → v < length p.engagers → IsDistinct A (network_of p.setup) xs →
      ((b : ℕ) → Contains xs b → (b < length p.told) × (b < length p.busy)) →
      ((b : ℕ) → (Contains xs b → ⊥) → is_due A (network_of p.setup) v (state_in p) b ≡ false) →
      pump_made A (network_of p.setup) v (state_in p) ys ≡ pump_made A (network_of p.setup) v (state_in p) xs →
      Made (settle_here A (network_of p.setup) v (state_in p)) (settle_made A (network_of p.setup) v (state_in p) ys) p (rested A v (offered_all A v xs p))
  settles v xs ys p s g l D within quiet same =
      let R = offers A v xs p s D within in
      rests v ys p (offered_all A v xs p) (subst (λ es. v < length es) (sym R.engagers) l) (pumped_by v xs ys p (offered_all A v xs p) g R quiet same)

  -- items made before
  pub made_after : (d : CoreState V) (xs ys : List (Item V)) (p q : PartData S V) (ls : List (Option V)) (es : List (Option ℕ)) (qs : List (Item V)) (os : List (List (Item V))) (n m : ℕ) →
      record { queue = qs; outs = os } ≡ routes (network_of p.setup) (place_in p.setup) p.shard xs (channels_of p)
      → n ≡ counted_on (total message_weight xs) p.sent → m ≡ counted_on (total signal_weight xs) p.signalled →
      Made d ys (record p { labels = ls; engagers = es; queue = qs; outs = os; sent = n; signalled = m }) q → Made d (xs ++ ys) p q
  made_after d xs ys p q ls es qs os n m channels sends signals M = record {
    setup = M.setup;
    shard = M.shard;
    tables = M.tables;
    channels = M.channels ∙ ap (routes (network_of p.setup) (place_in p.setup) p.shard ys) channels ∙ sym (routes-append (network_of p.setup) (place_in p.setup) p.shard xs ys (channels_of p));
    sent = counted_append message_weight xs ys p.sent n q.sent sends M.sent;
    signalled = counted_append signal_weight xs ys p.signalled m q.signalled signals M.signalled;
    delivered = M.delivered;
    accepted = M.accepted;
  }
