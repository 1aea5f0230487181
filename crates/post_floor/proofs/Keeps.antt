-- Each step keeps the rule of the floor.
use Rattle.post_floor.proofs.Words.{◌≡◌, ℕ, ◌+◌, ◌<◌, List, [], ◌∷◌, ◌++◌, length, map, set, refl, sym, ap, ◌∙◌, subst, inl, inr, arith, some, get_elem?, State, at_set, Algebra, Event, Item, WellFormed, CoreState, opening, run_from, SetupData, network_of, place_in, IsPlanned, total, is, All, part_weight, HandledAll, total_append, run_append, handled_same, View, IsViewOf, StepsTo}
use Rattle.scholten_core.specs.Accounts.{Totals, totals_of}
use Rattle.scholten_core.specs.Shares.{Agree}
use Rattle.scholten_core.proofs.CoreInvariant.{CoreInvariant, run_kept}
use Rattle.scholten_core.proofs.Ended.{opening_kept}
use Rattle.shard_part.specs.PartState.{PartData, state_in, mine, event_of}
use Rattle.shard_part.specs.Represents.{HoldsTables, HoldsShareIn, RepresentsIn, Represents, core_of}
use Rattle.shard_part.specs.OnePart.{AreBestFirstIfOne, OwnOutboxIsEmpty}
use Rattle.shard_part.proofs.OnePartTakesTheBest.{best_first_more, own_stays, all_best}
use Rattle.shard_part.proofs.Showing.{AllLawful, all_parts, all_append, shown_holds, swap_shown}
use Rattle.post_floor.specs.Floor.{Slot, flat, AddUp, CountsNone, in_transit, FloorInvariant}
use Rattle.post_floor.proofs.Totals.{total_set}
use Rattle.post_floor.proofs.Parts.{stands}
use Rattle.post_floor.proofs.OneShard.{lone}
use Rattle.shard_part.specs.Exact.{totals_from, done_by}
use Rattle.shard_part.proofs.Exact.{sent_more, delivered_more, signalled_more, accepted_more, saturates, moves}

module _ {S V : Type 0} (meaning : S → Algebra V) (t : SetupData S) where
  abbrev St : Type 0
  St = State (Slot V) (View S V)

  -- the view after a step: it is u, but shows e, and has counted n more than v
  abbrev pub gone : View S V → View S V → PartData S V → Totals → View S V
  gone v u e n = record u { parts = e ∷ []; sent = v.sent + n.sent; delivered = v.delivered + n.delivered; signalled = v.signalled + n.signalled; accepted = v.accepted + n.accepted }

  -- the lists of e differ from those of d, and nothing else
  pub record Relisted (d e : PartData S V) : Type 0 where
    pub setup : e.setup ≡ d.setup
    pub shard : e.shard ≡ d.shard
    pub tables : state_in e ≡ state_in d
    pub outs : length e.outs ≡ length d.outs
    pub sent : e.sent ≡ d.sent
    pub delivered : e.delivered ≡ d.delivered
    pub signalled : e.signalled ≡ d.signalled
    pub accepted : e.accepted ≡ d.accepted
    pub own : OwnOutboxIsEmpty d → OwnOutboxIsEmpty e

  pub went : (v u : View S V) (b d e : PartData S V) (items : List (Item V)) (T : HandledAll meaning b items d) → IsViewOf v b → Relisted d e → StepsTo u e (gone v u e (done_by meaning items b d T))
  went v u b d e items T s r =
      let R = saturates meaning items b d T (record { sent = v.sent; delivered = v.delivered; signalled = v.signalled; accepted = v.accepted })
      (record { sent = s.sent; delivered = s.delivered; signalled = s.signalled; accepted = s.accepted }) in record {
        shows = record { parts = refl; sent = r.sent ∙ R.sent; delivered = r.delivered ∙ R.delivered; signalled = r.signalled ∙ R.signalled; accepted = r.accepted ∙ R.accepted };
        fills = refl;
        reads = refl;
        next_fill = refl;
        next_read = refl;
        steps = refl;
        seen = refl;
      }

  pub idle_after : (views : List (View S V)) (id : ℕ) (w : View S V) (e : PartData S V) → w.parts ≡ e ∷ [] → ((i : ℕ) (y : View S V) → get_elem? views i ≡ some y → y.parts ≡ [] → CountsNone y) →
      (i : ℕ) (y : View S V) → get_elem? (set views id w) i ≡ some y → y.parts ≡ [] → CountsNone y
  idle_after views id w e one old i y at none' = elim (at_set views id i w y at) [
    | inl z ↦ absurd (let q : e ∷ [] ≡ [] = sym one ∙ ap (λ (v : View S V). v.parts) z.1 ∙ none' in cc)
    | inr z ↦ old i y z.1 none'
  ]

  module _ (L : AllLawful meaning) (W : WellFormed (network_of t)) where
    pub kept_core : (events : List Event) → CoreInvariant (meaning t.diffusion.algebra) (network_of t) 0 (core_of meaning t events)
    kept_core events = run_kept (meaning t.diffusion.algebra) (network_of t) (L t.diffusion.algebra) W
        (opening (meaning t.diffusion.algebra) (network_of t)) events (opening_kept (meaning t.diffusion.algebra) (network_of t) W)

    -- what the parts and mailboxes show after one view went on by items of its part and then
    -- changed its lists
    pub record After (s : St) (id : ℕ) (w : View S V) (e : PartData S V) (mail' : (ℕ → Item V → ℕ) → ℕ) (events : List Event) : Type 0 where
      pub shown : Represents meaning t (flat (set s.views id w)) mail' (core_of meaning t events)
      pub whole : (j : ℕ) → j < t.plan.shards → total (λ p. is j p.shard) (flat (set s.views id w)) ≡ 1
      pub below : All (λ p. p.shard < t.plan.shards) (flat (set s.views id w))
      pub counts : AddUp (set s.views id w) (totals_of (meaning t.diffusion.algebra) (network_of t) events)
      pub share : HoldsShareIn (meaning t.diffusion.algebra) (network_of t) (place_in t) (core_of meaning t events) e
      pub setup : e.setup ≡ t
      pub own : All OwnOutboxIsEmpty (flat (set s.views id w))
      pub best : IsPlanned t 0 → AreBestFirstIfOne meaning t events

    pub goes_on : (s : St) (r : FloorInvariant meaning t s) (id : ℕ) (v u : View S V) (b d e : PartData S V) (items : List (Item V)) (T : HandledAll meaning b items d) (mail' : (ℕ → Item V → ℕ) → ℕ) →
        get_elem? s.views id ≡ some v → v.parts ≡ b ∷ [] → Relisted d e → ((h : ℕ → Item V → ℕ) → part_weight h e + mail' h ≡ part_weight h d + in_transit t.plan.shards s.words s.homes h) →
        After s id (gone v u e (done_by meaning items b d T)) e mail' (r.events ++ map event_of items)
    goes_on s r id v u b d e items T mail' at one R weighs =
        let A = meaning t.diffusion.algebra in let N = network_of t in
        let n : Totals = done_by meaning items b d T in
        let w : View S V = gone v u e n in
        let m0 : (ℕ → Item V → ℕ) → ℕ = in_transit t.plan.shards s.words s.homes in
        let c : CoreState V = core_of meaning t r.events in
        let more : List Event = map event_of items in
        let P = stands s.views id v b at one in
        let H0 : Represents meaning t (P.before ++ b ∷ P.after) m0 c = subst (λ (l : List (PartData S V)). Represents meaning t l m0 c) P.now r.shown in
        let all0 = all_parts (λ (p : PartData S V). p.setup ≡ t) P.before (b ∷ P.after) H0.same in
        let M = moves meaning L t W items P.before P.after b d m0 c (kept_core r.events) all0.1.0 H0 T in
        let k = handled_same meaning items b d T in
        let c' : CoreState V = run_from A N c more in
        let is_c : c' ≡ core_of meaning t (r.events ++ more) = sym (run_append A N (opening A N) r.events more) in
        let agree : Agree A N (mine (place_in t) d.shard) (state_in d) (state_in e) = subst (Agree A N (mine (place_in t) d.shard) (state_in d))
        (sym R.tables) (record { label = λ v m. refl; engager = λ v m. refl; told = λ b m. refl; idle = λ b m. refl }) in
        let sw : RepresentsIn A N (place_in t) (P.before ++ e ∷ P.after) mail' c' = swap_shown A N (place_in t) P.before P.after d e m0 mail' c' M.shown.shown R.shard agree R.outs weighs in
        let setup : e.setup ≡ t = R.setup ∙ k.0 ∙ all0.1.0 in
        let sw' : Represents meaning t (P.before ++ e ∷ P.after) mail' c' =
        record { same = all_append (λ (p : PartData S V). p.setup ≡ t) P.before (e ∷ P.after) all0.0 (setup, all0.1.1); shown = sw } in
        let views' : flat (set s.views id w) ≡ P.before ++ e ∷ P.after = P.then w e refl in
        let own0 = all_parts (λ (p : PartData S V). OwnOutboxIsEmpty p) P.before (b ∷ P.after) (subst (All (λ (p : PartData S V). OwnOutboxIsEmpty p)) P.now r.own) in record {
          shown = subst (λ (d' : CoreState V). Represents meaning t (flat (set s.views id w)) mail' d') is_c (subst (λ (l : List (PartData S V)). Represents meaning t l mail' c') (sym views') sw');
          whole = λ j lt. let f : PartData S V → ℕ = λ p. is j p.shard in
              let y' = total_append f P.before (e ∷ P.after) in
              let z : f e ≡ f b = ap (is j) (R.shard ∙ k.1) in omega (arith, r.whole j lt, ap (total f) P.now, ap (total f) views', total_append f P.before (b ∷ P.after), y', z);
          below = (let B = all_parts (λ (p : PartData S V). p.shard < t.plan.shards) P.before (b ∷ P.after) (subst (All (λ (p : PartData S V). p.shard < t.plan.shards)) P.now r.below) in
              subst (All (λ (p : PartData S V). p.shard < t.plan.shards)) (sym views')
              (all_append (λ (p : PartData S V). p.shard < t.plan.shards) P.before (e ∷ P.after) B.0
              (subst (λ z. z < t.plan.shards) (sym (R.shard ∙ k.1)) B.1.0, B.1.1)));
          counts = record {
            sent = (let a = total_set (λ (z : View S V). z.sent) s.views id v w at in let q = r.counts.sent in
                let z : n.sent ≡ (totals_from A N c more).sent = ap (λ (y : Totals). y.sent) M.did in omega (arith, a, q, sent_more A N (opening A N) r.events more, z));
            delivered = (let a = total_set (λ (z : View S V). z.delivered) s.views id v w at in let q = r.counts.delivered in
                let z : n.delivered ≡ (totals_from A N c more).delivered = ap (λ (y : Totals). y.delivered) M.did in omega (arith, a, q, delivered_more A N (opening A N) r.events more, z));
            signalled = (let a = total_set (λ (z : View S V). z.signalled) s.views id v w at in let q = r.counts.signalled in
                let z : n.signalled ≡ (totals_from A N c more).signalled = ap (λ (y : Totals). y.signalled) M.did in omega (arith, a, q, signalled_more A N (opening A N) r.events more, z));
            accepted = (let a = total_set (λ (z : View S V). z.accepted) s.views id v w at in let q = r.counts.accepted in
                let z : n.accepted ≡ (totals_from A N c more).accepted = ap (λ (y : Totals). y.accepted) M.did in omega (arith, a, q, accepted_more A N (opening A N) r.events more, z));
          };
          share = subst (λ (d' : CoreState V). HoldsShareIn A N (place_in t) d' e) is_c (shown_holds A N (place_in t) P.before P.after e mail' c' sw);
          setup = setup;
          own = subst (All (λ (p : PartData S V). OwnOutboxIsEmpty p)) (sym views')
              (all_append (λ (p : PartData S V). OwnOutboxIsEmpty p) P.before (e ∷ P.after) own0.0 (R.own (own_stays meaning items b d T own0.1.0), own0.1.1));
          best = λ planned one. (
              let X = lone meaning t s r planned one.0 P.before P.after b P.now in
              best_first_more A N (opening A N) r.events more (r.best planned one)
              (all_best meaning L t W one.1 items b d c (kept_core r.events) all0.1.0 (all_parts (HoldsTables A N (place_in t) c) P.before (b ∷ P.after) H0.shown.tables).1.0
              (λ h. omega (arith, H0.shown.weighs h, X.weighs h, X.none h)) X.all own0.1.0 T));
        }
