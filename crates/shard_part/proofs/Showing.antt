-- Parts and mailboxes show a state: an item is taken, a batch moves.
use Rattle.shard_part.proofs.Words.{◌≡◌, ◌≢◌, ℕ, ◌+◌, true, List, [], ◌∷◌, ◌++◌, length, set, get_or, refl, sym, ap, ◌∙◌, subst, arith, eq-eqb, length-set, Item, Algebra, Lawful, Network, WellFormed, CoreState, step, is_enabled, one_if, Agree, SetupData, network_of, place_in, PartData, state_in, event_of, mine, total, is, part_weight, mail_weight, All, HandledItemIn, HandledItem, HoldsTables, HoldsShareIn, RepresentsIn, Represents, CoreInvariant, total_append}
use Rattle.shard_part.proofs.Routed.{outs_none}
use Rattle.shard_part.proofs.TakenIsEvent.{handled_event}

pub all_append : {X : Type 0} (P : X → Type 0) (xs ys : List X) → All P xs → All P ys → All P (xs ++ ys)
all_append P [] ys p q = q
all_append P (x ∷ xs) ys p q = (p.0, all_append P xs ys p.1 q)

pub all_parts : {X : Type 0} (P : X → Type 0) (xs ys : List X) → All P (xs ++ ys) → All P xs × All P ys
all_parts P [] ys p = (tt, p)
all_parts P (x ∷ xs) ys p = let r = all_parts P xs ys p.1 in ((p.0, r.0), r.1)

pub all_with : {X : Type 0} (P Q R : X → Type 0) (xs : List X) → ((x : X) → P x → Q x → R x) → All P xs → All Q xs → All R xs
all_with P Q R [] f p q = tt
all_with P Q R (x ∷ xs) f p q = (f x p.0 q.0, all_with P Q R xs f p.1 q.1)

pub is_self : (j : ℕ) → is j j ≡ 1
is_self j = ap one_if (eq-eqb j j refl)

module _ {S V : Type 0} where
  -- no part of the list is of the shard j
  pub apart_from : (j : ℕ) (ps : List (PartData S V)) → total (λ p. is j p.shard) ps ≡ 0 → All (λ (p : PartData S V). p.shard ≢ j) ps
  apart_from j [] e = tt
  apart_from j (p ∷ ps) e = ((λ s. let q : is j j ≡ is j p.shard = ap (is j) (sym s) in let one = is_self j in omega (arith, q, one, e)), apart_from j ps (omega (arith, e)))

module _ {S V : Type 0} (A : Algebra V) (N : Network) (place : ℕ → ℕ) where
  -- each shown part holds its share
  pub shown_holds : (before after : List (PartData S V)) (p : PartData S V) (mail : (ℕ → Item V → ℕ) → ℕ) (c : CoreState V)
      → RepresentsIn A N place (before ++ p ∷ after) mail c → HoldsShareIn A N place c p
  shown_holds before after p mail c H = record {
    tables = (all_parts (HoldsTables A N place c) before (p ∷ after) H.tables).1.0;
    weighs = λ h. let w = H.weighs h in let s = total_append (part_weight h) before (p ∷ after) in omega (arith, w, s);
  }

  pub handled_shown : Lawful A → WellFormed N → (before after : List (PartData S V)) (p q : PartData S V) (i : Item V) (mail : (ℕ → Item V → ℕ) → ℕ) (c : CoreState V) → CoreInvariant A N 0 c →
      RepresentsIn A N place (before ++ p ∷ after) mail c → HandledItemIn A N place p i q →
      (is_enabled c (event_of i) ≡ true) × RepresentsIn A N place (before ++ q ∷ after) mail (step A N c (event_of i))
  handled_shown L W before after p q i mail c K H T =
      let E = handled_event A N place L W c p i q K (shown_holds before after p mail c H) T in
      let all = all_parts (HoldsTables A N place c) before (p ∷ after) H.tables in
      let one = H.apart p.shard in
      let split = total_append (λ (r : PartData S V). is p.shard r.shard) before (p ∷ after) in
      let self = is_self p.shard in (
        E.enabled,
        record {
          tables = all_append (HoldsTables A N place (step A N c (event_of i))) before (q ∷ after)
              (all_with (HoldsTables A N place c) (λ (r : PartData S V). r.shard ≢ p.shard) (HoldsTables A N place (step A N c (event_of i))) before
              (λ r t n. E.others r n t) all.0 (apart_from p.shard before (omega (arith, one, split, self)))) (
                E.holds.tables,
                all_with (HoldsTables A N place c) (λ (r : PartData S V). r.shard ≢ p.shard) (HoldsTables A N place (step A N c (event_of i))) after
                    (λ r t n. E.others r n t) all.1.1 (apart_from p.shard after (omega (arith, one, split, self))),
              );
          weighs = λ h. let w = H.weighs h in let b = E.weighs h in let s = total_append (part_weight h) before (p ∷ after) in
              let t = total_append (part_weight h) before (q ∷ after) in omega (arith, w, b, s, t);
          apart = λ j. let w = H.apart j in let s = total_append (λ (r : PartData S V). is j r.shard) before (p ∷ after) in
              let t = total_append (λ (r : PartData S V). is j r.shard) before (q ∷ after) in
              let e : is j q.shard ≡ is j p.shard = ap (is j) T.shard in omega (arith, w, s, t, e);
        },
      )

  -- lists and mailboxes change, and what they weigh together stays: the same state is shown
  pub swap_shown : (before after : List (PartData S V)) (p q : PartData S V) (mail mail' : (ℕ → Item V → ℕ) → ℕ) (c : CoreState V) → RepresentsIn A N place (before ++ p ∷ after) mail c →
      q.shard ≡ p.shard → Agree A N (mine place p.shard) (state_in p) (state_in q) → length q.outs ≡ length p.outs → ((h : ℕ → Item V → ℕ) → part_weight h q + mail' h ≡ part_weight h p + mail h) →
      RepresentsIn A N place (before ++ q ∷ after) mail' c
  swap_shown before after p q mail mail' c H shard tables long weights =
      let all = all_parts (HoldsTables A N place c) before (p ∷ after) H.tables in
      let G = all.1.0.agree in record {
        tables = all_append (HoldsTables A N place c) before (q ∷ after) all.0 (
          record {
            agree = subst (λ s. Agree A N (mine place s) c (state_in q)) (sym shard) (record {
              label = λ v m. tables.label v m ∙ G.label v m;
              engager = λ v m. tables.engager v m ∙ G.engager v m;
              told = λ b m. tables.told b m ∙ G.told b m;
              idle = λ b m. tables.idle b m ∙ G.idle b m;
            });
            wide = λ v. let w = all.1.0.wide v in omega (arith, w, long);
          },
          all.1.1,
        );
        weighs = λ h. let w = H.weighs h in let b = weights h in let s = total_append (part_weight h) before (p ∷ after) in
            let t = total_append (part_weight h) before (q ∷ after) in omega (arith, w, b, s, t);
        apart = λ j. let w = H.apart j in let s = total_append (λ (r : PartData S V). is j r.shard) before (p ∷ after) in
            let t = total_append (λ (r : PartData S V). is j r.shard) before (q ∷ after) in
            let e : is j q.shard ≡ is j p.shard = ap (is j) shard in omega (arith, w, s, t, e);
      }

  -- a batch moves from the outbox to `to` into an empty mailbox
  pub publish_shown : (before after : List (PartData S V)) (p : PartData S V) (to : ℕ) (boxes behind : List (ℕ × List (Item V))) (c : CoreState V) →
      RepresentsIn A N place (before ++ p ∷ after) (mail_weight (boxes ++ (to, []) ∷ behind)) c →
      RepresentsIn A N place (before ++ record p { outs = set p.outs to [] } ∷ after) (mail_weight (boxes ++ (to, get_or p.outs to []) ∷ behind)) c
  publish_shown before after p to boxes behind c H =
      swap_shown before after p (record p { outs = set p.outs to [] }) (mail_weight (boxes ++ (to, []) ∷ behind)) (mail_weight (boxes ++ (to, get_or p.outs to []) ∷ behind)) c H refl
      (record { label = λ v m. refl; engager = λ v m. refl; told = λ b m. refl; idle = λ b m. refl }) (length-set p.outs to [])
      (λ h. let e = outs_none h 0 to p.outs in
      let z : total (h (0 + to)) (get_or p.outs to []) ≡ total (h to) (get_or p.outs to []) = ap (λ k. total (h k) (get_or p.outs to [])) (let o : 0 + to ≡ to = omega arith in o) in
      let s = total_append (λ (m : ℕ × List (Item V)). total (h m.0) m.1) boxes ((to, []) ∷ behind) in
      let t = total_append (λ (m : ℕ × List (Item V)). total (h m.0) m.1) boxes ((to, get_or p.outs to []) ∷ behind) in omega (arith, e, z, s, t))

  -- and from a mailbox into the queue of the part that it leads to
  pub receive_shown : (before after : List (PartData S V)) (p : PartData S V) (batch : List (Item V)) (boxes behind : List (ℕ × List (Item V))) (c : CoreState V) →
      RepresentsIn A N place (before ++ p ∷ after) (mail_weight (boxes ++ (p.shard, batch) ∷ behind)) c →
      RepresentsIn A N place (before ++ record p { queue = p.queue ++ batch } ∷ after) (mail_weight (boxes ++ (p.shard, []) ∷ behind)) c
  receive_shown before after p batch boxes behind c H =
      swap_shown before after p (record p { queue = p.queue ++ batch }) (mail_weight (boxes ++ (p.shard, batch) ∷ behind)) (mail_weight (boxes ++ (p.shard, []) ∷ behind)) c H refl
      (record { label = λ v m. refl; engager = λ v m. refl; told = λ b m. refl; idle = λ b m. refl }) refl
      (λ h. let e = total_append (h p.shard) p.queue batch in
      let s = total_append (λ (m : ℕ × List (Item V)). total (h m.0) m.1) boxes ((p.shard, batch) ∷ behind) in
      let t = total_append (λ (m : ℕ × List (Item V)). total (h m.0) m.1) boxes ((p.shard, []) ∷ behind) in omega (arith, e, s, t))

-- through a part's own setup
module _ {S V : Type 0} (meaning : S → Algebra V) where
  abbrev pub AllLawful : Type 0
  AllLawful = (s : S) → Lawful (meaning s)

  handled_at : (t : SetupData S) (p : PartData S V) (i : Item V) (q : PartData S V) → p.setup ≡ t → HandledItem meaning p i q →
      HandledItemIn (meaning t.diffusion.algebra) (network_of t) (place_in t) p i q
  handled_at t p i q e T = subst (λ u. HandledItemIn (meaning u.diffusion.algebra) (network_of u) (place_in u) p i q) e T

  -- ALL PARTS AND MAILBOXES: one part takes one item
  pub handled_shows : AllLawful → (t : SetupData S) → WellFormed (network_of t) →
      (before after : List (PartData S V)) (p q : PartData S V) (i : Item V) (mail : (ℕ → Item V → ℕ) → ℕ) (c : CoreState V) →
      CoreInvariant (meaning t.diffusion.algebra) (network_of t) 0 c → Represents meaning t (before ++ p ∷ after) mail c → HandledItem meaning p i q →
      (is_enabled c (event_of i) ≡ true) × Represents meaning t (before ++ q ∷ after) mail (step (meaning t.diffusion.algebra) (network_of t) c (event_of i))
  handled_shows L t W before after p q i mail c K H T =
      let all = all_parts (λ (r : PartData S V). r.setup ≡ t) before (p ∷ after) H.same in
      let R = handled_shown (meaning t.diffusion.algebra) (network_of t) (place_in t) (L t.diffusion.algebra) W before after p q i mail c K H.shown (handled_at t p i q all.1.0 T) in
      (R.0, record { same = all_append (λ (r : PartData S V). r.setup ≡ t) before (q ∷ after) all.0 (T.setup ∙ all.1.0, all.1.1); shown = R.1 })

  pub publish_shows : (t : SetupData S) (before after : List (PartData S V)) (p : PartData S V) (to : ℕ) (boxes behind : List (ℕ × List (Item V))) (c : CoreState V) →
      Represents meaning t (before ++ p ∷ after) (mail_weight (boxes ++ (to, []) ∷ behind)) c →
      Represents meaning t (before ++ record p { outs = set p.outs to [] } ∷ after) (mail_weight (boxes ++ (to, get_or p.outs to []) ∷ behind)) c
  publish_shows t before after p to boxes behind c H =
      let all = all_parts (λ (r : PartData S V). r.setup ≡ t) before (p ∷ after) H.same in record {
        same = all_append (λ (r : PartData S V). r.setup ≡ t) before (record p { outs = set p.outs to [] } ∷ after) all.0 (all.1.0, all.1.1);
        shown = publish_shown (meaning t.diffusion.algebra) (network_of t) (place_in t) before after p to boxes behind c H.shown;
      }

  pub receive_shows : (t : SetupData S) (before after : List (PartData S V)) (p : PartData S V) (batch : List (Item V)) (boxes behind : List (ℕ × List (Item V))) (c : CoreState V) →
      Represents meaning t (before ++ p ∷ after) (mail_weight (boxes ++ (p.shard, batch) ∷ behind)) c →
      Represents meaning t (before ++ record p { queue = p.queue ++ batch } ∷ after) (mail_weight (boxes ++ (p.shard, []) ∷ behind)) c
  receive_shows t before after p batch boxes behind c H =
      let all = all_parts (λ (r : PartData S V). r.setup ≡ t) before (p ∷ after) H.same in record {
        same = all_append (λ (r : PartData S V). r.setup ≡ t) before (record p { queue = p.queue ++ batch } ∷ after) all.0 (all.1.0, all.1.1);
        shown = receive_shown (meaning t.diffusion.algebra) (network_of t) (place_in t) before after p batch boxes behind c H.shown;
      }
