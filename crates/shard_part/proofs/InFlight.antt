-- What an event does to the weights of the items that stand.
use Rattle.shard_part.proofs.Words.{◌≡◌, ◌≢◌, ℕ, zero, suc, ◌+◌, ◌<◌, ◌≤◌, eqb, List, [], ◌∷◌, ◌++◌, sym, ap, ◌∙◌, subst, inl, inr, arith, eq-eqb, eqb-true, Contains, cases_eq, cases_Bool, cond-true, cond-false, Idle, Message, Signal, Deliver, Accept, Item, MessageOn, SignalOn, Algebra, Lawful, Network, WellFormed, CoreState, settle, arrive, freed, step, delivered, accepted, answer_to, sum_below, total, in_flight, at_place, made, CoreInvariant, step_kept, sum_at, total_by_arc, not_in_empty, here_as, later, head_or_tail}
use Rattle.scholten_core.specs.Items.{at, item_of, Makes, IsOutList, settle_made, IsDistinct}
use Rattle.shard_store.specs.Outgoing.{outgoing, arcs_from}
use Rattle.scholten_core.proofs.Basics.{put-same, put-other, sum_add}
use Rattle.scholten_core.proofs.Items.{at-nil, message_makes, signal_makes}

module _ {V : Type 0} (A : Algebra V) (N : Network) where
  -- arcs past the last are idle
  pub past_idle : WellFormed N → (c : CoreState V) → CoreInvariant A N 0 c → (b : ℕ) → suc N.arcs ≤ b → c.token b ≡ Idle
  past_idle W c K b h = elim (cases_eq (N.tail b) 0) [
    | inl e ↦ K.neutral_idle b (λ z. omega (arith, z, h)) (ap c.engager e ∙ K.env_neutral)
    | inr n ↦ absurd (let r = W.real b n in omega (arith, r, h))
  ]

  -- an event that takes the item i of the arc a and makes these items
  pub event_weighs : (f : Item V → ℕ) (c d : CoreState V) (a : ℕ) (i : Item V) (is : List (Item V)) → a < suc N.arcs →
      ((b : ℕ) → suc N.arcs ≤ b → c.token b ≡ Idle) → ((b : ℕ) → suc N.arcs ≤ b → d.token b ≡ Idle) →
      item_of a (c.token a) ≡ i ∷ [] → at a is ≡ item_of a (d.token a) → ((b : ℕ) → b ≢ a → Makes A N b (c.token b) (d.token b) (at b is)) →
      sum_below (λ b. total f (item_of b (d.token b))) (suc N.arcs) + f i ≡ sum_below (λ b. total f (item_of b (c.token b))) (suc N.arcs) + total f is
  event_weighs f c d a i is lt pc pd was here other =
      let none = λ (b : ℕ) (h : suc N.arcs ≤ b). (elim (other b (λ e. omega (arith, e, h, lt))) as (λ _. at b is ≡ []) [
        | inl k ↦ k.1
        | inr k ↦ k.1 ∙ ap (item_of b) (pd b h)
      ]) in
      let by = total_by_arc A N f (suc N.arcs) is none in
      let add = sum_add (λ b. total f (item_of b (c.token b))) (λ b. total f (at b is)) (suc N.arcs) in
      let differ = sum_at (λ b. total f (item_of b (d.token b))) (λ b. total f (item_of b (c.token b)) + total f (at b is)) a (suc N.arcs) lt
      (λ b ne. (elim (other b ne) as (λ _. total f (item_of b (d.token b)) ≡ total f (item_of b (c.token b)) + total f (at b is)) [
        | inl k ↦ (let p = ap (λ t. total f (item_of b t)) k.0 in let q = ap (total f) k.1 in omega (arith, p, q))
        | inr k ↦ (let p = ap (total f) k.0 in let q = ap (total f) k.1 in omega (arith, p, q))
      ])) in
      let w : total f (item_of a (c.token a)) ≡ f i + 0 = ap (total f) was in
      let h = ap (total f) here in
      omega (arith, by, add, differ, w, h)

  -- the arcs out of a vertex
  arcs_from-least : (v k n b : ℕ) → Contains (arcs_from N v k n) b → k ≤ b
  arcs_from-least v k zero b l = absurd (not_in_empty b l)
  arcs_from-least v k (suc n) b l = elim (cases_Bool (eqb (N.tail k) v)) [
    | inl t ↦ (elim (head_or_tail k b (arcs_from N v (suc k) n) (subst (λ ys. Contains ys b) (cond-true (eqb (N.tail k) v) (k ∷ arcs_from N v (suc k) n) (arcs_from N v (suc k) n) t) l)) [
      | inl e ↦ (omega (arith, e))
      | inr m ↦ (let r = arcs_from-least v (suc k) n b m in omega (arith, r))
    ])
    | inr f ↦ (let r = arcs_from-least v (suc k) n b (subst (λ ys. Contains ys b) (cond-false (eqb (N.tail k) v) (k ∷ arcs_from N v (suc k) n) (arcs_from N v (suc k) n) f) l) in omega (arith, r))
  ]

  arcs_from-only : (v k n b : ℕ) → Contains (arcs_from N v k n) b → N.tail b ≡ v
  arcs_from-only v k zero b l = absurd (not_in_empty b l)
  arcs_from-only v k (suc n) b l = elim (cases_Bool (eqb (N.tail k) v)) [
    | inl t ↦ (elim (head_or_tail k b (arcs_from N v (suc k) n) (subst (λ ys. Contains ys b) (cond-true (eqb (N.tail k) v) (k ∷ arcs_from N v (suc k) n) (arcs_from N v (suc k) n) t) l)) [
      | inl e ↦ ap N.tail (sym e) ∙ eqb-true (N.tail k) v t
      | inr m ↦ arcs_from-only v (suc k) n b m
    ])
    | inr f ↦ arcs_from-only v (suc k) n b (subst (λ ys. Contains ys b) (cond-false (eqb (N.tail k) v) (k ∷ arcs_from N v (suc k) n) (arcs_from N v (suc k) n) f) l)
  ]

  arcs_from-all : (v k n b : ℕ) → N.tail b ≡ v → k ≤ b → b < k + n → Contains (arcs_from N v k n) b
  arcs_from-all v k zero b e l h = absurd (omega (arith, l, h))
  arcs_from-all v k (suc n) b e l h = elim (cases_eq b k) [
    | inl q ↦ subst (λ ys. Contains ys b) (sym (cond-true (eqb (N.tail k) v) (k ∷ arcs_from N v (suc k) n) (arcs_from N v (suc k) n)
        (eq-eqb (N.tail k) v (ap N.tail (sym q) ∙ e)))) (here_as b k (arcs_from N v (suc k) n) q)
    | inr ne ↦ (let r = arcs_from-all v (suc k) n b e (omega (arith, l, ne)) (omega (arith, h)) in elim (cases_Bool (eqb (N.tail k) v)) [
      | inl t ↦ subst (λ ys. Contains ys b) (sym (cond-true (eqb (N.tail k) v) (k ∷ arcs_from N v (suc k) n) (arcs_from N v (suc k) n) t)) (later k b (arcs_from N v (suc k) n) r)
      | inr f ↦ subst (λ ys. Contains ys b) (sym (cond-false (eqb (N.tail k) v) (k ∷ arcs_from N v (suc k) n) (arcs_from N v (suc k) n) f)) r
    ])
  ]

  arcs_from-distinct : (v k n : ℕ) → IsDistinct A N (arcs_from N v k n)
  arcs_from-distinct v k zero = tt
  arcs_from-distinct v k (suc n) = elim (cases_Bool (eqb (N.tail k) v)) [
    | inl t ↦ subst (IsDistinct A N) (sym (cond-true (eqb (N.tail k) v) (k ∷ arcs_from N v (suc k) n) (arcs_from N v (suc k) n) t))
        ((λ l. let r = arcs_from-least v (suc k) n k l in omega (arith, r)), arcs_from-distinct v (suc k) n)
    | inr f ↦ subst (IsDistinct A N) (sym (cond-false (eqb (N.tail k) v) (k ∷ arcs_from N v (suc k) n) (arcs_from N v (suc k) n) f)) (arcs_from-distinct v (suc k) n)
  ]

  pub outgoing_is : WellFormed N → (v : ℕ) → v ≢ 0 → IsOutList A N v (outgoing N v)
  outgoing_is W v n = record {
    distinct = arcs_from-distinct v 0 (suc N.arcs);
    all = λ b e. arcs_from-all v 0 (suc N.arcs) b e (omega arith) (let r = W.real b (λ z. n (sym e ∙ z)) in omega (arith, r));
    only = λ b l. arcs_from-only v 0 (suc N.arcs) b l;
  }

  module _ (place : ℕ → ℕ) where
    pub message_weighs : Lawful A → WellFormed N → (a : ℕ) (x : V) (c : CoreState V) (h : ℕ → Item V → ℕ) → a < suc N.arcs → N.head a ≢ 0 → c.token a ≡ Message x → CoreInvariant A N 0 c →
        in_flight N place (step A N c (Deliver a)) h + at_place N place h (MessageOn a x)
        ≡ in_flight N place c h + total (at_place N place h) (item_of a (answer_to (c.engager (N.head a)))
        ++ settle_made A N (N.head a) (arrive A N a x c) (outgoing N (N.head a)))
    message_weighs L W a x c h lt hn q K =
        let M = message_makes A N L W a x c (outgoing N (N.head a)) q K (outgoing_is W (N.head a) hn) in
        let to : step A N c (Deliver a) ≡ settle A N (N.head a) (arrive A N a x c) = ap (delivered A N a c) q in
        subst (λ d. in_flight N place d h + at_place N place h (MessageOn a x)
        ≡ in_flight N place c h + total (at_place N place h) (item_of a (answer_to (c.engager (N.head a)))
        ++ settle_made A N (N.head a) (arrive A N a x c) (outgoing N (N.head a)))) (sym to)
        (event_weighs (at_place N place h) c (settle A N (N.head a) (arrive A N a x c)) a (MessageOn a x)
        (item_of a (answer_to (c.engager (N.head a))) ++ settle_made A N (N.head a) (arrive A N a x c) (outgoing N (N.head a))) lt
        (past_idle W c K)
        (subst (λ d. (b : ℕ) → suc N.arcs ≤ b → d.token b ≡ Idle) to (past_idle W (step A N c (Deliver a)) (step_kept A N L W c (Deliver a) K)))
        (ap (item_of a) q) M.0 M.1)

    pub signal_weighs : Lawful A → WellFormed N → (k : ℕ) (c : CoreState V) (h : ℕ → Item V → ℕ) → suc k < suc N.arcs → N.tail (suc k) ≢ 0 → c.token (suc k) ≡ Signal → CoreInvariant A N 0 c →
        in_flight N place (step A N c (Accept (suc k))) h + at_place N place h (SignalOn (suc k)) ≡ in_flight N place c h + total (at_place N place h) (made A N (SignalOn (suc k)) c)
    signal_weighs L W k c h lt tn q K =
        let M = signal_makes A N L W (suc k) c (outgoing N (N.tail (suc k))) q K (outgoing_is W (N.tail (suc k)) tn) in
        let to : step A N c (Accept (suc k)) ≡ settle A N (N.tail (suc k)) (freed A N (suc k) c) = ap (accepted A N (suc k) c) q in
        subst (λ d. in_flight N place d h + at_place N place h (SignalOn (suc k)) ≡ in_flight N place c h + total (at_place N place h) (made A N (SignalOn (suc k)) c)) (sym to)
        (event_weighs (at_place N place h) c (settle A N (N.tail (suc k)) (freed A N (suc k) c)) (suc k) (SignalOn (suc k)) (made A N (SignalOn (suc k)) c) lt (past_idle W c K)
        (subst (λ d. (b : ℕ) → suc N.arcs ≤ b → d.token b ≡ Idle) to (past_idle W (step A N c (Accept (suc k))) (step_kept A N L W c (Accept (suc k)) K)))
        (ap (item_of (suc k)) q) M.0 M.1)

    pub last_weighs : Lawful A → WellFormed N → (c : CoreState V) (h : ℕ → Item V → ℕ) → c.token 0 ≡ Signal → CoreInvariant A N 0 c →
        in_flight N place (step A N c (Accept 0)) h + at_place N place h (SignalOn 0) ≡ in_flight N place c h + total (at_place N place h) (made A N (SignalOn 0) c)
    last_weighs L W c h q K =
        let to : step A N c (Accept 0) ≡ freed A N 0 c = ap (accepted A N 0 c) q in
        subst (λ d. in_flight N place d h + at_place N place h (SignalOn 0) ≡ in_flight N place c h + 0) (sym to)
        (event_weighs (at_place N place h) c (freed A N 0 c) 0 (SignalOn 0) [] (omega arith) (past_idle W c K)
        (subst (λ d. (b : ℕ) → suc N.arcs ≤ b → d.token b ≡ Idle) to (past_idle W (step A N c (Accept 0)) (step_kept A N L W c (Accept 0) K)))
        (ap (item_of 0) q) (at-nil 0 ∙ ap (item_of 0) (sym (put-same c.token 0 Idle))) (λ b n. inl (put-other c.token 0 Idle b n, at-nil b)))
