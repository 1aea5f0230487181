-- The items that the one part of a plan takes, best first, are events that take the best waiting
-- message first.
use Rattle.shard_part.proofs.Words.{◌≡◌, ◌≢◌, ◌⊎◌, ℕ, suc, ◌+◌, ◌<◌, ◌≤◌, Bool, cond, List, [], ◌∷◌, ◌++◌, map, set, get_or, refl, sym, ap, ◌∙◌, subst, inl, inr, arith, eq-eqb, ne_eqb, get_or-set_other, IsTrue, IsSome, AllOf, cases_eq, cases_lt, false≢true, HasArc, arc_of, Algebra, Lawful, same_no_worse, Message, Item, MessageOn, SignalOn, Event, Network, WellFormed, CoreState, opening, step, run_from, improves, item_of, Agree, sum_term, one_if-most, CoreInvariant, step_kept, opening_kept, token_told, well_formed, BestFirst, is_first, SetupData, network_of, place_in, IsPlanned, total, place_below, total_permutation, PartData, state_in, vertex_of, event_of, mine, Channels, at_place, in_flight, outs_weight, part_weight, route, routes, made, GoesAtOnce, IsInTurn, HandledItemIn, HandledAll, HoldsTables, HoldsShareIn, RepresentsIn, opened_part, opened_parts}
use Rattle.scholten_core.specs.Accounts.{count_marked}
use Rattle.scholten_core.specs.BestFirst.{TakesBest, IsBestFirst}
use Rattle.scholten_core.proofs.EveryRun.{best_first_most}
use Rattle.shard_store.specs.Queue.{IsNoWorseOn, IsBestMessage}
use Rattle.shard_part.specs.OnePart.{HasOneBestFirstPart, OwnOutboxIsEmpty}
use Rattle.shard_part.proofs.TakenIsEvent.{Stands, marks, marks_self, marks_true, item_stands, handled_event}
use Rattle.shard_part.proofs.TakenCounts.{runs, handled_same}
use Rattle.shard_part.proofs.InFlight.{past_idle}
use Rattle.shard_part.proofs.Opened.{opened_holds, reads_same}
use Rattle.shard_part.proofs.OpenedAll.{opened_show}
use Rattle.shard_part.proofs.Showing.{AllLawful}

module _ {V : Type 0} (A : Algebra V) (N : Network) where
  -- events that take the best, and then more
  pub best_first_more : (c : CoreState V) (es fs : List Event) → IsBestFirst A N c es → IsBestFirst A N (run_from A N c es) fs → IsBestFirst A N c (es ++ fs)
  best_first_more c [] fs h k = k
  best_first_more c (e ∷ es) fs h k = (h.0, best_first_more (step A N c e) es fs h.1 k)

-- what is put where it belongs does not go to the outbox of the own shard
module _ {V : Type 0} (N : Network) (place : ℕ → ℕ) where
  own_routed : (s : ℕ) (i : Item V) (l : Channels V) → get_or l.outs s [] ≡ [] → get_or (route N place s i l).outs s [] ≡ []
  own_routed s i l e =
      let here : Channels V = record { queue = l.queue ++ i ∷ []; outs = l.outs } in
      let there : Channels V = record { queue = l.queue; outs = set l.outs (place (vertex_of N i)) (get_or l.outs (place (vertex_of N i)) [] ++ i ∷ []) } in
      elim (cases_eq (place (vertex_of N i)) s) [
        | inl same ↦ ap (λ (b : Bool). get_or (cond b here there).outs s []) (eq-eqb (place (vertex_of N i)) s same) ∙ e
        | inr ne ↦ ap (λ (b : Bool). get_or (cond b here there).outs s []) (ne_eqb (place (vertex_of N i)) s ne)
            ∙ get_or-set_other l.outs (place (vertex_of N i)) s (get_or l.outs (place (vertex_of N i)) [] ++ i ∷ []) [] (λ q. ne (sym q)) ∙ e
      ]

  all_routed : (s : ℕ) (is : List (Item V)) (l : Channels V) → get_or l.outs s [] ≡ [] → get_or (routes N place s is l).outs s [] ≡ []
  all_routed s [] l e = e
  all_routed s (i ∷ is) l e = all_routed s is (route N place s i l) (own_routed s i l e)

module _ {S V : Type 0} (A : Algebra V) (N : Network) (place : ℕ → ℕ) where
  own_kept : (p : PartData S V) (i : Item V) (q : PartData S V) → HandledItemIn A N place p i q → OwnOutboxIsEmpty p → OwnOutboxIsEmpty q
  own_kept p i q T e = subst (λ s. get_or q.outs s [] ≡ []) (sym T.shard)
      (ap (λ (l : Channels V). get_or l.outs p.shard []) T.channels ∙ all_routed N place p.shard (made A N i (state_in p)) (record { queue = T.rest; outs = p.outs }) e)

module _ {S V : Type 0} (meaning : S → Algebra V) where
  -- so it stays empty
  pub own_stays : (items : List (Item V)) (p q : PartData S V) → HandledAll meaning p items q → OwnOutboxIsEmpty p → OwnOutboxIsEmpty q
  own_stays [] p q e h = subst (λ (u : PartData S V). OwnOutboxIsEmpty u) e h
  own_stays (i ∷ items) p q (m, T, rest) h = own_stays items m q rest (own_kept (meaning p.setup.diffusion.algebra) (network_of p.setup) (place_in p.setup) p i m T h)

module _ {V : Type 0} (A : Algebra V) (L : Lawful A) (s : ℕ) (i : Item V) where
  -- an item is marked at its own shard alone
  unmarked : (r : ℕ) (xs : List (Item V)) → r ≢ s → total (marks A s i r) xs ≡ 0
  unmarked r [] ne = refl
  unmarked r (x ∷ xs) ne = elim (cases_lt 0 (marks A s i r x)) [
    | inl l ↦ absurd (ne (marks_true A L s i r x l).0)
    | inr l ↦ (let e = unmarked r xs ne in omega (arith, l, e))
  ]

  -- what holds of each item of a list holds of one that is marked there
  of_marked : (P : Item V → Type 0) (xs : List (Item V)) → AllOf P xs → 0 < total (marks A s i s) xs → P i
  of_marked P [] h l = absurd (omega (arith, l))
  of_marked P (x ∷ xs) h l = elim (cases_lt 0 (marks A s i s x)) [
    | inl m ↦ subst P (marks_true A L s i s x m).1 (h 0 x (omega arith))
    | inr m ↦ of_marked P xs (λ k d b. h (suc k) d (omega (arith, b))) (omega (arith, l, m))
  ]

outs_light : {V : Type 0} (h : ℕ → Item V → ℕ) (k : ℕ) (os : List (List (Item V))) → ((j : ℕ) → total (h (k + j)) (get_or os j []) ≡ 0) → outs_weight h k os ≡ 0
outs_light h k [] e = refl
outs_light h k (o ∷ os) e =
    let a : total (h k) o ≡ 0 = ap (λ z. total (h z) o) (let z : k ≡ k + 0 = omega arith in z) ∙ e 0 in
    let b = outs_light h (suc k) os (λ j. ap (λ z. total (h z) (get_or os j [])) (let z : suc k + j ≡ k + suc j = omega arith in z) ∙ e (suc j)) in omega (arith, a, b)

-- one part that has all items under way, in a state that events lead to
module _ {S V : Type 0} (A : Algebra V) (N : Network) (place : ℕ → ℕ) (L : Lawful A) (W : WellFormed N) (c : CoreState V) (p : PartData S V) (K : CoreInvariant A N 0 c)
    (all : (v : ℕ) → place v ≡ p.shard) (own : OwnOutboxIsEmpty p) (weighs : (h : ℕ → Item V → ℕ) → part_weight h p ≡ in_flight N place c h) where
  -- each message waits in its queue
  waits_here : (b : ℕ) (y : V) → c.token b ≡ Message y → 0 < total (marks A p.shard (MessageOn b y) p.shard) p.queue
  waits_here b y e = elim (cases_lt b (suc N.arcs)) [
    | inr l ↦ absurd (let g = sym e ∙ past_idle A N W c K b l in cc)
    | inl l ↦ (
        let i : Item V = MessageOn b y in let h : ℕ → Item V → ℕ = marks A p.shard i in
        let w = weighs h in let t = sum_term (λ a. total (at_place N place h) (item_of a (c.token a))) b (suc N.arcs) l in
        let m : h (place (N.head b)) i ≡ 1 = ap (λ z. h z i) (all (N.head b)) ∙ marks_self A L p.shard i in
        let u : total (at_place N place h) (item_of b (c.token b)) ≡ h (place (N.head b)) i + 0 = ap (λ z. total (at_place N place h) (item_of b z)) e in
        let o : outs_weight h 0 p.outs ≡ 0 = outs_light h 0 p.outs (λ j. elim (cases_eq (0 + j) p.shard) [
          | inl q ↦ ap (total (h (0 + j))) (ap (λ z. get_or p.outs z []) (let z : j ≡ p.shard = omega (arith, q) in z) ∙ own)
          | inr ne ↦ unmarked A L p.shard i (0 + j) (get_or p.outs j []) ne
        ]) in
        omega (arith, w, t, m, u, o))
  ]

  -- so what it takes in its turn is the best
  takes_best : Agree A N (mine place p.shard) c (state_in p) → p.setup.order ≡ BestFirst → (i : Item V) (q : PartData S V) → HandledItemIn A N place p i q → Stands A N place c p.shard i → TakesBest A N c (event_of i)
  takes_best G o (SignalOn a) q T F = tt
  takes_best G o (MessageOn a z) q T F = λ x e better b y f worse.
      let same : z ≡ x = (let g = sym (token_told A N a z [] (c.token a) F.token) ∙ e in cc) in
      let turn : GoesAtOnce A N (state_in p) (MessageOn a z) ⊎ IsBestMessage A.no_worse (MessageOn a z) T.rest =
      subst (λ r. IsInTurn A N r (state_in p) p.queue (MessageOn a z) T.rest) o T.in_turn in
      let here = waits_here b y f in
      let split = total_permutation (marks A p.shard (MessageOn b y) p.shard) p.queue (MessageOn a z ∷ T.rest) T.left in
      subst (λ u. IsTrue (A.no_worse u y)) same (elim turn [
        | inl stale ↦ absurd (false≢true (sym stale ∙ ap (improves A z) (G.label (N.head a) (eq-eqb (place (N.head a)) p.shard F.here)) ∙ ap (λ u. improves A u (c.label (N.head a))) same ∙ better))
        | inr best ↦ elim (cases_lt 0 (marks A p.shard (MessageOn b y) p.shard (MessageOn a z))) [
          | inl m ↦ (
              let is : MessageOn a z ≡ MessageOn b y = (marks_true A L p.shard (MessageOn b y) p.shard (MessageOn a z) m).1 in
              let value : z ≡ y = (let g = is in cc) in subst (λ u. IsTrue (A.no_worse z u)) value (same_no_worse A.no_worse L.ordered z))
          | inr m ↦ (of_marked A L p.shard (MessageOn b y) (IsNoWorseOn A.no_worse a z) T.rest best (omega (arith, here, split, m))).0
        ]
      ])

module _ {S V : Type 0} (meaning : S → Algebra V) (L : AllLawful meaning) (t : SetupData S) (W : WellFormed (network_of t)) (o : t.order ≡ BestFirst) where
  -- the same of items, one after the other
  pub all_best : (items : List (Item V)) (p q : PartData S V) (c : CoreState V) → CoreInvariant (meaning t.diffusion.algebra) (network_of t) 0 c → p.setup ≡ t
      → HoldsTables (meaning t.diffusion.algebra) (network_of t) (place_in t) c p → ((h : ℕ → Item V → ℕ) → part_weight h p ≡ in_flight (network_of t) (place_in t) c h)
      → ((v : ℕ) → place_in t v ≡ p.shard) → OwnOutboxIsEmpty p → HandledAll meaning p items q → IsBestFirst (meaning t.diffusion.algebra) (network_of t) c (map event_of items)
  all_best [] p q c K e G weighs all own T = tt
  all_best (i ∷ items) p q c K e G weighs all own (m, T, rest) =
      let A = meaning t.diffusion.algebra in let N = network_of t in
      let handled_in : HandledItemIn (meaning t.diffusion.algebra) (network_of t) (place_in t) p i m = subst (λ (u : SetupData S). HandledItemIn (meaning u.diffusion.algebra) (network_of u) (place_in u) p i m) e T in
      let H : HoldsShareIn A N (place_in t) c p = record { tables = G; weighs = λ h. let w = weighs h in omega (arith, w) } in
      let E = handled_event A N (place_in t) (L t.diffusion.algebra) W c p i m K H handled_in in (
        takes_best A N (place_in t) (L t.diffusion.algebra) W c p K all own weighs G.agree (ap (λ (u : SetupData S). u.order) e ∙ o) i m handled_in
            (item_stands A N (place_in t) (L t.diffusion.algebra) c p i handled_in.rest H handled_in.left),
        all_best items m q (step A N c (event_of i)) (step_kept A N (L t.diffusion.algebra) W c (event_of i) K) (handled_in.setup ∙ e) E.holds.tables
            (λ h. let a = E.weighs h in let b = weighs h in omega (arith, a, b)) (λ v. all v ∙ sym handled_in.shard)
            (own_kept A N (place_in t) p i m handled_in own) rest,
      )

-- from its opening on
module _ {S V : Type 0} (meaning : S → Algebra V) (L : AllLawful meaning) (t : SetupData S) (P : IsPlanned t 0) (one : HasOneBestFirstPart t) where
  abbrev opened : PartData S V
  opened = opened_part (meaning t.diffusion.algebra) t 0

  formed : WellFormed (network_of t)
  formed = well_formed t.diffusion.roads t.diffusion.source P.roads P.source.0

  all_here : (v : ℕ) → place_in t v ≡ 0
  all_here v = let l = place_below t 0 P v in let e = one.0 in omega (arith, l, e)

  shown : RepresentsIn (meaning t.diffusion.algebra) (network_of t) (place_in t) (opened ∷ []) (λ _. 0) (opening (meaning t.diffusion.algebra) (network_of t))
  shown = subst (λ n. RepresentsIn (meaning t.diffusion.algebra) (network_of t) (place_in t) (opened_parts (meaning t.diffusion.algebra) t 0 n) (λ _. 0) (opening (meaning t.diffusion.algebra) (network_of t)))
      one.0 (opened_show (meaning t.diffusion.algebra) t P (λ _. 0) (λ _. refl))

  pub opened_takes_best : (items : List (Item V)) (q : PartData S V) → HandledAll meaning opened items q
      → IsBestFirst (meaning t.diffusion.algebra) (network_of t) (opening (meaning t.diffusion.algebra) (network_of t)) (map event_of items)
  opened_takes_best items q T = all_best meaning L t formed one.1 items opened q (opening (meaning t.diffusion.algebra) (network_of t))
      (opening_kept (meaning t.diffusion.algebra) (network_of t) formed) refl shown.tables.0 (λ h. let w = shown.weighs h in omega (arith, w)) all_here (reads_same t.plan.shards [] 0) T

  -- and has sent at most one message along each arc out of a labelled vertex
  pub opened_sends_once : (items : List (Item V)) (q : PartData S V) → HandledAll meaning opened items q → (marked : ℕ → Bool)
      → ((a : ℕ) → HasArc t.diffusion.roads a → IsSome ((state_in q).label (arc_of t.diffusion.roads a).tail) → IsTrue (marked a)) → q.sent ≤ 1 + count_marked t.diffusion.roads marked
  opened_sends_once items q T marked M =
      let A = meaning t.diffusion.algebra in let N = network_of t in
      let first = one_if-most (is_first t 0) in
      let R = runs meaning t (L t.diffusion.algebra) formed items opened q (opening A N) refl (omega (arith, first), omega arith, omega arith, omega arith) (opening_kept A N formed)
      (opened_holds A t 0 P) T in
      let most = best_first_most A t.diffusion.roads t.diffusion.source (L t.diffusion.algebra) P.roads P.source (map event_of items) (opened_takes_best items q T) marked
      (λ a h some. M a h (subst IsSome (sym (R.holds.tables.agree.label (arc_of t.diffusion.roads a).tail
      (eq-eqb (place_in t (arc_of t.diffusion.roads a).tail) q.shard (all_here (arc_of t.diffusion.roads a).tail ∙ sym (handled_same meaning items opened q T).1)))) some)) in
      let s = R.sent in omega (arith, s, most, first)
