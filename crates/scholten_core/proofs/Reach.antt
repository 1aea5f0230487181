-- Where all values are the same and no extension refuses, an ended run has sent one message for
-- each arc whose tail is reached.
use Rattle.scholten_core.proofs.Words.{◌≡◌, ◌≢◌, ℕ, suc, ◌+◌, ◌≤◌, Bool, true, false, not, ◌&&◌, is_some, Option, Some, None, List, [], ◌∷◌, ◌⊎◌, refl, sym, ap, ◌∙◌, inl, inr, arith, cases_eq, cond-true, cond-false, and_from, Idle, Message, Held, Event, Algebra, IsLawful, Network, WellFormed, Walk, CoreState, state_after, opening, same_label, run_from, is_message, is_due, out_idle, pump, arrive, released, freed, settle, step, sent, extend_label, answer_to, sum_below, one_if, sent_on, label_changes, count_sent, sent_total, due_tells, put_tells, sum_zero, sum_add, sum_same, one_if-most}
use Rattle.scholten_core.proofs.MessagesFollowLabels.{sends_at_most}
use Rattle.scholten_core.proofs.Ended.{opening_kept, reached_kept, ended}
use Rattle.scholten_core.proofs.CoreInvariant.{CoreInvariant, AtMost_arrive, arrive_kept, freed_kept, step_kept}
use Rattle.scholten_core.proofs.StepCases.{step_cases, released_changes, held_pumped, rest_told, settle_label}

module _ {V : Type 0} (A : Algebra V) (N : Network) where
  pub record IsOneValued : Type 0 where
    pub all : (x y : V) → A.no_worse x y ≡ true
    pub always : (x : V) (w : ℕ) → (y : V) × (A.extend x w ≡ Some y)

  -- a label stays a label

  step_stays : IsLawful A → IsOneValued → (c : CoreState V) (e : Event) (v : ℕ) → (x : V) → c.label v ≡ Some x → (y : V) × ((step A N c e).label v ≡ Some y)
  step_stays L U c e v x p = step_cases A N (λ d. (y : V) × (d.label v ≡ Some y)) c e
      (x, p)
      (λ a z _ _. let m = AtMost_arrive A N L a z c v x (x, p, U.all x x) in (m.0, ap (λ f. f v) (settle_label A N (N.head a) (arrive A N a z c)) ∙ m.1))
      (λ q. (x, p))
      (λ k q. (x, ap (λ f. f v) (settle_label A N (N.tail (suc k)) (freed A N (suc k) c)) ∙ p))

  once : IsOneValued → (o p : Option V) → ((x : V) → o ≡ Some x → (y : V) × (p ≡ Some y)) →
      one_if (not (same_label A o p)) + one_if (not (is_some p)) ≤ one_if (not (is_some o))
  once U None None h = omega arith
  once U None (Some y) h = omega arith
  once U (Some x) None h = absurd (let k = h x refl in let g = k.1 in cc)
  once U (Some x) (Some y) h = let e : one_if (not (same_label A (Some x) (Some y))) ≡ 0 = ap (λ t. one_if (not t)) (and_from _ _ (U.all x y) (U.all y x)) in omega (arith, e)

  changes_once : IsLawful A → IsOneValued → (c : CoreState V) (es : List Event) (v : ℕ) →
      label_changes A N v c es + one_if (not (is_some ((run_from A N c es).label v))) ≤ one_if (not (is_some (c.label v)))
  changes_once L U c [] v = omega arith
  changes_once L U c (e ∷ es) v =
      let s = once U (c.label v) ((step A N c e).label v) (step_stays L U c e v) in
      let r = changes_once L U (step A N c e) es v in omega (arith, s, r)

  -- what was offered was sent

  rest_message : (v : ℕ) (p : CoreState V) (o : Option ℕ) (t : Bool) (b : ℕ) (y : V) → ((e : ℕ) → o ≡ Some e → p.token e ≡ Held) → p.token b ≡ Message y → (released A N v p o t).token b ≡ Message y
  rest_message v p o t b y h q = elim (released_changes A N v p o t b h) [ inl k ↦ k ∙ q | inr k ↦ absurd (let g = k.0 in cc) ]

  told_of : IsOneValued → (o : Option V) (w : ℕ) → (o ≡ None) ⊎ ((y : V) × (sent (extend_label A o w) ≡ Message y))
  told_of U None w = inl refl
  told_of U (Some x) w = let e = U.always x w in inr (e.0, ap sent e.1)

  settle_told : IsLawful A → IsOneValued → (v : ℕ) (c d : CoreState V) (b : ℕ) → (d.token b ≡ Idle → is_message (c.token b) ≡ false) → d.told b ≡ c.told b →
      ((e : ℕ) → d.engager v ≡ Some e → d.token e ≡ Held) →
      one_if (is_some ((settle A N v d).told b)) ≤ one_if (is_some (c.told b)) + one_if (is_message ((settle A N v d).token b) && not (is_message (c.token b)))
  settle_told L U v c d b m t h =
      let told = ap (λ f. f b) (rest_told A N v (pump A N v d) (d.engager v) (out_idle A N v (pump A N v d))) in
      elim (due_tells A N L v d b) [
        | inl k ↦ (elim (told_of U (d.label v) (N.weight b)) [
          | inl n ↦ (let z : one_if (is_some ((settle A N v d).told b)) ≡ 0 = ap (λ o. one_if (is_some o)) (told ∙ cond-true (is_due A N v d b) _ _ k.0 ∙ n) in omega (arith, z))
          | inr y ↦ (let q : (settle A N v d).token b ≡ Message y.0 =
              rest_message v (pump A N v d) (d.engager v) (out_idle A N v (pump A N v d)) b y.0 (λ e r. held_pumped A N L v d e (h e r)) (cond-true (is_due A N v d b) _ _ k.0 ∙ y.1) in
              let s : one_if (is_message ((settle A N v d).token b) && not (is_message (c.token b))) ≡ 1 = (λ i. one_if (is_message (q i) && not (m k.2 i))) in
              let l = one_if-most (is_some ((settle A N v d).told b)) in omega (arith, s, l))
        ])
        | inr k ↦ (let z : one_if (is_some ((settle A N v d).told b)) ≡ one_if (is_some (c.told b)) = ap (λ o. one_if (is_some o)) (told
            ∙ cond-false (is_due A N v d b) _ _ k.0 ∙ t) in omega (arith, z))
      ]

  busy_answer : (o : Option ℕ) → answer_to {V = V} o ≡ Idle → ⊥
  busy_answer None h = cc
  busy_answer (Some e) h = cc

  abbrev Covers : CoreState V → CoreState V → ℕ → Type 0
  Covers c d b = one_if (is_some (d.told b)) ≤ one_if (is_some (c.told b)) + one_if (is_message (d.token b) && not (is_message (c.token b)))

  step_told : IsLawful A → WellFormed N → IsOneValued → (c : CoreState V) (e : Event) → CoreInvariant A N 0 c → (b : ℕ) → Covers c (step A N c e) b
  step_told L W U c e K b = step_cases A N (λ d. Covers c d b) c e
      (omega arith)
      (λ a x _ q. settle_told L U (N.head a) c (arrive A N a x c) b
      (λ i. elim (put_tells c.token a (answer_to (c.engager (N.head a))) b) [
        | inl k ↦ absurd (busy_answer (c.engager (N.head a)) (sym k.1 ∙ i))
        | inr k ↦ ap is_message (sym k.1 ∙ i)
      ])
      refl (λ e r. ((arrive_kept A N L W a x c q K).engager_held (N.head a) e r).0))
      (λ q. omega arith)
      (λ k q. settle_told L U (N.tail (suc k)) c (freed A N (suc k) c) b
      (λ i. elim (put_tells c.token (suc k) Idle b) [
        | inl j ↦ ap is_message (ap c.token j.0 ∙ q)
        | inr j ↦ ap is_message (sym j.1 ∙ i)
      ])
      refl (λ e r. ((freed_kept A N W (suc k) c q K).engager_held (N.tail (suc k)) e r).0))

  told_sent : IsLawful A → WellFormed N → IsOneValued → (c : CoreState V) (es : List Event) → CoreInvariant A N 0 c → (b : ℕ) →
      one_if (is_some ((run_from A N c es).told b)) ≤ one_if (is_some (c.told b)) + sent_on A N b c es
  told_sent L W U c [] K b = omega arith
  told_sent L W U c (e ∷ es) K b =
      let s = step_told L W U c e K b in
      let r = told_sent L W U (step A N c e) es (step_kept A N L W c e K) b in omega (arith, s, r)

  -- no walk ends in the environment
  pub walk_end : WellFormed N → (u : ℕ) (p : List ℕ) (v : ℕ) → u ≢ 0 → Walk A N u p v → v ≢ 0
  walk_end W u [] v n w = λ e. n (w ∙ e)
  walk_end W u (a ∷ p) v n w = walk_end W (N.head a) p v (W.head_in a w.0) w.2

  pub total_by_arc : (c : CoreState V) (es : List Event) → sent_total A N c es ≡ sum_below (λ b. sent_on A N b c es) (suc N.arcs)
  total_by_arc c [] = sym (sum_zero (λ b. 0) (suc N.arcs) (λ b. refl))
  total_by_arc c (e ∷ es) = ap (λ k. count_sent A N c (step A N c e) + k) (total_by_arc (step A N c e) es)
      ∙ sym (sum_add (λ b. one_if (is_message ((step A N c e).token b) && not (is_message (c.token b)))) (λ b. sent_on A N b (step A N c e) es) (suc N.arcs))

  one_or_not : (o : Option V) → one_if (is_some o) + one_if (not (is_some o)) ≡ 1
  one_or_not None = refl
  one_or_not (Some x) = refl

  sent_exactly : IsLawful A → WellFormed N → IsOneValued → (es : List Event) → (state_after A N es).token 0 ≡ Idle → (b : ℕ) →
      sent_on A N b (opening A N) es ≡ one_if (is_some ((state_after A N es).label (N.tail b)))
  sent_exactly L W U es q b =
      let K = reached_kept A N L W es in
      let Q = (ended A N L W es q).0 in
      let high = sends_at_most A N L W es b in
      let once = changes_once L U (opening A N) es (N.tail b) in
      let part = one_or_not ((state_after A N es).label (N.tail b)) in
      let low = told_sent L W U (opening A N) es (opening_kept A N W) b in
      elim (cases_eq (N.tail b) 0) [
        | inl z ↦ (let none : (state_after A N es).label (N.tail b) ≡ None = no_label K ((state_after A N es).label (N.tail b)) refl z in
            let e : one_if (is_some ((state_after A N es).label (N.tail b))) ≡ 0 = ap (λ o. one_if (is_some o)) none in omega (arith, high, once, part, e))
        | inr n ↦ (let t : one_if (is_some ((state_after A N es).told b)) ≡ one_if (is_some ((state_after A N es).label (N.tail b))) = ap (λ o. one_if (is_some o)) (K.idle_told b n n (Q.0 b)) in
            omega (arith, high, once, part, low, t))
      ]
    where
      no_label : CoreInvariant A N 0 (state_after A N es) → (o : Option V) → (state_after A N es).label (N.tail b) ≡ o → N.tail b ≡ 0 → (state_after A N es).label (N.tail b) ≡ None
      no_label K None h z = h
      no_label K (Some x) h z = absurd (let w = K.label_walk (N.tail b) x h in walk_end W N.source w.0 (N.tail b) W.source_in w.1 z)

  -- besides the opening's message, one for each arc whose tail has a label
  pub reach_sends : IsLawful A → WellFormed N → IsOneValued → (es : List Event) → (state_after A N es).token 0 ≡ Idle →
      sent_total A N (opening A N) es ≡ sum_below (λ b. one_if (is_some ((state_after A N es).label (N.tail b)))) (suc N.arcs)
  reach_sends L W U es q = total_by_arc (opening A N) es ∙ sum_same (λ b. sent_on A N b (opening A N) es) _ (suc N.arcs) (sent_exactly L W U es q)
