-- In every run, the messages sent on an arc are at most the changes of its tail's label.
use Rattle.scholten_core.proofs.Words.{◌≡◌, ◌≢◌, ℕ, suc, ◌+◌, ◌≤◌, Bool, true, false, not, ◌&&◌, Option, Some, None, List, [], ◌∷◌, refl, sym, ap, ◌∙◌, inl, inr, arith, cases_Bool, cond-true, cond-false, false≢true, and_parts, Token, Idle, Held, Event, Algebra, IsLawful, Network, WellFormed, CoreState, opening, put, same_label, run_from, is_message, is_due, out_idle, pump, arrive, freed, settle, step, answer_to, one_if, sent_on, label_changes}
use Rattle.scholten_core.proofs.Basics.{use_same, due_tells, put_tells, same_self, one_if-most}
use Rattle.scholten_core.proofs.Ended.{opening_kept}
use Rattle.scholten_core.proofs.CoreInvariant.{CoreInvariant, arrive_kept, freed_kept, step_kept}
use Rattle.scholten_core.proofs.StepCases.{step_cases, released_changes, held_pumped, rest_told, rest_label, settle_label}

module _ {V : Type 0} (A : Algebra V) (N : Network) where
  abbrev slack : CoreState V → ℕ → ℕ
  slack c b = one_if (not (same_label A (c.told b) (c.label (N.tail b))))

  abbrev changed : CoreState V → CoreState V → ℕ → ℕ
  changed c d v = one_if (not (same_label A (c.label v) (d.label v)))

  abbrev sends : CoreState V → CoreState V → ℕ → ℕ
  sends c d b = one_if (is_message (d.token b) && not (is_message (c.token b)))

  slack_label : IsLawful A → (o l m : Option V) → one_if (not (same_label A o m)) ≤ one_if (not (same_label A o l)) + one_if (not (same_label A l m))
  slack_label L o l m = elim (cases_Bool (same_label A l m)) [
    | inl t ↦ (let e = use_same A N L l m t in let g : one_if (not (same_label A o m)) ≡ one_if (not (same_label A o l)) = ap (λ x. one_if (not (same_label A o x))) (sym e) in omega (arith, g))
    | inr f ↦ (let g : one_if (not (same_label A l m)) ≡ 1 = ap (λ t. one_if (not t)) f in let h = one_if-most (not (same_label A o m)) in omega (arith, g, h))
  ]

  no_send : (x y : Bool) → (x ≡ true → y ≡ true) → one_if (x && not y) ≡ 0
  no_send true y h = ap (λ t. one_if (not t)) (h refl)
  no_send false y h = refl

  due_slack : (v : ℕ) (d : CoreState V) (b : ℕ) → is_due A N v d b ≡ true → not (same_label A (d.told b) (d.label v)) ≡ true
  unfolding is_due
  due_slack v d b h = (and_parts _ _ h).1

  -- one vertex pumps and rests, over a state d that an arrival or a freeing made of c
  settle_sends : IsLawful A → (v : ℕ) (c d : CoreState V) (b : ℕ) → (is_message (d.token b) ≡ true → is_message (c.token b) ≡ true) →
      ((e : ℕ) → d.engager v ≡ Some e → d.token e ≡ Held) →
      sends c (settle A N v d) b + slack (settle A N v d) b ≤ slack d b
  settle_sends L v c d b m h =
      let told = ap (λ f. f b) (rest_told A N v (pump A N v d) (d.engager v) (out_idle A N v (pump A N v d))) in
      let label = ap (λ f. f (N.tail b)) (rest_label A N v (pump A N v d) (d.engager v) (out_idle A N v (pump A N v d))) in
      elim (due_tells A N L v d b) [
        | inl k ↦ (let t : (settle A N v d).told b ≡ d.label (N.tail b) = told ∙ cond-true (is_due A N v d b) _ _ k.0 ∙ ap d.label (sym k.1) in
            let z : slack (settle A N v d) b ≡ 0 = (λ i. one_if (not (same_label A (t i) (label i)))) ∙ ap (λ x. one_if (not x)) (same_self A N L (d.label (N.tail b))) in
            let w : slack d b ≡ 1 = ap (λ u. one_if (not (same_label A (d.told b) (d.label u)))) k.1 ∙ ap one_if (due_slack v d b k.0) in
            let s = one_if-most (is_message ((settle A N v d).token b) && not (is_message (c.token b))) in omega (arith, z, w, s))
        | inr k ↦ (let t : (settle A N v d).told b ≡ d.told b = told ∙ cond-false (is_due A N v d b) _ _ k.0 in
            let z : slack (settle A N v d) b ≡ slack d b = λ i. one_if (not (same_label A (t i) (label i))) in
            let u : (pump A N v d).token b ≡ d.token b = cond-false (is_due A N v d b) _ _ k.0 in
            let s : sends c (settle A N v d) b ≡ 0 = no_send _ _
            (λ q. m (elim (released_changes A N v (pump A N v d) (d.engager v) (out_idle A N v (pump A N v d)) b
            (λ e r. held_pumped A N L v d e (h e r))) [
              | inl j ↦ ap is_message (sym u) ∙ ap is_message (sym j) ∙ q
              | inr j ↦ absurd (let g = ap is_message (sym j.1) ∙ q in false≢true g)
            ])) in
            omega (arith, z, s))
      ]

  answer_silent : (o : Option ℕ) → is_message {V = V} (answer_to o) ≡ false
  answer_silent None = refl
  answer_silent (Some e) = refl

  -- the token of one arc is changed, and not into a message
  no_message : (c : CoreState V) (a b : ℕ) (t : Token V) → is_message t ≡ false → is_message (put c.token a t b) ≡ true → is_message (c.token b) ≡ true
  no_message c a b t s r = elim (put_tells c.token a t b) [
    | inl k ↦ absurd (false≢true (sym (ap is_message k.1 ∙ s) ∙ r))
    | inr k ↦ ap is_message (sym k.1) ∙ r
  ]

  abbrev Pays : CoreState V → ℕ → CoreState V → Type 0
  Pays c b u = sends c u b + slack u b ≤ slack c b + changed c u (N.tail b)

  still_pays : (c u : CoreState V) (b : ℕ) → (is_message (u.token b) ≡ true → is_message (c.token b) ≡ true) → slack u b ≡ slack c b → Pays c b u
  still_pays c u b m e = let z : sends c u b ≡ 0 = no_send (is_message (u.token b)) (is_message (c.token b)) m in omega (arith, z, e)

  settled_pays : IsLawful A → (v : ℕ) (c d : CoreState V) (b : ℕ) → d.told ≡ c.told → (is_message (d.token b) ≡ true → is_message (c.token b) ≡ true) →
      ((e : ℕ) → d.engager v ≡ Some e → d.token e ≡ Held) → Pays c b (settle A N v d)
  settled_pays L v c d b told m h =
      let s = settle_sends L v c d b m h in
      let l = slack_label L (c.told b) (c.label (N.tail b)) (d.label (N.tail b)) in
      let g : changed c (settle A N v d) (N.tail b) ≡ changed c d (N.tail b) = ap (λ f. one_if (not (same_label A (c.label (N.tail b)) (f (N.tail b))))) (settle_label A N v d) in
      let t : slack d b ≡ one_if (not (same_label A (c.told b) (d.label (N.tail b)))) = ap (λ f. one_if (not (same_label A (f b) (d.label (N.tail b))))) told in
      omega (arith, s, l, g, t)

  step_sends : IsLawful A → WellFormed N → (c : CoreState V) (e : Event) → CoreInvariant A N 0 c → (b : ℕ) → Pays c b (step A N c e)
  step_sends L W c e K b = step_cases A N (λ u. Pays c b u) c e
      (still_pays c c b (λ r. r) refl)
      (λ a x _ q. settled_pays L (N.head a) c (arrive A N a x c) b refl (no_message c a b (answer_to (c.engager (N.head a))) (answer_silent (c.engager (N.head a))))
      (λ e r. ((arrive_kept A N L W a x c q K).engager_held (N.head a) e r).0))
      (λ q. still_pays c (freed A N 0 c) b (no_message c 0 b Idle refl) refl)
      (λ k q. settled_pays L (N.tail (suc k)) c (freed A N (suc k) c) b refl (no_message c (suc k) b Idle refl)
      (λ e r. ((freed_kept A N W (suc k) c q K).engager_held (N.tail (suc k)) e r).0))

  run_sends : IsLawful A → WellFormed N → (c : CoreState V) (es : List Event) → CoreInvariant A N 0 c → (b : ℕ) →
      sent_on A N b c es + slack (run_from A N c es) b ≤ slack c b + label_changes A N (N.tail b) c es
  run_sends L W c [] K b = omega arith
  run_sends L W c (e ∷ es) K b =
      let s = step_sends L W c e K b in
      let r = run_sends L W (step A N c e) es (step_kept A N L W c e K) b in
      omega (arith, s, r)

  -- in every run, the messages sent on an arc are at most the changes of its tail's label
  pub sends_at_most : IsLawful A → WellFormed N → (es : List Event) (b : ℕ) → sent_on A N b (opening A N) es ≤ label_changes A N (N.tail b) (opening A N) es
  sends_at_most L W es b = let r = run_sends L W (opening A N) es (opening_kept A N W) b in omega (arith, r)
