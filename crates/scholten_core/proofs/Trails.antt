-- Labels are values of walks that pass no vertex twice, through each event.
use Rattle.scholten_core.proofs.Words.{◌≡◌, ◌≢◌, ℕ, suc, Bool, true, false, not, Option, Some, None, List, [], ◌∷◌, ◌⊎◌, refl, sym, ap, ◌∙◌, subst, inl, inr, cases_eq, cases_Bool, cond-true, cond-false, false≢true, and_parts, not-true, Idle, Message, Signal, Event, Algebra, IsLawful, Network, WellFormed, CoreState, opening, state_after, pump, arrive, rest, released, freed, step, out_idle, answer_to, improves, better_of, put_tells, sent_message, AtMost}
use Rattle.scholten_core.proofs.CoreInvariant.{CoreInvariant, pumped, head_real, AtMost_arrive, AtMost_arrived}
use Rattle.scholten_core.proofs.StepCases.{step_cases, run_cases, tail_real}
use Rattle.scholten_core.proofs.Ended.{opening_kept}

module _ {V : Type 0} (A : Algebra V) (N : Network) where
  -- w is the source, or the head of an arc of p
  abbrev pub Visits : List ℕ → ℕ → Type 0
  Visits [] w = w ≡ N.source
  Visits (a ∷ p) w = (w ≡ N.head a) ⊎ Visits p w

  -- the arcs p, the last one first, lead from the source to v with the value x and pass no vertex
  -- twice, and at each vertex the label is no worse than the value up to it
  abbrev pub IsTrail : (ℕ → Option V) → List ℕ → ℕ → V → Type 0
  IsTrail label [] v x = (v ≡ N.source) × (x ≡ A.origin) × AtMost A N label v x
  IsTrail label (a ∷ p) v x = (y : V) × IsTrail label p (N.tail a) y × (N.tail a ≢ 0) × (v ≡ N.head a) × (A.extend y (N.weight a) ≡ Some x) × (Visits p v → ⊥) × AtMost A N label v x

  trail_value : IsLawful A → WellFormed N → (label : ℕ → Option V) (p : List ℕ) (v : ℕ) (x : V) → IsTrail label p v x → A.is_value x ≡ true
  trail_value L W label [] v x t = subst (λ z. A.is_value z ≡ true) (sym t.1) L.origin_is_value
  trail_value L W label (a ∷ p) v x t = L.extend_is_value t.0 (N.weight a) x (trail_value L W label p (N.tail a) t.0 t.1) (W.weighs a t.2) t.4

  -- a label no worse than y is no worse than y extended
  further : IsLawful A → WellFormed N → (label : ℕ → Option V) (v : ℕ) (y : V) (a : ℕ) (x : V) → A.is_value y ≡ true → N.tail a ≢ 0
      → A.extend y (N.weight a) ≡ Some x → AtMost A N label v y → AtMost A N label v x
  further L W label v y a x iy r e m = (m.0, m.1, L.ordered.transitive m.0 y x m.2 (L.never_better y (N.weight a) x iy (W.weighs a r) e))

  -- at each vertex of the trail the label is no worse than the trail's value
  trail_seen : IsLawful A → WellFormed N → (label : ℕ → Option V) (p : List ℕ) (v : ℕ) (x : V) → IsTrail label p v x → (w : ℕ) → Visits p w → AtMost A N label w x
  trail_seen L W label [] v x t w e = subst (λ u. AtMost A N label u x) (t.0 ∙ sym e) t.2
  trail_seen L W label (a ∷ p) v x t w e = elim e [
    | inl h ↦ subst (λ u. AtMost A N label u x) (t.3 ∙ sym h) t.6
    | inr h ↦ further L W label w t.0 a x (trail_value L W label p (N.tail a) t.0 t.1) t.2 t.4 (trail_seen L W label p (N.tail a) t.0 t.1 w h)
  ]

  -- labels only improve, so a trail lasts
  trail_lasts : (f h : ℕ → Option V) → ((v : ℕ) (y : V) → AtMost A N f v y → AtMost A N h v y) → (p : List ℕ) (v : ℕ) (x : V) → IsTrail f p v x → IsTrail h p v x
  trail_lasts f h m [] v x t = (t.0, t.1, m v x t.2)
  trail_lasts f h m (a ∷ p) v x t = (t.0, trail_lasts f h m p (N.tail a) t.0 t.1, t.2, t.3, t.4, t.5, m v x t.6)

  -- each label is the value of a trail, and each message that of a trail to its arc's tail,
  -- extended
  pub record Trails (c : CoreState V) : Type 0 where
    pub label : (v : ℕ) (x : V) → c.label v ≡ Some x → (p : List ℕ) × IsTrail c.label p v x
    pub message : (b : ℕ) (x : V) → b ≢ 0 → c.token b ≡ Message x → (p : List ℕ) × (y : V) × IsTrail c.label p (N.tail b) y × (N.tail b ≢ 0) × (A.extend y (N.weight b) ≡ Some x)

  not_improved : (x z : V) → A.no_worse z x ≡ true → improves A x (Some z) ≡ true → ⊥
  not_improved x z h i = false≢true (sym (not-true (A.no_worse z x) (and_parts (A.no_worse x z) (not (A.no_worse z x)) i).1) ∙ h)

  answer_silent : (o : Option ℕ) (x : V) → answer_to o ≡ Message x → ⊥
  answer_silent None x q = cc
  answer_silent (Some e) x q = cc

  -- the label that a message leaves at its head
  arrived_trail : IsLawful A → WellFormed N → (a : ℕ) (x : V) (c : CoreState V) → c.token a ≡ Message x → CoreInvariant A N 0 c → Trails c →
      (z : V) → better_of A x (c.label (N.head a)) ≡ Some z → (p : List ℕ) × IsTrail (arrive A N a x c).label p (N.head a) z
  arrived_trail L W a x c q K T z e = elim (cases_Bool (improves A x (c.label (N.head a)))) [
    | inr f ↦ (let t = T.label (N.head a) z (sym (cond-false _ (Some x) (c.label (N.head a)) f) ∙ e) in
        (t.0, trail_lasts c.label (arrive A N a x c).label (λ v y m. AtMost_arrive A N L a x c v y m) t.0 (N.head a) z t.1))
    | inl i ↦ (let s : x ≡ z = (let g = cond-true _ (Some x) (c.label (N.head a)) i in cc) in
        subst (λ y. (p : List ℕ) × IsTrail (arrive A N a x c).label p (N.head a) y) s (elim (cases_eq a 0) [
          | inl k ↦ ([], (ap N.head k ∙ W.head_zero, K.entry_origin x (ap c.token (sym k) ∙ q), AtMost_arrived A N L a x c))
          | inr n ↦ (let t = T.message a x n q in (
            a ∷ t.0,
            (
              t.1,
              trail_lasts c.label (arrive A N a x c).label (λ v y m. AtMost_arrive A N L a x c v y m) t.0 (N.tail a) t.1 t.2,
              t.3,
              refl,
              t.4,
              (λ h. let m = further L W c.label (N.head a) t.1 a x (trail_value L W c.label t.0 (N.tail a) t.1 t.2) t.3 t.4 (trail_seen L W c.label t.0 (N.tail a) t.1 t.2 (N.head a) h) in
                  not_improved x m.0 m.2 (ap (improves A x) (sym m.1) ∙ i)),
              AtMost_arrived A N L a x c,
            ),
          ))
        ]))
  ]

  arrive_trails : IsLawful A → WellFormed N → (a : ℕ) (x : V) (c : CoreState V) → c.token a ≡ Message x → CoreInvariant A N 0 c → Trails c → Trails (arrive A N a x c)
  arrive_trails L W a x c q K T = record {
    label = λ u z e. elim (put_tells c.label (N.head a) (better_of A x (c.label (N.head a))) u) [
      | inl h ↦ (let t = arrived_trail L W a x c q K T z (sym h.1 ∙ e) in (t.0, subst (λ w. IsTrail (arrive A N a x c).label t.0 w z) (sym h.0) t.1))
      | inr h ↦ (let t = T.label u z (sym h.1 ∙ e) in (t.0, trail_lasts c.label (arrive A N a x c).label (λ v y m. AtMost_arrive A N L a x c v y m) t.0 u z t.1))
    ];
    message = λ b y n e. elim (put_tells c.token a (answer_to (c.engager (N.head a))) b) [
      | inl h ↦ absurd (answer_silent (c.engager (N.head a)) y (sym h.1 ∙ e))
      | inr h ↦ (let t = T.message b y n (sym h.1 ∙ e) in (t.0, t.1, trail_lasts c.label (arrive A N a x c).label (λ v z m. AtMost_arrive A N L a x c v z m) t.0 (N.tail b) t.1 t.2, t.3, t.4))
    ];
  }

  pump_trails : IsLawful A → (v : ℕ) (c : CoreState V) → v ≢ 0 → Trails c → Trails (pump A N v c)
  pump_trails L v c vn T = record {
    label = T.label;
    message = λ b y n e. elim (pumped A N L v c b) [
      | inl h ↦ (let s = sent_message A N (c.label v) (N.weight b) y (sym h.2 ∙ e) in
          let t = T.label (N.tail b) s.0 (ap c.label h.0 ∙ s.1) in (t.0, s.0, t.1, (λ z. vn (sym h.0 ∙ z)), s.2))
      | inr h ↦ T.message b y n (sym h.0 ∙ e)
    ];
  }

  released_trails : (v : ℕ) (c : CoreState V) (o : Option ℕ) (t : Bool) → Trails c → Trails (released A N v c o t)
  released_trails v c None t T = T
  released_trails v c (Some e) false T = T
  released_trails v c (Some e) true T = record {
    label = T.label;
    message = λ b y n q. elim (put_tells c.token e Signal b) [ inl h ↦ absurd (let g = h.1 in cc) | inr h ↦ T.message b y n (sym h.1 ∙ q) ];
  }

  freed_trails : (a : ℕ) (c : CoreState V) → Trails c → Trails (freed A N a c)
  freed_trails a c T = record {
    label = T.label;
    message = λ b y n q. elim (put_tells c.token a Idle b) [ inl h ↦ absurd (let g = h.1 in cc) | inr h ↦ T.message b y n (sym h.1 ∙ q) ];
  }

  rest_trails : (v : ℕ) (c : CoreState V) → Trails c → Trails (rest A N v c)
  rest_trails v c T = released_trails v c (c.engager v) (out_idle A N v c) T

  pub step_trails : IsLawful A → WellFormed N → (c : CoreState V) (e : Event) → CoreInvariant A N 0 c → Trails c → Trails (step A N c e)
  step_trails L W c e K T = step_cases A N (λ d. Trails d) c e T
      (λ a x _ q. rest_trails (N.head a) (pump A N (N.head a) (arrive A N a x c))
      (pump_trails L (N.head a) (arrive A N a x c) (head_real A N W 0 a c K (λ z. cc)) (arrive_trails L W a x c q K T)))
      (λ q. freed_trails 0 c T)
      (λ k q. rest_trails (N.tail (suc k)) (pump A N (N.tail (suc k)) (freed A N (suc k) c))
      (pump_trails L (N.tail (suc k)) (freed A N (suc k) c) (tail_real A N k c q K) (freed_trails (suc k) c T)))

  pub opening_trails : Trails (opening A N)
  opening_trails = record {
    label = λ v x q. absurd cc;
    message = λ b x n q. elim (put_tells (λ _. Idle) 0 (Message A.origin) b) [ inl h ↦ absurd (n h.0) | inr h ↦ absurd (let g = h.1 in cc) ];
  }

  pub reached_trails : IsLawful A → WellFormed N → (es : List Event) → Trails (state_after A N es)
  reached_trails L W es = run_cases A N L W (λ d. Trails d) (λ c e K T. step_trails L W c e K T) (opening A N) es (opening_kept A N W) opening_trails
