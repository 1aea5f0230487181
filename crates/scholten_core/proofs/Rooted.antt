-- The engagement order through each event.
use Rattle.scholten_core.proofs.Words.{◌≡◌, ◌≢◌, ℕ, suc, Bool, true, false, cond, eqb, Option, Some, None, List, [], ◌∷◌, ◌⊎◌, refl, sym, ap, ◌∙◌, subst, inl, inr, eq-eqb, ne_eqb, Contains, cases_eq, cond-true, cond-false, Message, Event, Algebra, IsLawful, Network, WellFormed, CoreState, opening, put, pump, arrive, rest, released, freed, step, run_from, out_idle, engaged_by, IsEngagementOrder, IsRooted, put_tells, put-same, put-other, out_idle-at, not_in_empty, here, here_as, later, head_or_tail}
use Rattle.scholten_core.proofs.CoreInvariant.{CoreInvariant}
use Rattle.scholten_core.proofs.StepCases.{step_cases, run_cases, head_pumped, tail_pumped}

module _ {V : Type 0} (A : Algebra V) (N : Network) where
  -- the part of IsRooted that pumping cannot change
  pub Ordered : (ℕ → Option ℕ) → Type 0
  Ordered f = (order : List ℕ) × IsEngagementOrder A N f order × ((v a : ℕ) → f v ≡ Some a → Contains order v)

  order_engaged : (f : ℕ → Option ℕ) (order : List ℕ) (v : ℕ) → IsEngagementOrder A N f order → Contains order v → (a : ℕ) × (f v ≡ Some a)
  order_engaged f [] v o l = absurd (not_in_empty v l)
  order_engaged f (u ∷ us) v o l = elim (head_or_tail u v us l) [ inl e ↦ (o.0.0, ap f (sym e) ∙ o.0.1) | inr m ↦ order_engaged f us v o.2 m ]

  order_same : (f g : ℕ → Option ℕ) (order : List ℕ) → ((v : ℕ) → Contains order v → f v ≡ g v) → IsEngagementOrder A N f order → IsEngagementOrder A N g order
  order_same f g [] h o = tt
  order_same f g (u ∷ us) h o = ((o.0.0, sym (h u (here u us)) ∙ o.0.1, o.0.2), o.1, order_same f g us (λ v l. h v (later u v us l)) o.2)

  without : ℕ → List ℕ → List ℕ
  without v [] = []
  without v (u ∷ us) = cond (eqb u v) (without v us) (u ∷ without v us)

  without-here : (v u : ℕ) (us : List ℕ) → u ≡ v → without v (u ∷ us) ≡ without v us
  unfolding without
  without-here v u us e = cond-true (eqb u v) _ _ (eq-eqb u v e)

  without-there : (v u : ℕ) (us : List ℕ) → u ≢ v → without v (u ∷ us) ≡ u ∷ without v us
  unfolding without
  without-there v u us e = cond-false (eqb u v) _ _ (ne_eqb u v e)

  without-nil : (v : ℕ) → without v [] ≡ []
  unfolding without
  without-nil v = refl

  listed_without : (v u : ℕ) (us : List ℕ) → u ≢ v → Contains us u → Contains (without v us) u
  listed_without v u [] ne l = absurd (not_in_empty u l)
  listed_without v u (w ∷ us) ne l = elim (cases_eq w v) [
    | inl e ↦ subst (λ ys. Contains ys u) (sym (without-here v w us e)) (elim (head_or_tail w u us l) [ inl k ↦ absurd (ne (sym k ∙ e)) | inr k ↦ listed_without v u us ne k ])
    | inr n ↦ subst (λ ys. Contains ys u) (sym (without-there v w us n))
        (elim (head_or_tail w u us l) [ inl k ↦ here_as u w (without v us) (sym k) | inr k ↦ later w u (without v us) (listed_without v u us ne k) ])
  ]

  without_listed : (v u : ℕ) (us : List ℕ) → Contains (without v us) u → Contains us u
  without_listed v u [] l = subst (λ ys. Contains ys u) (without-nil v) l
  without_listed v u (w ∷ us) l = elim (cases_eq w v) [
    | inl e ↦ later w u us (without_listed v u us (subst (λ ys. Contains ys u) (without-here v w us e) l))
    | inr n ↦ (let k : Contains (w ∷ without v us) u = subst (λ ys. Contains ys u) (without-there v w us n) l in
        elim (head_or_tail w u (without v us) k) [ inl j ↦ here_as u w us (sym j) | inr j ↦ later w u us (without_listed v u us j) ])
  ]

  order_without : (f : ℕ → Option ℕ) (v : ℕ) → ((u a : ℕ) → f u ≡ Some a → N.tail a ≢ v) → (order : List ℕ) →
      IsEngagementOrder A N f order → IsEngagementOrder A N (put f v None) (without v order)
  order_without f v free [] o = subst (IsEngagementOrder A N (put f v None)) (sym (without-nil v)) tt
  order_without f v free (u ∷ us) o = elim (cases_eq u v) [
    | inl e ↦ subst (IsEngagementOrder A N (put f v None)) (sym (without-here v u us e)) (order_without f v free us o.2)
    | inr n ↦ subst (IsEngagementOrder A N (put f v None)) (sym (without-there v u us n)) (
      (o.0.0, put-other f v None u n ∙ o.0.1, elim o.0.2 [ inl z ↦ inl z | inr l ↦ inr (listed_without v (N.tail o.0.0) us (free u o.0.0 o.0.1) l) ]),
      (λ l. o.1 (without_listed v u us l)),
      order_without f v free us o.2,
    )
  ]

  -- a vertex is engaged by an arc whose tail is the environment or engaged
  engage_ordered : (f : ℕ → Option ℕ) (v a : ℕ) (o : Option ℕ) → f v ≡ o → (N.tail a ≡ 0) ⊎ ((e : ℕ) × (f (N.tail a) ≡ Some e)) → Ordered f → Ordered (put f v (engaged_by o a))
  unfolding Ordered
  engage_ordered f v a None q t O =
      let new = λ (l : Contains O.0 v). (let h = order_engaged f O.0 v O.1 l in let g = h.1 in let z : ⊥ = cc in z) in (
        v ∷ O.0,
        (
          (a, put-same f v (Some a), elim t [ inl z ↦ inl z | inr h ↦ inr (O.2 (N.tail a) h.0 h.1) ]),
          new,
          order_same f (put f v (Some a)) O.0 (λ u l. sym (put-other f v (Some a) u (λ e. new (subst (λ w. Contains O.0 w) e l)))) O.1,
        ),
        λ u b h. elim (put_tells f v (Some a) u) [ inl k ↦ here_as u v O.0 k.0 | inr k ↦ later v u O.0 (O.2 u b (sym k.1 ∙ h)) ],
      )
  engage_ordered f v a (Some e) q t O =
      let same = λ (u : ℕ). elim (put_tells f v (Some e) u) as (λ _. f u ≡ put f v (Some e) u) [ inl k ↦ ap f k.0 ∙ q ∙ sym k.1 | inr k ↦ sym k.1 ] in
      (O.0, order_same f (put f v (Some e)) O.0 (λ u l. same u) O.1, λ u b h. O.2 u b (same u ∙ h))

  release_ordered : (f : ℕ → Option ℕ) (v : ℕ) → ((u a : ℕ) → f u ≡ Some a → N.tail a ≢ v) → Ordered f → Ordered (put f v None)
  unfolding Ordered
  release_ordered f v free O = (
    without v O.0,
    order_without f v free O.0 O.1,
    λ u b h. elim (put_tells f v None u) [ inl k ↦ absurd (let g = k.1 in cc) | inr k ↦ listed_without v u O.0 k.0 (O.2 u b (sym k.1 ∙ h)) ],
  )

  rest_ordered : WellFormed N → (v : ℕ) (c : CoreState V) → CoreInvariant A N 0 c → Ordered c.engager → Ordered (rest A N v c).engager
  rest_ordered W v c K O = go (c.engager v) (out_idle A N v c) refl refl
    where
      go : (o : Option ℕ) (t : Bool) → c.engager v ≡ o → out_idle A N v c ≡ t → Ordered (released A N v c o t).engager
      go None t p q = O
      go (Some e) false p q = O
      go (Some e) true p q = release_ordered c.engager v
          (λ u a h z. let held = (K.engager_held u a h).0 in
          let vn : v ≢ 0 = (λ y. let g = ap c.engager y in let j = K.env_neutral in cc) in
          let i = out_idle-at A N v c q a (W.real a (λ y. vn (sym z ∙ y))) z in cc) O

  pub step_ordered : IsLawful A → WellFormed N → (c : CoreState V) (e : Event) → CoreInvariant A N 0 c → Ordered c.engager → Ordered (step A N c e).engager
  step_ordered L W c e K O = step_cases A N (λ d. Ordered d.engager) c e O
      (λ a x _ q. rest_ordered W (N.head a) (pump A N (N.head a) (arrive A N a x c)) (head_pumped A N L W a x c q K)
      (engage_ordered c.engager (N.head a) a (c.engager (N.head a)) refl (tail_in a x q (c.engager (N.tail a)) refl) O))
      (λ q. O)
      (λ k q. rest_ordered W (N.tail (suc k)) (pump A N (N.tail (suc k)) (freed A N (suc k) c)) (tail_pumped A N L W k c q K) O)
    where
      tail_in : (a : ℕ) (x : V) → c.token a ≡ Message x → (o : Option ℕ) → c.engager (N.tail a) ≡ o → (N.tail a ≡ 0) ⊎ ((e : ℕ) × (c.engager (N.tail a) ≡ Some e))
      tail_in a x q None h = elim (cases_eq a 0) [ inl z ↦ inl (ap N.tail z ∙ W.tail_zero) | inr nz ↦ absurd (let g = K.neutral_idle a nz h in cc) ]
      tail_in a x q (Some e) h = inr (e, h)

  pub run_ordered : IsLawful A → WellFormed N → (c : CoreState V) (es : List Event) → CoreInvariant A N 0 c → Ordered c.engager → Ordered (run_from A N c es).engager
  run_ordered L W c es K O = run_cases A N L W (λ d. Ordered d.engager) (λ d e. step_ordered L W d e) c es K O

  pub rooted : (c : CoreState V) → CoreInvariant A N 0 c → Ordered c.engager → IsRooted A N c
  unfolding Ordered
  rooted c K O = (O.0, O.1, λ v a h. (O.2 v a h, (K.engager_held v a h).0))

  pub opening_ordered : Ordered (opening A N).engager
  unfolding Ordered
  opening_ordered = ([], tt, λ v a h. cc)

  none_listed : (f : ℕ → Option ℕ) → ((u a : ℕ) → f u ≡ Some a → N.tail a ≢ 0) → (order : List ℕ) → IsEngagementOrder A N f order → (u : ℕ) → Contains order u → ⊥
  none_listed f free [] o u l = not_in_empty u l
  none_listed f free (v ∷ us) o u l = elim o.0.2 [ inl z ↦ free v o.0.0 o.0.1 z | inr k ↦ none_listed f free us o.2 (N.tail o.0.0) k ]

  pub none_engaged : (f : ℕ → Option ℕ) → ((u a : ℕ) → f u ≡ Some a → N.tail a ≢ 0) → Ordered f → (v : ℕ) → f v ≡ None
  unfolding Ordered
  none_engaged f free O v = go (f v) refl
    where
      go : (o : Option ℕ) → f v ≡ o → f v ≡ None
      go None h = h
      go (Some a) h = absurd (none_listed f free O.0 O.1 v (O.2 v a h))
