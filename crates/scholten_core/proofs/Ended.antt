-- What holds after every list of events, and where the environment's arc is idle.
use Rattle.scholten_core.proofs.Words.{◌≡◌, ℕ, true, Some, None, List, refl, sym, ap, ◌∙◌, subst, inl, inr, cases_eq, Idle, Message, Event, Algebra, IsLawful, Network, WellFormed, IsValueAt, CoreState, opening, state_after, IsQuiet, IsRooted, put_tells, put-same}
use Rattle.scholten_core.proofs.Walks.{AtMost, Closed, closed_best, origin_value}
use Rattle.scholten_core.proofs.CoreInvariant.{CoreInvariant, run_kept}
use Rattle.scholten_core.proofs.Rooted.{Ordered, run_ordered, opening_ordered, rooted, none_engaged}

module _ {V : Type 0} (A : Algebra V) (N : Network) where
  -- each label is the best value, and a vertex has none exactly where no walk has a value
  abbrev pub IsSolved : CoreState V → Type 0
  IsSolved c = ((v : ℕ) (x : V) → c.label v ≡ Some x → IsValueAt A N v x × ((y : V) → IsValueAt A N v y → A.no_worse x y ≡ true)) × ((v : ℕ) (x : V) → IsValueAt A N v x → c.label v ≡ None → ⊥)

  pub opening_kept : WellFormed N → CoreInvariant A N 0 (opening A N)
  opening_kept W = record {
    label_walk = λ v x q. absurd cc;
    message_walk = λ b x q. elim (put_tells (λ _. Idle) 0 (Message A.origin) b) [
      | inl h ↦ (let s : A.origin ≡ x = (let g = h.1 in cc) in subst (λ y. IsValueAt A N (N.head b) y) s (subst (λ v. IsValueAt A N v A.origin) (sym (ap N.head h.0 ∙ W.head_zero)) (origin_value A N)))
      | inr h ↦ absurd (let g = h.1 in cc)
    ];
    entry_origin = λ x q. (let g = put-same (λ _. Idle) 0 (Message A.origin) in cc);
    source_heard = inl (put-same (λ _. Idle) 0 (Message A.origin));
    arc_heard = λ b x y r f g. absurd cc;
    idle_told = λ b r ne q. refl;
    neutral_idle = λ b nz q. elim (put_tells (λ _. Idle) 0 (Message A.origin) b) [ inl h ↦ absurd (nz h.0) | inr h ↦ h.1 ];
    env_neutral = refl;
    engager_held = λ v a q. absurd cc;
    held_engager = λ a q. elim (put_tells (λ _. Idle) 0 (Message A.origin) a) [ inl h ↦ absurd (let g = h.1 in cc) | inr h ↦ absurd (let g = h.1 in cc) ];
  }

  pub reached_kept : IsLawful A → WellFormed N → (es : List Event) → CoreInvariant A N 0 (state_after A N es)
  reached_kept L W es = run_kept A N L W (opening A N) es (opening_kept W)

  pub reached_ordered : IsLawful A → WellFormed N → (es : List Event) → Ordered A N (state_after A N es).engager
  reached_ordered L W es = run_ordered A N L W (opening A N) es (opening_kept W) (opening_ordered A N)

  pub reached_rooted : IsLawful A → WellFormed N → (es : List Event) → IsRooted A N (state_after A N es)
  reached_rooted L W es = rooted A N (state_after A N es) (reached_kept L W es) (reached_ordered L W es)

  pub ended_quiet : (c : CoreState V) → CoreInvariant A N 0 c → Ordered A N c.engager → c.token 0 ≡ Idle → IsQuiet c
  ended_quiet c K O q =
      let neutral = none_engaged A N c.engager (λ u a h z. let held = (K.engager_held u a h).0 in elim (cases_eq a 0) [
        | inl e ↦ (let g = ap c.token e in cc)
        | inr ne ↦ (let g = K.neutral_idle a ne (ap c.engager z ∙ K.env_neutral) in cc)
      ]) O in
      ((λ b. elim (cases_eq b 0) [ inl e ↦ ap c.token e ∙ q | inr ne ↦ K.neutral_idle b ne (neutral (N.tail b)) ]), neutral)

  ended_closed : (c : CoreState V) → CoreInvariant A N 0 c → IsQuiet c → Closed A N c.label
  ended_closed c K Q b x y r h e =
      let told = K.idle_told b r r (Q.0 b) ∙ h in
      elim (K.arc_heard b x y r told e) [ inl m ↦ absurd (let g = Q.0 b in cc) | inr m ↦ m ]

  pub ended_reaches : IsLawful A → WellFormed N → (c : CoreState V) → CoreInvariant A N 0 c → IsQuiet c → (v : ℕ) (x : V) → IsValueAt A N v x → AtMost A N c.label v x
  ended_reaches L W c K Q =
      closed_best A N L W c.label (ended_closed c K Q) K.label_walk (elim K.source_heard [ inl m ↦ absurd (let g = Q.0 0 in cc) | inr m ↦ m ])

  pub ended_solved : IsLawful A → WellFormed N → (c : CoreState V) → CoreInvariant A N 0 c → IsQuiet c → IsSolved c
  ended_solved L W c K Q = (
    λ v x h. (
      K.label_walk v x h,
      λ y w. let m = ended_reaches L W c K Q v y w in
          let s : m.0 ≡ x = (let g = m.1 in cc) in subst (λ z. A.no_worse z y ≡ true) s m.2,
    ),
    λ v x w h. let m = ended_reaches L W c K Q v x w in let g = m.1 in cc,
  )

  -- where a reached state has ended, it is quiet and solved
  pub ended : IsLawful A → WellFormed N → (es : List Event) → (state_after A N es).token 0 ≡ Idle → IsQuiet (state_after A N es) × IsSolved (state_after A N es)
  ended L W es q =
      let K = reached_kept L W es in
      let Q = ended_quiet (state_after A N es) K (reached_ordered L W es) q in
      (Q, ended_solved L W (state_after A N es) K Q)
