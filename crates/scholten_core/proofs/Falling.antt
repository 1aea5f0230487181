-- Each change of a vertex's label uses up one of the simple walks to it, so they are no more than
-- these.
use Rattle.scholten_core.proofs.Words.{◌≡◌, ℕ, suc, ◌+◌, ◌≤◌, Bool, true, false, not, Option, Some, None, List, [], ◌∷◌, length, ◌⊎◌, refl, sym, ap, ◌∙◌, subst, inl, inr, arith, Contains, GraphData, IsGraph, not_in_empty, head_or_tail, Algebra, IsLawful, same_no_worse, Event, Network, network, CoreState, opening, arrive, freed, step, improves, better_of, same_label, one_if, label_changes, HasSimpleWalks, put_tells, same_self, one_if-most, well_formed, along}
use Rattle.std.proofs.lemmas.Bool.{cases_Bool, cond-true, cond-false, false≢true, and_parts, and_from, and_right, not-true, not_from_true, not_from_false, false_from_ne_true}
use Rattle.scholten_core.proofs.SharedWalks.{along_extends}
use Rattle.scholten_core.proofs.CoreInvariant.{CoreInvariant, step_kept}
use Rattle.scholten_core.proofs.StepCases.{step_cases, settle_label}
use Rattle.scholten_core.proofs.Ended.{opening_kept}
use Rattle.scholten_core.proofs.Trails.{Trails, step_trails, opening_trails}
use Rattle.scholten_core.proofs.SimpleWalks.{simple_value}

module _ {V : Type 0} (A : Algebra V) (N : Network) where
  -- what a step leaves at a vertex: the label that it had, or a strictly better one
  abbrev IsBetter : Option V → Option V → Type 0
  IsBetter o l = (l ≡ o) ⊎ ((x : V) × (l ≡ Some x) × (improves A x o ≡ true))

  arrive_better : (a : ℕ) (x : V) (c : CoreState V) (v : ℕ) → IsBetter (c.label v) ((arrive A N a x c).label v)
  arrive_better a x c v = elim (put_tells c.label (N.head a) (better_of A x (c.label (N.head a))) v) [
    | inr h ↦ inl h.1
    | inl h ↦ elim (cases_Bool (improves A x (c.label (N.head a)))) [
      | inl t ↦ inr (x, h.1 ∙ cond-true _ (Some x) (c.label (N.head a)) t, ap (λ u. improves A x (c.label u)) h.0 ∙ t)
      | inr f ↦ inl (h.1 ∙ cond-false _ (Some x) (c.label (N.head a)) f ∙ ap c.label (sym h.0))
    ]
  ]

  step_better : (c : CoreState V) (e : Event) (v : ℕ) → IsBetter (c.label v) ((step A N c e).label v)
  step_better c e v = step_cases A N (λ d. IsBetter (c.label v) (d.label v)) c e
      (inl refl)
      (λ a x _ _. subst (λ f. IsBetter (c.label v) (f v)) (sym (settle_label A N (N.head a) (arrive A N a x c))) (arrive_better a x c v))
      (λ q. inl refl)
      (λ k q. inl (ap (λ f. f v) (settle_label A N (N.tail (suc k)) (freed A N (suc k) c))))

  -- what is better than the better label is better than the one before
  improves_more : IsLawful A → (x y : V) (o : Option V) → improves A x o ≡ true → improves A y (Some x) ≡ true → improves A y o ≡ true
  improves_more L x y None h i = refl
  improves_more L x y (Some z) h i =
      let p = and_parts (A.no_worse x z) (not (A.no_worse z x)) h in
      let q = and_parts (A.no_worse y x) (not (A.no_worse x y)) i in
      and_from _ _ (L.ordered.transitive y x z q.0 p.0)
      (not_from_false _ (false_from_ne_true (A.no_worse z y) (λ r. false≢true (sym (not-true (A.no_worse z x) p.1) ∙ L.ordered.transitive z y x r q.0))))

  improves_not_itself : IsLawful A → (x : V) → improves A x (Some x) ≡ false
  improves_not_itself L x = and_right _ _ (not_from_true _ (same_no_worse A.no_worse L.ordered x))

  -- whether the value of a walk, if it has one, is better than a label
  abbrev can_improve : Option V → Option V → Bool
  can_improve None o = false
  can_improve (Some x) o = improves A x o

  -- how many walks of a list have a value that is better than a label
  abbrev pub left : List (List ℕ) → Option V → ℕ
  left [] o = 0
  left (p ∷ ps) o = one_if (can_improve (along A N (Some A.origin) p) o) + left ps o

  left-most : (ps : List (List ℕ)) (o : Option V) → left ps o ≤ length ps
  left-most [] o = omega arith
  left-most (p ∷ ps) o = let h = left-most ps o in let k = one_if-most (can_improve (along A N (Some A.origin) p) o) in omega (arith, h, k)

  one_follows : (s t : Bool) → (s ≡ true → t ≡ true) → one_if s ≤ one_if t
  one_follows true t h = let e = ap one_if (h refl) in omega (arith, e)
  one_follows false t h = omega arith

  can_improve_more : IsLawful A → (x : V) (o p : Option V) → improves A x o ≡ true → can_improve p (Some x) ≡ true → can_improve p o ≡ true
  can_improve_more L x o None h i = i
  can_improve_more L x o (Some y) h i = improves_more L x y o h i

  left_later : IsLawful A → (x : V) (o : Option V) → improves A x o ≡ true → (ps : List (List ℕ)) → left ps (Some x) ≤ left ps o
  left_later L x o h [] = omega arith
  left_later L x o h (p ∷ ps) =
      let r = left_later L x o h ps in
      let k = one_follows (can_improve (along A N (Some A.origin) p) (Some x)) (can_improve (along A N (Some A.origin) p) o) (can_improve_more L x o (along A N (Some A.origin) p) h) in
      omega (arith, r, k)

  -- a better label that is the value of a walk of the list leaves at least one walk less
  left_falls : IsLawful A → (x : V) (o : Option V) → improves A x o ≡ true → (ps : List (List ℕ)) (p : List ℕ) → Contains ps p → along A N (Some A.origin) p ≡ Some x → 1 + left ps (Some x) ≤ left ps o
  left_falls L x o h [] p l e = absurd (not_in_empty p l)
  left_falls L x o h (q ∷ ps) p l e = elim (head_or_tail q p ps l) [
    | inl k ↦ (let r = left_later L x o h ps in
        let f : along A N (Some A.origin) q ≡ Some x = ap (along A N (Some A.origin)) k ∙ e in
        let a : one_if (can_improve (along A N (Some A.origin) q) (Some x)) ≡ 0 = ap (λ w. one_if (can_improve w (Some x))) f ∙ ap one_if (improves_not_itself L x) in
        let b : one_if (can_improve (along A N (Some A.origin) q) o) ≡ 1 = ap (λ w. one_if (can_improve w o)) f ∙ ap one_if h in
        omega (arith, r, a, b))
    | inr m ↦ (let r = left_falls L x o h ps p m e in
        let k = one_follows (can_improve (along A N (Some A.origin) q) (Some x)) (can_improve (along A N (Some A.origin) q) o) (can_improve_more L x o (along A N (Some A.origin) q) h) in
        omega (arith, r, k))
  ]

module _ {V : Type 0} (A : Algebra V) (g : GraphData) (s : ℕ) where
  step_falls : IsLawful A → IsGraph g → 1 ≤ s → (v : ℕ) (walks : List (List ℕ)) → HasSimpleWalks g s v walks → (c : CoreState V) (e : Event) → Trails A (network g s) (step A (network g s) c e) →
      one_if (not (same_label A (c.label v) ((step A (network g s) c e).label v))) + left A (network g s) walks ((step A (network g s) c e).label v) ≤ left A (network g s) walks (c.label v)
  step_falls L R l v walks H c e T = elim (step_better A (network g s) c e v) [
    | inl k ↦ (let a : one_if (not (same_label A (c.label v) ((step A (network g s) c e).label v)))
        ≡ 0 = ap (λ o. one_if (not (same_label A (c.label v) o))) k ∙ ap (λ t. one_if (not t)) (same_self A (network g s) L (c.label v)) in
        let b = ap (left A (network g s) walks) k in
        omega (arith, a, b))
    | inr k ↦ (let t = T.label v k.0 k.1 in
        let S = simple_value A g s (step A (network g s) c e).label t.0 v k.0 t.1 in
        let f = left_falls A (network g s) L k.0 (c.label v) k.2 walks S.walk (H S.walk S.simple) (along_extends A g s s S.walk v A.origin k.0 S.simple.0 S.value) in
        let a = one_if-most (not (same_label A (c.label v) ((step A (network g s) c e).label v))) in
        let b = ap (left A (network g s) walks) k.1 in
        omega (arith, f, a, b))
  ]

  run_falls : IsLawful A → IsGraph g → 1 ≤ s → (v : ℕ) (walks : List (List ℕ)) → HasSimpleWalks g s v walks → (c : CoreState V) (es : List Event)
      → CoreInvariant A (network g s) 0 c → Trails A (network g s) c →
      label_changes A (network g s) v c es ≤ left A (network g s) walks (c.label v)
  run_falls L R l v walks H c [] K T = omega arith
  run_falls L R l v walks H c (e ∷ es) K T =
      let W = well_formed g s R l in
      let U = step_trails A (network g s) L (well_formed g s R l) c e K T in
      let f = step_falls L R l v walks H c e U in
      let r = run_falls L R l v walks H (step A (network g s) c e) es (step_kept A (network g s) L (well_formed g s R l) c e K) U in
      omega (arith, f, r)

  -- a label changes no more often than there are simple walks to its vertex
  pub changes_at_most : IsLawful A → IsGraph g → 1 ≤ s → (v : ℕ) (walks : List (List ℕ)) → HasSimpleWalks g s v walks → (es : List Event) →
      label_changes A (network g s) v (opening A (network g s)) es ≤ length walks
  changes_at_most L R l v walks H es =
      let f = run_falls L R l v walks H (opening A (network g s)) es (opening_kept A (network g s) (well_formed g s R l)) (opening_trails A (network g s)) in
      let m = left-most A (network g s) walks None in
      omega (arith, f, m)
