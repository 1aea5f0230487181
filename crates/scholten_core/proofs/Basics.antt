-- Facts on the words of the definitions, and sums below a bound.
use Rattle.std.proofs.Common.{◌≡◌, ◌≢◌, ℕ, zero, suc, ◌+◌, ◌<◌, ◌≤◌, Bool, true, false, eqb, ne_eqb, eq-eqb, refl, ap, inl, inr, arith, cond, not, ◌&&◌, ◌||◌, Option, Some, None, ◌⊎◌, sym, ◌∙◌, subst, eqb-true, List, length, get_or, set, get_or-set_same, get_or-set_other}
use Rattle.std.proofs.lemmas.Bool.{cases_eq, cases_Bool, and_parts, and_from, false≢true, cond-true, cond-false, and_left, and_right, not_from_true, not_from_false, or_cases, not-true}
use Rattle.scholten_core.specs.Sums.{sum_below, one_if}
use Rattle.scholten_core.specs.declared.token.Token.{Token}
use Rattle.scholten_core.specs.declared.token.Token.TheVariants.{Idle, Message, Held, Signal}
use Rattle.path_algebra.proofs.Least.{same_no_worse}
use Rattle.path_algebra.specs.Algebra.{Algebra, IsLawful}
use Rattle.scholten_core.specs.Network.{Network}
use Rattle.scholten_core.specs.Diffusion.{CoreState, put, is_idle, all_below, is_due, out_idle, same_label, pump, sent, extend_label, better_of}

pub one_if-most : (t : Bool) → one_if t ≤ 1
one_if-most true = omega arith
one_if-most false = omega arith

pub sum_below_same : (f g : ℕ → ℕ) (n : ℕ) → ((b : ℕ) → b < n → f b ≡ g b) → sum_below f n ≡ sum_below g n
sum_below_same f g zero h = refl
sum_below_same f g (suc n) h = let s = sum_below_same f g n (λ b l. h b (omega (arith, l))) in let t = h n (omega arith) in omega (arith, s, t)

pub sum_same : (f g : ℕ → ℕ) (n : ℕ) → ((b : ℕ) → f b ≡ g b) → sum_below f n ≡ sum_below g n
sum_same f g n h = sum_below_same f g n (λ b l. h b)

pub sum_zero : (f : ℕ → ℕ) (n : ℕ) → ((b : ℕ) → f b ≡ 0) → sum_below f n ≡ 0
sum_zero f zero h = refl
sum_zero f (suc n) h = let s = sum_zero f n h in let t = h n in omega (arith, s, t)

pub sum_ones : (n : ℕ) → sum_below (λ b. 1) n ≡ n
sum_ones zero = refl
sum_ones (suc n) = let p = sum_ones n in omega (arith, p)

pub sum_add : (f g : ℕ → ℕ) (n : ℕ) → sum_below (λ b. f b + g b) n ≡ sum_below f n + sum_below g n
sum_add f g zero = omega arith
sum_add f g (suc n) = let h = sum_add f g n in omega (arith, h)

pub sum_most : (f g : ℕ → ℕ) (n : ℕ) → ((b : ℕ) → f b ≤ g b) → sum_below f n ≤ sum_below g n
sum_most f g zero h = omega arith
sum_most f g (suc n) h = let p = sum_most f g n h in let q = h n in omega (arith, p, q)

pub sum_below_most : (f g : ℕ → ℕ) (n : ℕ) → ((b : ℕ) → b < n → f b ≤ g b) → sum_below f n ≤ sum_below g n
sum_below_most f g zero h = omega arith
sum_below_most f g (suc n) h = let r = sum_below_most f g n (λ b l. h b (omega (arith, l))) in let k = h n (omega arith) in omega (arith, r, k)

-- the sums differ by what is at a
pub sum_at : (f g : ℕ → ℕ) (a n : ℕ) → a < n → ((b : ℕ) → b ≢ a → f b ≡ g b) → sum_below f n + g a ≡ sum_below g n + f a
sum_at f g a zero l h = absurd (omega (arith, l))
sum_at f g a (suc n) l h = elim (cases_eq n a) [
  | inl e ↦ (let s = sum_below_same f g n (λ b m. h b (λ q. omega (arith, q, m, e))) in let x = ap f e in let y = ap g e in omega (arith, s, x, y))
  | inr ne ↦ (let s = sum_at f g a n (omega (arith, l, ne)) h in let x = h n ne in omega (arith, s, x))
]

-- no term is more than the sum
pub sum_term : (f : ℕ → ℕ) (a n : ℕ) → a < n → f a ≤ sum_below f n
sum_term f a zero l = absurd (omega (arith, l))
sum_term f a (suc n) l = elim (cases_eq n a) [
  | inl e ↦ (let x = ap f e in omega (arith, x))
  | inr ne ↦ (let s = sum_term f a n (omega (arith, l, ne)) in omega (arith, s))
]

pub sum_one : (a n : ℕ) → a < n → sum_below (λ b. one_if (eqb b a)) n ≡ 1
sum_one a n l =
    let d = sum_at (λ b. one_if (eqb b a)) (λ b. 0) a n l (λ b ne. ap one_if (ne_eqb b a ne)) in
    let z = sum_zero (λ b. 0) n (λ b. refl) in
    let o = ap one_if (eq-eqb a a refl) in omega (arith, d, z, o)

pub sum_first : (f : ℕ → ℕ) (n : ℕ) → sum_below f (suc n) ≡ f 0 + sum_below (λ b. f (suc b)) n
sum_first f zero = omega arith
sum_first f (suc n) = let h = sum_first f n in omega (arith, h)

pub put-at : {X : Type 0} (f : ℕ → X) (k : ℕ) (x : X) (j : ℕ) → j ≡ k → put f k x j ≡ x
unfolding put
put-at f k x j e = cond-true (eqb j k) x (f j) (eq-eqb j k e)

pub put-same : {X : Type 0} (f : ℕ → X) (k : ℕ) (x : X) → put f k x k ≡ x
put-same f k x = put-at f k x k refl

pub put-other : {X : Type 0} (f : ℕ → X) (k : ℕ) (x : X) (j : ℕ) → (j ≡ k → ⊥) → put f k x j ≡ f j
unfolding put
put-other f k x j h = cond-false (eqb j k) x (f j) (ne_eqb j k h)

pub same_function : {X : Type 0} (f g : ℕ → X) → ((j : ℕ) → f j ≡ g j) → f ≡ g
same_function f g h = λ i j. h j i

pub put_set : {X : Type 0} (xs : List X) (k : ℕ) (x d : X) → k < length xs → (λ j. get_or (set xs k x) j d) ≡ put (λ j. get_or xs j d) k x
put_set xs k x d l = same_function (λ j. get_or (set xs k x) j d) (put (λ j. get_or xs j d) k x) (λ j. elim (cases_eq j k) [
  | inl e ↦ ap (λ m. get_or (set xs k x) m d) e ∙ get_or-set_same xs k x d l ∙ sym (put-at (λ m. get_or xs m d) k x j e)
  | inr n ↦ get_or-set_other xs k j x d n ∙ sym (put-other (λ m. get_or xs m d) k x j n)
])

-- what a changed function answers
pub put_tells : {X : Type 0} (f : ℕ → X) (k : ℕ) (x : X) (j : ℕ) → ((j ≡ k) × (put f k x j ≡ x)) ⊎ ((j ≡ k → ⊥) × (put f k x j ≡ f j))
put_tells f k x j = elim (cases_eq j k) [ inl e ↦ inl (e, put-at f k x j e) | inr h ↦ inr (h, put-other f k x j h) ]

pub idle-true : {V : Type 0} (t : Token V) → is_idle t ≡ true → t ≡ Idle
idle-true Idle h = refl
idle-true (Message x) h = absurd (false≢true h)
idle-true Held h = absurd (false≢true h)
idle-true Signal h = absurd (false≢true h)

pub idle-false : {V : Type 0} (t : Token V) → is_idle t ≡ false → t ≡ Idle → ⊥
idle-false t h e = false≢true (sym h ∙ ap is_idle e)

pub all_below-at : (p : ℕ → Bool) (n k : ℕ) → all_below p n ≡ true → k < n → p k ≡ true
all_below-at p zero k h l = absurd (omega arith)
all_below-at p (suc n) k h l =
    elim (cases_eq k n) [
      | inl e ↦ subst (λ j. p j ≡ true) (sym e) (and_parts (p n) (all_below p n) h).0
      | inr ne ↦ all_below-at p n k (and_parts (p n) (all_below p n) h).1 (omega arith)
    ]

module _ {V : Type 0} (A : Algebra V) (N : Network) where
  pub use_same : IsLawful A → (o p : Option V) → same_label A o p ≡ true → o ≡ p
  use_same L None None h = refl
  use_same L None (Some y) h = absurd (false≢true h)
  use_same L (Some x) None h = absurd (false≢true h)
  use_same L (Some x) (Some y) h = let b = and_parts (A.no_worse x y) (A.no_worse y x) h in ap Some (L.ordered.antisymmetric x y b.0 b.1)

  pub due_tells : IsLawful A → (v : ℕ) (c : CoreState V) (b : ℕ) →
      ((is_due A N v c b ≡ true) × (N.tail b ≡ v) × (c.token b ≡ Idle)) ⊎ ((is_due A N v c b ≡ false) × (N.tail b ≡ v → c.token b ≡ Idle → c.told b ≡ c.label v))
  unfolding is_due
  due_tells L v c b = elim (cases_Bool (eqb (N.tail b) v)) [
    | inr f ↦ inr (and_left _ _ (and_left _ _ f), λ e _. absurd (false≢true (sym f ∙ eq-eqb (N.tail b) v e)))
    | inl t ↦ elim (cases_Bool (is_idle (c.token b))) [
      | inr f ↦ inr (and_left _ _ (and_right _ _ f), λ _ e. absurd (idle-false (c.token b) f e))
      | inl i ↦ elim (cases_Bool (same_label A (c.told b) (c.label v))) [
        | inl s ↦ inr (and_right _ _ (not_from_true _ s), λ _ _. use_same L (c.told b) (c.label v) s)
        | inr s ↦ inl (and_from _ _ (and_from _ _ t i) (not_from_false _ s), eqb-true (N.tail b) v t, idle-true (c.token b) i)
      ]
    ]
  ]

  pub same_self : IsLawful A → (o : Option V) → same_label A o o ≡ true
  same_self L None = refl
  same_self L (Some x) = and_from _ _ (same_no_worse A.no_worse L.ordered x) (same_no_worse A.no_worse L.ordered x)

  pub not_due : (v : ℕ) (c : CoreState V) (b : ℕ) → N.tail b ≢ v → is_due A N v c b ≡ false
  unfolding is_due
  not_due v c b n = and_left _ _ (and_left _ _ (ne_eqb (N.tail b) v n))

  pub due_idle : (v : ℕ) (c : CoreState V) (b : ℕ) → is_due A N v c b ≡ true → is_idle (c.token b) ≡ true
  unfolding is_due
  due_idle v c b h = (and_parts (eqb (N.tail b) v) (is_idle (c.token b)) (and_parts (eqb (N.tail b) v && is_idle (c.token b)) (not (same_label A (c.told b) (c.label v))) h).0).1

  pub due_same : (v : ℕ) (c d : CoreState V) (b : ℕ) → c.token b ≡ d.token b → c.told b ≡ d.told b → c.label v ≡ d.label v → is_due A N v c b ≡ is_due A N v d b
  unfolding is_due
  due_same v c d b p q r = λ i. eqb (N.tail b) v && is_idle (p i) && not (same_label A (q i) (r i))

  -- what pumping does at an arc depends on this arc and the label of the vertex alone
  pub pumped_same : (v : ℕ) (c d : CoreState V) (b : ℕ) → c.token b ≡ d.token b → c.told b ≡ d.told b → c.label v ≡ d.label v →
      ((pump A N v c).token b ≡ (pump A N v d).token b) × ((pump A N v c).told b ≡ (pump A N v d).told b)
  pumped_same v c d b p q r = (
    (λ i. cond (due_same v c d b p q r i) (sent (extend_label A (r i) (N.weight b))) (p i)),
    (λ i. cond (due_same v c d b p q r i) (r i) (q i)),
  )

  pub sent_message : (o : Option V) (w : ℕ) (y : V) → sent (extend_label A o w) ≡ Message y → (x : V) × (o ≡ Some x) × (A.extend x w ≡ Some y)
  sent_message None w y h = cc
  sent_message (Some x) w y h = (x, refl, go (A.extend x w) h)
    where
      go : (o : Option V) → sent o ≡ Message y → o ≡ Some y
      go None h = cc
      go (Some z) h = cc

  pub sent_held : (o : Option V) → sent o ≡ Held → ⊥
  sent_held None h = cc
  sent_held (Some x) h = cc

  pub better_tells : IsLawful A → (x : V) (o : Option V) →
      (z : V) × (better_of A x o ≡ Some z) × (A.no_worse z x ≡ true) × ((y : V) → o ≡ Some y → A.no_worse z y ≡ true) × ((z ≡ x) ⊎ (o ≡ Some z))
  better_tells L x None = (x, refl, same_no_worse A.no_worse L.ordered x, λ y e. cc, inl refl)
  better_tells L x (Some y) = go (A.no_worse x y) (A.no_worse y x) refl refl
    where
      go : (s t : Bool) → A.no_worse x y ≡ s → A.no_worse y x ≡ t →
          (z : V) × (cond (s && not t) (Some x) (Some y) ≡ Some z) × (A.no_worse z x ≡ true) × ((u : V) → Some y ≡ Some u → A.no_worse z u ≡ true) × ((z ≡ x) ⊎ (Some y ≡ Some z))
      go true true p q = (y, refl, q, λ u e. let f : y ≡ u = cc in subst (λ w. A.no_worse y w ≡ true) f (same_no_worse A.no_worse L.ordered y), inr refl)
      go true false p q = (x, refl, same_no_worse A.no_worse L.ordered x, λ u e. let f : y ≡ u = cc in subst (λ w. A.no_worse x w ≡ true) f p, inl refl)
      go false true p q = (y, refl, q, λ u e. let f : y ≡ u = cc in subst (λ w. A.no_worse y w ≡ true) f (same_no_worse A.no_worse L.ordered y), inr refl)
      go false false p q = absurd (elim (L.ordered.total x y) [ inl h ↦ false≢true (sym p ∙ h) | inr h ↦ false≢true (sym q ∙ h) ])

  pub out_idle-at : (v : ℕ) (c : CoreState V) → out_idle A N v c ≡ true → (b : ℕ) → b ≤ N.arcs → N.tail b ≡ v → c.token b ≡ Idle
  unfolding out_idle
  out_idle-at v c h b l e =
      let t = all_below-at (λ k. not (eqb (N.tail k) v) || is_idle (c.token k)) (suc N.arcs) b h (omega arith) in
      elim (or_cases _ _ t) [
        | inl n ↦ absurd (false≢true (sym (not-true _ n) ∙ eq-eqb (N.tail b) v e))
        | inr i ↦ idle-true (c.token b) i
      ]
