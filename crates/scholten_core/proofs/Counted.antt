-- The counters of busy arcs follow each change of one arc's token.
use Rattle.scholten_core.proofs.Words.{◌≡◌, ◌≢◌, ℕ, suc, ◌+◌, ◌<◌, ◌≤◌, Bool, true, false, not, ◌&&◌, eqb, eq-eqb, ne_eqb, List, length, get_or, set, refl, sym, ap, ◌∙◌, inl, inr, arith, get_or-set_same, get_or-set_other, cases_eq, Token, Idle, Network, CoreState, is_idle, one_if, deficit, AreDeficits}
use Rattle.scholten_core.proofs.Basics.{one_if-most, sum_zero, sum_ones, sum_most, sum_at, sum_term}

module _ {V : Type 0} (N : Network) where
  -- what the arc b, with this token, adds to the deficit of v
  abbrev pub busy_at : ℕ → Token V → ℕ → ℕ
  busy_at v t b = one_if (eqb (N.tail b) v && not (is_idle t))

  busy_at-idle : (v : ℕ) (t : Token V) (b : ℕ) → is_idle t ≡ true → busy_at v t b ≡ 0
  busy_at-idle v t b i = go (eqb (N.tail b) v) (is_idle t) i
    where
      go : (s u : Bool) → u ≡ true → one_if (s && not u) ≡ 0
      go true true h = refl
      go true false h = cc
      go false u h = refl

  -- where all arcs are idle
  pub idle_counted : (v : ℕ) (c : CoreState V) → ((b : ℕ) → c.token b ≡ Idle) → deficit N v c ≡ 0
  idle_counted v c h = sum_zero (λ b. busy_at v (c.token b) b) (suc N.arcs) (λ b. busy_at-idle v (c.token b) b (ap is_idle (h b)))

  busy_at-busy : (v : ℕ) (t : Token V) (b : ℕ) → is_idle t ≡ false → N.tail b ≡ v → busy_at v t b ≡ 1
  busy_at-busy v t b i e = λ k. one_if (eq-eqb (N.tail b) v e k && not (i k))

  busy_at-else : (v : ℕ) (t : Token V) (b : ℕ) → N.tail b ≢ v → busy_at v t b ≡ 0
  busy_at-else v t b n = λ k. one_if (ne_eqb (N.tail b) v n k && not (is_idle t))

  deficit_change : (v a : ℕ) (c d : CoreState V) → a < suc N.arcs → ((b : ℕ) → b ≢ a → d.token b ≡ c.token b) →
      deficit N v d + busy_at v (c.token a) a ≡ deficit N v c + busy_at v (d.token a) a
  deficit_change v a c d l h = sum_at (λ b. busy_at v (d.token b) b) (λ b. busy_at v (c.token b) b) a (suc N.arcs) l (λ b n. ap (λ t. busy_at v t b) (h b n))

  pub deficit_most : (v : ℕ) (c : CoreState V) → deficit N v c ≤ suc N.arcs
  deficit_most v c =
      let s = sum_most (λ b. busy_at v (c.token b) b) (λ b. 1) (suc N.arcs) (λ b. one_if-most (eqb (N.tail b) v && not (is_idle (c.token b)))) in
      let o = sum_ones (suc N.arcs) in omega (arith, s, o)

  -- the tail of a busy arc has one
  pub deficit_least : (a : ℕ) (c : CoreState V) → a < suc N.arcs → is_idle (c.token a) ≡ false → 1 ≤ deficit N (N.tail a) c
  deficit_least a c l i =
      let s : busy_at (N.tail a) (c.token a) a ≤ deficit N (N.tail a) c = sum_term (λ b. busy_at (N.tail a) (c.token b) b) a (suc N.arcs) l in
      let one = busy_at-busy (N.tail a) (c.token a) a i refl in omega (arith, s, one)

  pub counted_same : (n : ℕ) (deficits : List ℕ) (a : ℕ) (c d : CoreState V) → a < suc N.arcs → ((b : ℕ) → b ≢ a → d.token b ≡ c.token b) → is_idle (d.token a) ≡ is_idle (c.token a) →
      AreDeficits N n deficits c → AreDeficits N n deficits d
  counted_same n deficits a c d l h i K v m =
      let k = K v m in let s = deficit_change v a c d l h in let x : busy_at v (d.token a) a ≡ busy_at v (c.token a) a = ap (λ t. one_if (eqb (N.tail a) v && not t)) i in omega (arith, k, s, x)

  pub counted_more : (n : ℕ) (deficits : List ℕ) (a x : ℕ) (c d : CoreState V) → a < suc N.arcs → ((b : ℕ) → b ≢ a → d.token b ≡ c.token b) →
      is_idle (c.token a) ≡ true → is_idle (d.token a) ≡ false → N.tail a < length deficits → x ≡ get_or deficits (N.tail a) 0 + 1 →
      AreDeficits N n deficits c → AreDeficits N n (set deficits (N.tail a) x) d
  counted_more n deficits a x c d l h i j w e K v m =
      let k = K v m in let s = deficit_change v a c d l h in let was = busy_at-idle v (c.token a) a i in
      elim (cases_eq v (N.tail a)) [
        | inl q ↦ (let now = busy_at-busy v (d.token a) a j (sym q) in
            let r : get_or (set deficits (N.tail a) x) v 0 ≡ x = ap (λ u. get_or (set deficits (N.tail a) x) u 0) q ∙ get_or-set_same deficits (N.tail a) x 0 w in
            let o : get_or deficits v 0 ≡ get_or deficits (N.tail a) 0 = ap (λ u. get_or deficits u 0) q in omega (arith, k, s, was, now, r, o, e))
        | inr ne ↦ (let now = busy_at-else v (d.token a) a (λ q. ne (sym q)) in
            let r = get_or-set_other deficits (N.tail a) v x 0 ne in omega (arith, k, s, was, now, r))
      ]

  pub counted_less : (n : ℕ) (deficits : List ℕ) (a x : ℕ) (c d : CoreState V) → a < suc N.arcs → ((b : ℕ) → b ≢ a → d.token b ≡ c.token b) →
      is_idle (c.token a) ≡ false → is_idle (d.token a) ≡ true → N.tail a < length deficits → x + 1 ≡ get_or deficits (N.tail a) 0 →
      AreDeficits N n deficits c → AreDeficits N n (set deficits (N.tail a) x) d
  counted_less n deficits a x c d l h i j w e K v m =
      let k = K v m in let s = deficit_change v a c d l h in let now = busy_at-idle v (d.token a) a j in
      elim (cases_eq v (N.tail a)) [
        | inl q ↦ (let was = busy_at-busy v (c.token a) a i (sym q) in
            let r : get_or (set deficits (N.tail a) x) v 0 ≡ x = ap (λ u. get_or (set deficits (N.tail a) x) u 0) q ∙ get_or-set_same deficits (N.tail a) x 0 w in
            let o : get_or deficits v 0 ≡ get_or deficits (N.tail a) 0 = ap (λ u. get_or deficits u 0) q in omega (arith, k, s, was, now, r, o, e))
        | inr ne ↦ (let was = busy_at-else v (c.token a) a (λ q. ne (sym q)) in
            let r = get_or-set_other deficits (N.tail a) v x 0 ne in omega (arith, k, s, was, now, r))
      ]
