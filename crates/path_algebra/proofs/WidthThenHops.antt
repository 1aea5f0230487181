-- Widths whose ties are decided by the number of arcs break the order's law.
use Rattle.path_algebra.proofs.Words.{◌≡◌, ℕ, ◌+◌, ◌<◌, ◌^◌, inl, inr, subst, arith, min, IsTrue, Algebra, IsLawful}
use Rattle.path_algebra.specs.WidthThenHops.{IsWidthThenHops}

module _ (A : Algebra (ℕ × ℕ)) (is : IsWidthThenHops A) (laws : IsLawful A) where
  -- an arc leaves a value
  one_arc : (width arcs w : ℕ) → arcs < 2 ^ 25 → w < 2 ^ 32 → IsTrue (A.is_value (width, arcs)) →
      IsTrue (A.is_value (min width w, arcs + 1))
  one_arc width arcs w few light h = laws.extend_is_value (width, arcs) w (min width w, arcs + 1) h light (is.extend width arcs w few)

  origin : IsTrue (A.is_value (2 ^ 32, 0))
  origin = subst (λ (v : ℕ × ℕ). IsTrue (A.is_value v)) is.origin laws.origin_is_value

  -- two arcs of weight 2 against one of weight 1, and an arc of weight 0 after them
  pub not_lawful : ⊥
  not_lawful =
      let wide : IsTrue (A.is_value (2, 2)) = one_arc 2 1 2 (omega arith) (omega arith) (one_arc (2 ^ 32) 0 2 (omega arith) (omega arith) origin) in
      let short : IsTrue (A.is_value (1, 1)) = one_arc (2 ^ 32) 0 1 (omega arith) (omega arith) origin in
      let better : IsTrue (A.no_worse (2, 2) (1, 1)) = (is.no_worse 2 2 1 1).1 (inl (omega arith)) in
      let on = laws.monotone (2, 2) (1, 1) 0 (0, 2) wide short (omega arith) better (is.extend 1 1 0 (omega arith)) in
      let extended = on.1 in
      let counted = is.extend 2 2 0 (omega arith) in
      let e : on.0 ≡ (0, 3) = cc in
      let no_worse = subst (λ (v : ℕ × ℕ). IsTrue (A.no_worse v (0, 2))) e on.2 in
      elim ((is.no_worse 0 3 0 2).0 no_worse) [ inl h ↦ omega (arith, h) | inr h ↦ let more = h.1 in omega (arith, more) ]
