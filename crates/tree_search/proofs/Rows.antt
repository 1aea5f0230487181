-- The three lists and the marks that they hold.
use Rattle.tree_search.proofs.Words.{◌≡◌, ℕ, zero, suc, ◌<◌, ◌≤◌, inl, inr, Bool, cond, List, [], ◌∷◌, length, get_or, set, replicate, refl, ap, sym, ◌∙◌, subst, arith, Option, Some, None, ne_eqb, eqb_tells, values_in, hops_in, parents_in, parent_or_none, Mark}
use Rattle.tree_search.specs.Rows.{number_of, mark_in, marks_of, IsMarkRow, AreMarkRows}

-- no value, no hops and no parent anywhere: no marks
pub empty_rows : (V : Type 0) (n : ℕ) → AreMarkRows {V = V} (replicate n None) (replicate n None) (replicate n None)
empty_rows V zero = tt
empty_rows V (suc n) = ((refl, refl), empty_rows V n)

pub empty_marks : (V : Type 0) (n : ℕ) → marks_of {V = V} (replicate n None) (replicate n None) (replicate n None) ≡ replicate n None
empty_marks V zero = refl
empty_marks V (suc n) = ap (λ l. None ∷ l) (empty_marks V n)

one_parent : (p : ℕ) → 1 ≤ p → parent_or_none p ≡ Some p
one_parent p low = ap (λ (b : Bool). cond b None (Some p)) (ne_eqb p 0 (λ e. omega (arith, low, e)))

at_least_one : (p : ℕ) → (p ≡ 0 → ⊥) → 1 ≤ p
at_least_one p some = omega (arith, some)

-- what is kept of a parent, or of 0 for none
pub parent_row : {V : Type 0} (x : V) (h p : ℕ) → IsMarkRow (Some x) (Some h) (parent_or_none p)
parent_row x h p = grind (arith, eqb_tells, at_least_one)

pub parent_kept : (p : ℕ) → number_of (parent_or_none p) ≡ p
parent_kept p = grind (arith, eqb_tells)

module _ {V : Type 0} where
  -- one list is as long as the others
  pub counts : (values : List (Option V)) (hops parents : List (Option ℕ)) → AreMarkRows values hops parents →
      (length (marks_of values hops parents) ≡ length values) × (length hops ≡ length values) × (length parents ≡ length values)
  counts [] [] [] rows = (refl, refl, refl)
  counts (x ∷ values) (h ∷ hops) (p ∷ parents) rows =
      grind (arith, (counts values hops parents rows.1))
  counts values hops parents rows = absurd rows

  -- the mark of one place
  pub mark_at : (values : List (Option V)) (hops parents : List (Option ℕ)) → AreMarkRows values hops parents → (i : ℕ) →
      get_or (marks_of values hops parents) i None ≡ mark_in (get_or values i None) (get_or hops i None) (get_or parents i None)
  mark_at [] [] [] rows i = refl
  mark_at (x ∷ values) (h ∷ hops) (p ∷ parents) rows zero = refl
  mark_at (x ∷ values) (h ∷ hops) (p ∷ parents) rows (suc i) = mark_at values hops parents rows.1 i
  mark_at values hops parents rows i = absurd rows

  -- a place is given a mark
  pub set_rows : (values : List (Option V)) (hops parents : List (Option ℕ)) → AreMarkRows values hops parents → (i : ℕ) (x : Option V) (h p : Option ℕ) → IsMarkRow x h p →
      AreMarkRows (set values i x) (set hops i h) (set parents i p)
  set_rows [] [] [] rows i x h p row = tt
  set_rows (y ∷ values) (k ∷ hops) (q ∷ parents) rows zero x h p row = (row, rows.1)
  set_rows (y ∷ values) (k ∷ hops) (q ∷ parents) rows (suc i) x h p row = (rows.0, set_rows values hops parents rows.1 i x h p row)
  set_rows values hops parents rows i x h p row = absurd rows

  pub set_marks : (values : List (Option V)) (hops parents : List (Option ℕ)) → AreMarkRows values hops parents → (i : ℕ) (x : Option V) (h p : Option ℕ) →
      marks_of (set values i x) (set hops i h) (set parents i p) ≡ set (marks_of values hops parents) i (mark_in x h p)
  set_marks [] [] [] rows i x h p = refl
  set_marks (y ∷ values) (k ∷ hops) (q ∷ parents) rows zero x h p = refl
  set_marks (y ∷ values) (k ∷ hops) (q ∷ parents) rows (suc i) x h p = ap (λ l. mark_in y k q ∷ l) (set_marks values hops parents rows.1 i x h p)
  set_marks values hops parents rows i x h p = absurd rows

  pub given_rows : (values : List (Option V)) (hops parents : List (Option ℕ)) → AreMarkRows values hops parents → (i : ℕ) (m : Mark V) →
      AreMarkRows (set values i (Some m.value)) (set hops i (Some m.hops)) (set parents i (parent_or_none m.parent))
  given_rows values hops parents rows i m = set_rows values hops parents rows i (Some m.value) (Some m.hops) (parent_or_none m.parent) (parent_row m.value m.hops m.parent)

  -- the values, the hops and the parents of the marks are those lists
  pub values_are : (values : List (Option V)) (hops parents : List (Option ℕ)) → AreMarkRows values hops parents → values_in (marks_of values hops parents) ≡ values
  values_are [] [] [] rows = refl
  values_are (None ∷ values) (h ∷ hops) (p ∷ parents) rows = ap (λ l. None ∷ l) (values_are values hops parents rows.1)
  values_are (Some x ∷ values) (h ∷ hops) (p ∷ parents) rows = ap (λ l. Some x ∷ l) (values_are values hops parents rows.1)
  values_are values hops parents rows = absurd rows

  pub hops_are : (values : List (Option V)) (hops parents : List (Option ℕ)) → AreMarkRows values hops parents → hops_in (marks_of values hops parents) ≡ hops
  hops_are [] [] [] rows = refl
  hops_are (None ∷ values) (h ∷ hops) (p ∷ parents) rows = ap (λ k. k ∷ hops_in (marks_of values hops parents)) (sym rows.0.0) ∙ ap (λ l. h ∷ l) (hops_are values hops parents rows.1)
  hops_are (Some x ∷ values) (None ∷ hops) (p ∷ parents) rows = absurd rows.0
  hops_are (Some x ∷ values) (Some h ∷ hops) (p ∷ parents) rows = ap (λ l. Some h ∷ l) (hops_are values hops parents rows.1)
  hops_are values hops parents rows = absurd rows

  pub parents_are : (values : List (Option V)) (hops parents : List (Option ℕ)) → AreMarkRows values hops parents → parents_in (marks_of values hops parents) ≡ parents
  parents_are [] [] [] rows = refl
  parents_are (None ∷ values) (h ∷ hops) (p ∷ parents) rows = ap (λ q. q ∷ parents_in (marks_of values hops parents)) (sym rows.0.1) ∙ ap (λ l. p ∷ l) (parents_are values hops parents rows.1)
  parents_are (Some x ∷ values) (None ∷ hops) (p ∷ parents) rows = absurd rows.0
  parents_are (Some x ∷ values) (Some h ∷ hops) (None ∷ parents) rows = ap (λ l. None ∷ l) (parents_are values hops parents rows.1)
  parents_are (Some x ∷ values) (Some h ∷ hops) (Some p ∷ parents) rows = grind (arith, one_parent, (parents_are values hops parents))
  parents_are values hops parents rows = absurd rows
