-- Reading the marks of vertices, and what an offer does to one.
use Rattle.std.proofs.Common.{◌≡◌, ℕ, ◌-◌, ◌≤◌, ◌⊎◌, inl, inr, Bool, true, false, cond, not, leb, List, map, set, refl, ap, sym, ◌∙◌, subst, arith, Option, Some, None}
use Rattle.tree_search.proofs.Words.{get_or-map, cases_Bool, IsTrue, option_map, IsOrder, other_no_worse, key_of, values_in, is_better, is_lesser, marked, by_number, told, by_number_order, Mark}
use Rattle.std.proofs.lemmas.List.{map-set, set-get_or}
use Rattle.std.proofs.lemmas.Bool.Decides.{leb_tells}
use Rattle.path_algebra.specs.Walks.{label_of, improved, offered}

-- an option is empty or holds something
pub is_some : {X : Type 0} (o : Option X) → (o ≡ None) ⊎ ((m : X) × (o ≡ Some m))
is_some None = inl refl
is_some (Some m) = inr (m, refl)

module _ {X Y : Type 0} (f : X → Y) (xs : List (Option X)) (v : ℕ) where
  read_at : label_of (map (option_map f) xs) v ≡ option_map f (label_of xs v)
  read_at = get_or-map (option_map f) xs (v - 1) None

  pub read : (m : X) → label_of xs v ≡ Some m → label_of (map (option_map f) xs) v ≡ Some (f m)
  read m e = read_at ∙ ap (option_map f) e

  pub read_none : label_of xs v ≡ None → label_of (map (option_map f) xs) v ≡ None
  read_none e = read_at ∙ ap (option_map f) e

  holds : (o : Option X) (y : Y) → option_map f o ≡ Some y → (m : X) × (o ≡ Some m) × (f m ≡ y)
  holds None y e = cc
  holds (Some m) y e = (m, refl, cc)

  pub found : (y : Y) → label_of (map (option_map f) xs) v ≡ Some y → (m : X) × (label_of xs v ≡ Some m) × (f m ≡ y)
  found y e = holds (label_of xs v) y (sym read_at ∙ e)

-- an offer leaves all as it was: the old mark has no worse a key, and where the keys are the same
-- no greater a parent
pub record IsKept {V : Type 0} (no_worse : V → V → Bool) (marks : List (Option (Mark V))) (v : ℕ) (new : Mark V) : Type 0 where
  pub same : marked no_worse marks v new ≡ marks
  pub old : Mark V
  pub at : label_of marks v ≡ Some old
  pub fine : IsTrue (by_number no_worse (key_of old) (key_of new))
  pub parent : IsTrue (by_number no_worse (key_of new) (key_of old)) → old.parent ≤ new.parent

-- it stays: no mark that was there had a better key, or as good a one with a lesser parent
pub record IsTaken {V : Type 0} (no_worse : V → V → Bool) (marks : List (Option (Mark V))) (v : ℕ) (new : Mark V) : Type 0 where
  pub is : marked no_worse marks v new ≡ set marks (v - 1) (Some new)
  pub over : (old : Mark V) → label_of marks v ≡ Some old →
      IsTrue (by_number no_worse (key_of new) (key_of old)) × (IsTrue (by_number no_worse (key_of old) (key_of new)) → new.parent ≤ old.parent)

module _ {V : Type 0} (no_worse : V → V → Bool) (ordered : IsOrder no_worse) (marks : List (Option (Mark V))) (v : ℕ) (new : Mark V) where
  first_way : (p q : Bool) → p ≡ true → is_better no_worse (label_of marks v) new ≡ p → is_lesser no_worse (label_of marks v) new ≡ q →
      marked no_worse marks v new ≡ set marks (v - 1) (Some new)
  first_way p q t e f = ap (λ (b : Bool). cond b (set marks (v - 1) (Some new)) (cond (is_lesser no_worse (label_of marks v) new) (set marks (v - 1) (Some new)) marks)) (e ∙ t)

  second_way : is_better no_worse (label_of marks v) new ≡ false → is_lesser no_worse (label_of marks v) new ≡ true →
      marked no_worse marks v new ≡ set marks (v - 1) (Some new)
  second_way e f = cc

  third_way : is_better no_worse (label_of marks v) new ≡ false → is_lesser no_worse (label_of marks v) new ≡ false → marked no_worse marks v new ≡ marks
  third_way e f = cc

  outcome_of : (o : Option (Mark V)) → label_of marks v ≡ o → IsKept no_worse marks v new ⊎ IsTaken no_worse marks v new
  outcome_of None e = grind (arith, first_way)
  outcome_of (Some old) e =
      let better : is_better no_worse (label_of marks v) new ≡ not (by_number no_worse (key_of old) (key_of new)) = ap (λ (o : Option (Mark V)). is_better no_worse o new) e in
      let lesser : is_lesser no_worse (label_of marks v) new ≡ cond (by_number no_worse (key_of new) (key_of old)) (not (leb old.parent new.parent)) false =
      ap (λ (o : Option (Mark V)). is_lesser no_worse o new) e in
      let this : (other : Mark V) → label_of marks v ≡ Some other → old ≡ other = λ other f. (let both : Some old ≡ Some other = sym e ∙ f in cc) in
      elim (cases_Bool (by_number no_worse (key_of old) (key_of new))) [
        | inr worse ↦ grind (arith, first_way, not, other_no_worse)
        | inl fine ↦ elim (cases_Bool (by_number no_worse (key_of new) (key_of old))) [
          | inr less ↦ inl (record { same = third_way (better ∙ ap not fine) (grind (arith, cond)); old = old; at = e; fine = fine; parent = λ k. grind arith })
          | inl both ↦ elim (leb_tells old.parent new.parent) [
            | inl kept ↦ inl (record { same = third_way (better ∙ ap not fine) (grind (arith, not, cond)); old = old; at = e; fine = fine; parent = λ k. kept.1 })
            | inr put ↦ grind (arith, second_way, not, cond, leb)
          ]
        ]
      ]

  pub outcome : IsKept no_worse marks v new ⊎ IsTaken no_worse marks v new
  outcome = outcome_of (label_of marks v) refl

  -- what is offered is no worse: the label becomes its value
  taken_label : (o : Option (Mark V)) → ((old : Mark V) → o ≡ Some old → IsTrue (no_worse new.value old.value)) → improved no_worse (option_map (λ (m : Mark V). m.value) o) new.value ≡ Some new.value
  taken_label None over = refl
  taken_label (Some old) over = grind (arith, cases_Bool)

  kept_label : (old : Mark V) → IsTrue (no_worse old.value new.value) → improved no_worse (Some old.value) new.value ≡ Some old.value
  kept_label old h = rw h refl

  label_is : label_of (values_in marks) v ≡ option_map (λ (m : Mark V). m.value) (label_of marks v)
  label_is = get_or-map (option_map (λ (m : Mark V). m.value)) marks (v - 1) None

  -- an offer of a mark is an offer of its value
  pub values_marked : values_in (marked no_worse marks v new) ≡ offered no_worse (values_in marks) v new.value
  values_marked = grind (arith, outcome, read, kept_label, set-get_or, label_is, taken_label, map-set)
