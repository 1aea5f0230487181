-- Marks in three lists, as labels and trees keep them: values, hops and parents.
use Rattle.std.specs.Prelude.{◌≡◌, ℕ, ◌≤◌, List, [], ◌∷◌, Option, Some, None}
use Rattle.tree_search.specs.declared.mark.Mark.{Mark}

-- the number in a slot, or 0
abbrev pub number_of : Option ℕ → ℕ
number_of None = 0
number_of (Some n) = n

-- the mark of a place: none if there is no value; its parent is 0 if there is no parent
abbrev pub mark_in : {V : Type 0} → Option V → Option ℕ → Option ℕ → Option (Mark V)
mark_in None h p = None
mark_in (Some x) h p = Some (record { value = x; hops = number_of h; parent = number_of p })

abbrev pub marks_of : {V : Type 0} → List (Option V) → List (Option ℕ) → List (Option ℕ) → List (Option (Mark V))
marks_of [] hops parents = []
marks_of (x ∷ values) [] parents = []
marks_of (x ∷ values) (h ∷ hops) [] = []
marks_of (x ∷ values) (h ∷ hops) (p ∷ parents) = mark_in x h p ∷ marks_of values hops parents

-- with a value there are hops, and no parent or a vertex; without one there are neither hops nor a
-- parent
abbrev pub IsMarkRow : {V : Type 0} → Option V → Option ℕ → Option ℕ → Type 0
IsMarkRow None h p = (h ≡ None) × (p ≡ None)
IsMarkRow (Some x) None p = ⊥
IsMarkRow (Some x) (Some h) None = Unit {0}
IsMarkRow (Some x) (Some h) (Some p) = 1 ≤ p

-- each place has such a row
abbrev pub AreMarkRows : {V : Type 0} → List (Option V) → List (Option ℕ) → List (Option ℕ) → Type 0
AreMarkRows [] [] [] = Unit {0}
AreMarkRows [] [] (p ∷ parents) = ⊥
AreMarkRows [] (h ∷ hops) parents = ⊥
AreMarkRows (x ∷ values) [] parents = ⊥
AreMarkRows (x ∷ values) (h ∷ hops) [] = ⊥
AreMarkRows (x ∷ values) (h ∷ hops) (p ∷ parents) = IsMarkRow x h p × AreMarkRows values hops parents
