-- What a search knows of the vertices that it has reached: a value, hops and a parent of each, and
-- how one arc changes them.
use Rattle.std.specs.Prelude.{ℕ, ◌+◌, ◌-◌, List, [], ◌∷◌, map, Bool, true, false, cond, not, leb, eqb, Option, Some, None, option_map, slice_set, sum_by}
use Rattle.road_graph.specs.GraphData.{GraphData, arc_of}
use Rattle.path_algebra.specs.Algebra.{Algebra}
use Rattle.path_algebra.specs.Walks.{label_of}
use Rattle.ranked_queue.specs.Order.{by_number}
use Rattle.tree_search.specs.declared.mark.Mark.{Mark}

-- what a search settles by: the value, then the hops
abbrev pub key_of : {V : Type 0} → Mark V → V × ℕ
key_of m = (m.value, m.hops)

-- the values, the keys, the hops and the parents of marks; a parent 0 is none
abbrev pub values_in : {V : Type 0} → List (Option (Mark V)) → List (Option V)
values_in marks = map (option_map (λ m. m.value)) marks

abbrev pub keys_in : {V : Type 0} → List (Option (Mark V)) → List (Option (V × ℕ))
keys_in marks = map (option_map key_of) marks

abbrev pub hops_in : {V : Type 0} → List (Option (Mark V)) → List (Option ℕ)
hops_in marks = map (option_map (λ m. m.hops)) marks

abbrev pub parent_or_none : ℕ → Option ℕ
parent_or_none u = cond (eqb u 0) None (Some u)

abbrev pub parent_in : {V : Type 0} → Option (Mark V) → Option ℕ
parent_in None = None
parent_in (Some m) = parent_or_none m.parent

abbrev pub parents_in : {V : Type 0} → List (Option (Mark V)) → List (Option ℕ)
parents_in marks = map parent_in marks

-- whether a mark has a strictly better key than what was there
abbrev pub is_better : {V : Type 0} → (V → V → Bool) → Option (Mark V) → Mark V → Bool
is_better no_worse None new = true
is_better no_worse (Some old) new = not (by_number no_worse (key_of old) (key_of new))

-- whether a mark has as good a key as what was there, and a lesser parent
abbrev pub is_lesser : {V : Type 0} → (V → V → Bool) → Option (Mark V) → Mark V → Bool
is_lesser no_worse None new = false
is_lesser no_worse (Some old) new = cond (by_number no_worse (key_of new) (key_of old)) (not (leb old.parent new.parent)) false

-- the marks after one was offered to v: it is kept if its key is better, or as good with a lesser
-- parent
abbrev pub marked : {V : Type 0} → (V → V → Bool) → List (Option (Mark V)) → ℕ → Mark V → List (Option (Mark V))
marked no_worse marks v new =
    cond (is_better no_worse (label_of marks v) new) (slice_set marks (v - 1) (Some new))
    (cond (is_lesser no_worse (label_of marks v) new) (slice_set marks (v - 1) (Some new)) marks)

-- the marks after an extension was offered to v, or refused
abbrev pub marked_if : {V : Type 0} → (V → V → Bool) → List (Option (Mark V)) → ℕ → Option V → ℕ → ℕ → List (Option (Mark V))
marked_if no_worse marks v None hops parent = marks
marked_if no_worse marks v (Some z) hops parent = marked no_worse marks v (record { value = z; hops = hops; parent = parent })

-- the marks after u, with x and h hops, was extended along each arc of a list
abbrev pub relaxed_marks : {V : Type 0} → Algebra V → GraphData → ℕ → V → ℕ → List (Option (Mark V)) → List ℕ → List (Option (Mark V))
relaxed_marks A g u x h marks [] = marks
relaxed_marks A g u x h marks (a ∷ arcs) =
    relaxed_marks A g u x h (marked_if A.no_worse marks (arc_of g a).head (A.extend x (arc_of g a).weight) (h + 1) u) arcs

-- how many vertices are not settled
abbrev pub unsettled : List Bool → ℕ
unsettled settled = sum_by (λ b. cond b 0 1) settled

-- a source's mark
abbrev pub source_mark : {V : Type 0} → V → Mark V
source_mark origin = record { value = origin; hops = 0; parent = 0 }
