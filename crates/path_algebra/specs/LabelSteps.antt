-- Labels as a list, and how one step of a solver changes it.
use Rattle.std.specs.Prelude.{ℕ, ◌-◌, List, [], ◌∷◌, Bool, false, Option, Some, None, if◌then◌else◌, slice_index_or, slice_set}
use Rattle.road_graph.specs.GraphData.{GraphData, arc_of}
use Rattle.path_algebra.specs.Algebra.{Algebra}

-- the label of a vertex: vertex 1 has the first place
abbrev pub label_of : {V : Type 0} → List (Option V) → ℕ → Option V
label_of labels v = slice_index_or labels (v - 1) None

-- whether a vertex is marked
abbrev pub is_marked : List Bool → ℕ → Bool
is_marked marks v = slice_index_or marks (v - 1) false

-- the label that a value z leaves: z if there was none or z is strictly better
abbrev pub improved : {V : Type 0} → (V → V → Bool) → Option V → V → Option V
improved no_worse None z = Some z
improved no_worse (Some y) z = Some (if no_worse y z then y else z)

-- the better of two labels, the only one, or none
abbrev pub better_label : {V : Type 0} → (V → V → Bool) → Option V → Option V → Option V
better_label no_worse l None = l
better_label no_worse l (Some z) = improved no_worse l z

-- the labels after z was offered to v
abbrev pub offered : {V : Type 0} → (V → V → Bool) → List (Option V) → ℕ → V → List (Option V)
offered no_worse labels v z = slice_set labels (v - 1) (improved no_worse (label_of labels v) z)

-- the labels after an extension was offered to v, or refused
abbrev pub offered_if : {V : Type 0} → (V → V → Bool) → List (Option V) → ℕ → Option V → List (Option V)
offered_if no_worse labels v None = labels
offered_if no_worse labels v (Some z) = offered no_worse labels v z

-- the labels after x was extended along each arc of a list
abbrev pub relaxed : {V : Type 0} → Algebra V → GraphData → V → List (Option V) → List ℕ → List (Option V)
relaxed A g x labels [] = labels
relaxed A g x labels (a ∷ arcs) =
    relaxed A g x (offered_if A.no_worse labels (arc_of g a).head (A.extend x (arc_of g a).weight)) arcs

-- whether an extension was not refused and is no worse than y
abbrev pub is_reached_by : {V : Type 0} → (V → V → Bool) → Option V → V → Bool
is_reached_by no_worse None y = false
is_reached_by no_worse (Some z) y = no_worse z y

-- whether both ends have labels, and the tail's, extended by the weight, is no worse than the
-- head's
abbrev pub is_tight_between : {V : Type 0} → Algebra V → Option V → ℕ → Option V → Bool
is_tight_between A None w l = false
is_tight_between A (Some x) w None = false
is_tight_between A (Some x) w (Some y) = is_reached_by A.no_worse (A.extend x w) y

-- whether the labels say that an arc is tight; with best labels this is so exactly if it is
abbrev pub is_tight : {V : Type 0} → Algebra V → GraphData → List (Option V) → ℕ → Bool
is_tight A g labels a =
    is_tight_between A (label_of labels (arc_of g a).tail) (arc_of g a).weight (label_of labels (arc_of g a).head)
