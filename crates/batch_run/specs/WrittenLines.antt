-- What the lines of vertices say, given labels, hops and parents.
use Rattle.std.specs.Prelude.{ℕ, List, map, Option, Some, None}
use Rattle.std.specs.List.{range_with_len}
use Rattle.path_algebra.specs.Algebra.{Algebra}
use Rattle.path_algebra.specs.Walks.{label_of}
use Rattle.route_tree.specs.Tree.{Branches, hops_of, parent_of}
use Rattle.answer_text.specs.declared.answers.Reached.{Reached}

-- the parent's number, or 0
abbrev pub parent_number : Option ℕ → ℕ
parent_number None = 0
parent_number (Some u) = u

-- the code of the label, the hops and the parent
abbrev pub written_line : {V : Type 0} → Algebra V → Option V → Option ℕ → Option ℕ → Option Reached
written_line A None k u = None
written_line A (Some x) None u = None
written_line A (Some x) (Some k) u = Some (record { code = A.code x; hops = k; parent = parent_number u })

-- the lines of the vertices 1 to n
unfoldable pub written_lines : {V : Type 0} → Algebra V → List (Option V) → Branches → ℕ → List (Option Reached)
written_lines A labels t n = map (λ v. written_line A (label_of labels v) (hops_of t v) (parent_of t v)) (range_with_len 1 n)
