-- The marks at the start of a search.
use Rattle.std.specs.Prelude.{◌≡◌, ℕ, List, Option, Some}
use Rattle.path_algebra.specs.Walks.{label_of}
use Rattle.path_plain.specs.Opening as plain
use Rattle.tree_search.specs.Marks.{values_in, source_mark}
use Rattle.tree_search.specs.declared.mark.Mark.{Mark}

-- one mark for each of n vertices: the origin, no hops and no parent at each source, and none
-- elsewhere
pub record AreOpening {V : Type 0} (origin : V) (n : ℕ) (sources : List ℕ) (marks : List (Option (Mark V))) : Type 0 where
  pub labels : plain.AreOpening origin n sources (values_in marks)
  pub only : (v : ℕ) (m : Mark V) → label_of marks v ≡ Some m → m ≡ source_mark origin
