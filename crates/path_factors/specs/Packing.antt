-- Rows one after the other in one list, with a list of where each begins.
use Rattle.std.specs.Prelude.{◌≡◌, ℕ, ◌+◌, ◌-◌, ◌<◌, ◌≤◌, List, [], ◌∷◌, length, slice_index, slice_range}
use Rattle.path_factors.specs.declared.link.Link.{Link}
use Rattle.path_factors.specs.Edges.{LinkRows}

-- links from their places and worths
abbrev pub links_of : {W : Type 0} → List ℕ → List W → List (Link W)
links_of [] walks = []
links_of (p ∷ places) [] = []
links_of (p ∷ places) (a ∷ walks) = record { place = p; walk = a } ∷ links_of places walks

-- the rows: each from its start up to the next one
abbrev pub rows_between : {X : Type 0} → List ℕ → List X → List (List X)
rows_between [] items = []
rows_between (s ∷ []) items = []
rows_between (s ∷ e ∷ starts) items = slice_range items s e ∷ rows_between (e ∷ starts) items

-- starts that rise, from row to row, to the end of the items
pub record ArePacked {X : Type 0} (starts : List ℕ) (items : List X) : Type 0 where
  pub some : 1 ≤ length starts
  pub rising : (i : ℕ) → i + 1 < length starts → slice_index starts i ≤ slice_index starts (i + 1)
  pub inside : (i : ℕ) → i < length starts → slice_index starts i ≤ length items
  pub last : slice_index starts (length starts - 1) ≡ length items

-- a worth each way for each place
pub record AreFields {W : Type 0} (places : List ℕ) (leaving entering : List W) : Type 0 where
  pub leaving_count : length leaving ≡ length places
  pub entering_count : length entering ≡ length places

-- links both ways, row after row
pub record ArePackedBothWays {W : Type 0} (starts places : List ℕ) (leaving entering : List W) : Type 0 where
  pub fields : AreFields places leaving entering
  pub packed : ArePacked starts places

-- these rows
abbrev pub packed_rows : {W : Type 0} → List ℕ → List ℕ → List W → List W → LinkRows W
packed_rows starts places leaving entering =
    record { leaving = rows_between starts (links_of places leaving); entering = rows_between starts (links_of places entering) }
