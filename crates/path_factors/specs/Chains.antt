-- Lists of numbers that grow at their front, all in one. Their items are numbered from 1, and 0 is
-- none.
use Rattle.std.specs.Prelude.{◌≡◌, ℕ, zero, suc, ◌-◌, ◌<◌, ◌≤◌, List, length, All, slice_index, slice_index_or}
use Rattle.path_factors.specs.declared.chains.Item.{Item}

-- the first item of each list, and all items
pub record ChainData : Type 0 where
  pub firsts : List ℕ
  pub items : List Item

-- the item of a number
abbrev pub item_of : List Item → ℕ → Item
item_of items i = slice_index_or items (i - 1) (record { value = 0; next = 0 })

-- k items after one comes another
abbrev pub IsAfter : List Item → ℕ → ℕ → ℕ → Type 0
IsAfter items zero i j = i ≡ j
IsAfter items (suc k) i j = (1 ≤ i) × IsAfter items k (item_of items i).next j

-- an item, or one after it, has the value
abbrev pub HasFrom : List Item → ℕ → ℕ → Type 0
HasFrom items i x = (k j : ℕ) × IsAfter items k i j × (1 ≤ j) × ((item_of items j).value ≡ x)

-- a list has the value
abbrev pub HasValue : ChainData → ℕ → ℕ → Type 0
HasValue c list x = HasFrom c.items (slice_index c.firsts list) x

-- each list begins at an item or is empty, and items come after greater ones
pub record AreChains (c : ChainData) : Type 0 where
  pub firsts : (list : ℕ) → slice_index c.firsts list ≤ length c.items
  pub falling : (i : ℕ) → 1 ≤ i → (item_of c.items i).next < i

-- each value of the lists is below n
abbrev pub AreBelow : ℕ → ChainData → Type 0
AreBelow n c = All (λ i. i.value < n) c.items

-- more numbers below n were put into the lists
pub record IsMore (n : ℕ) (before after : ChainData) : Type 0 where
  pub lists : length after.firsts ≡ length before.firsts
  pub kept : (list x : ℕ) → HasValue before list x → HasValue after list x
  pub below : AreBelow n before → AreBelow n after
