-- Sums over lists, and how many items are on an arc.
use Rattle.std.specs.Prelude.{ℕ, ◌+◌, eqb, List, [], ◌∷◌}
use Rattle.scholten_core.specs.declared.item.Item.{Item}
use Rattle.scholten_core.specs.Sums.{one_if}
use Rattle.scholten_core.specs.Items.{item_arc}

-- the sum of the weights of all entries
abbrev pub total : {X : Type 0} → (X → ℕ) → List X → ℕ
total f [] = 0
total f (x ∷ xs) = f x + total f xs

-- 1 if the numbers are the same
abbrev pub is : ℕ → ℕ → ℕ
is j k = one_if (eqb j k)

-- how many of the items are on the arc b
abbrev pub counted : {V : Type 0} → ℕ → List (Item V) → ℕ
counted b is' = total (λ j. is b (item_arc j)) is'
