-- Groups of things that are dealt to workers in turn, and put together again.
use Rattle.std.specs.Prelude.{◌≡◌, ℕ, suc, ◌+◌, ◌%◌, List, [], ◌∷◌, ◌++◌, nat_eq, nat_lt, if◌then◌else◌, slice_index_or, slice_set, Vec}
use Rattle.batch_settings.specs.declared.dealing.Dealing.{Dealing}
use Rattle.batch_settings.specs.declared.dealing.Dealing.TheVariants.{Shards, Questions}

-- the place after this one of n; the first comes after the last
abbrev pub following : ℕ → ℕ → ℕ
following n at = if nat_lt (at + 1) n then at + 1 else 0

-- what worker w of n is dealt of the things of a group, each with the number of the group; the
-- first goes to the worker `at`
unfoldable pub dealt : {X : Type 0} → (n w at group : ℕ) → List X → List (ℕ × X)
dealt n w at group [] = []
dealt n w at group (x ∷ xs) = if nat_eq at w then (group, x) ∷ dealt n w (following n at) group xs else dealt n w (following n at) group xs

-- the worker of n to whom the first thing of group q goes: by shards worker 0, whatever the group;
-- by questions worker q modulo n
abbrev pub begins_at : Dealing → (n q : ℕ) → ℕ
begins_at Shards n q = 0
begins_at Questions n q = q % n

-- what worker w of n is dealt of all groups, by this rule; the groups are numbered from `first` on
unfoldable pub share_of : {X Z : Type 0} → Dealing → (n w first : ℕ) → List (Vec X Z) → List (ℕ × X)
share_of rule n w first [] = []
share_of rule n w first (group ∷ groups) = dealt n w (begins_at rule n first) first group.items ++ share_of rule n w (suc first) groups

-- the things of group q among these, in order
unfoldable pub of_group : {X : Type 0} → ℕ → List (ℕ × X) → List X
of_group q [] = []
of_group q (p ∷ ps) = if nat_eq p.0 q then p.1 ∷ of_group q ps else of_group q ps

-- x was appended to the list at that place
pub record PushesAt {X Z : Type 0} (i : ℕ) (x : X) (old new : List (Vec X Z)) : Type 0 where
  pub list : Vec X Z
  pub set_there : new ≡ slice_set old i list
  pub pushed : (d : Vec X Z) → list.items ≡ (slice_index_or old i d).items ++ x ∷ []
