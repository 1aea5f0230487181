-- Mailboxes that are tried one after the other, as the steps of a seat record it.
use Rattle.std.specs.Prelude.{◌≡◌, ◌≢◌, ◌⊎◌, ℕ, zero, suc, Bool, true, false, cond, List, [], ◌∷◌, ◌++◌, set, get_or}
use Rattle.post_floor.specs.declared.view.WordStep.{WordStep}
use Rattle.post_floor.specs.Boxes.{next_slot}

-- a step found the number x in the word k, or stored it there
abbrev pub at : ℕ → ℕ → WordStep
at k x = record { word = k; number = x }

-- the shard j alone, if its mailbox was found as wanted
abbrev pub if_found : Bool → ℕ → List ℕ
if_found found j = cond found (j ∷ []) []

-- One mailbox was tried, if it was due, between these lists of steps. It was found with the wanted
-- number in its word, and then another was stored there; or it was found with another number than
-- the wanted one, and left as it was.
abbrev pub IsTry : (wanted stored : ℕ) (due : Type 0) (k : ℕ) (found : Bool) (before after : List WordStep) → Type 0
IsTry wanted stored due k true before after = due × (after ≡ before ++ at k wanted ∷ at k stored ∷ [])
IsTry wanted stored due k false before after = (due × (x : ℕ) × (x ≢ wanted) × (after ≡ before ++ at k x ∷ [])) ⊎ ((due → ⊥) × (after ≡ before))

-- the mailboxes of the first n shards, as far as they are due, were tried in order; those of the
-- shards of the list were found as wanted
abbrev pub AreTries : (wanted stored : ℕ) (due : ℕ → Type 0) (box : ℕ → ℕ) (n : ℕ) (found : List ℕ) (before after : List WordStep) → Type 0
AreTries wanted stored due box zero found before after = (found ≡ []) × (after ≡ before)
AreTries wanted stored due box (suc j) found before after = (b : Bool) × (earlier : List ℕ) × (steps : List WordStep) × AreTries wanted stored due box j earlier before steps
    × IsTry wanted stored (due j) (box j) b steps after × (found ≡ earlier ++ if_found b j)

-- the next slots after those of these shards have been used, one after the other
abbrev pub used : List ℕ → List ℕ → List ℕ
used [] next = next
used (j ∷ js) next = used js (set next j (next_slot (get_or next j 0)))
