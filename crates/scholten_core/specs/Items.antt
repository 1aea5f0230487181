-- Items under way, against the tokens of a state.
use Rattle.std.specs.Prelude.{◌≡◌, ℕ, Bool, true, false, cond, eqb, Option, Some, None, List, [], ◌∷◌, ◌++◌, ◌⊎◌, Contains}
use Rattle.scholten_core.specs.declared.token.Token.{Token}
use Rattle.scholten_core.specs.declared.token.Token.TheVariants.{Idle, Message, Held, Signal}
use Rattle.scholten_core.specs.declared.item.Item.{Item}
use Rattle.scholten_core.specs.declared.item.Item.TheVariants.{Message as MessageOn, Signal as SignalOn}
use Rattle.path_algebra.specs.Algebra.{Algebra}
use Rattle.scholten_core.specs.Network.{Network}
use Rattle.scholten_core.specs.Diffusion.{CoreState, is_due, out_idle, pump, sent, extend_label}

-- the arc of an item
abbrev pub item_arc : {V : Type 0} → Item V → ℕ
item_arc (MessageOn b x) = b
item_arc (SignalOn b) = b

-- the items of a list that are on one arc
unfoldable pub at : {V : Type 0} → ℕ → List (Item V) → List (Item V)
at b [] = []
at b (i ∷ is) = cond (eqb (item_arc i) b) (i ∷ at b is) (at b is)

-- the items that a token represents
abbrev pub item_of : {V : Type 0} → ℕ → Token V → List (Item V)
item_of b Idle = []
item_of b (Message x) = MessageOn b x ∷ []
item_of b Held = []
item_of b Signal = SignalOn b ∷ []

module _ {V : Type 0} (A : Algebra V) (N : Network) where
  -- what pumping v makes, over a list of arcs
  abbrev pub pump_made : ℕ → CoreState V → List ℕ → List (Item V)
  pump_made v d [] = []
  pump_made v d (b ∷ xs) = cond (is_due A N v d b) (item_of b (sent (extend_label A (d.label v) (N.weight b)))) [] ++ pump_made v d xs

  abbrev pub rest_made : Option ℕ → Bool → List (Item V)
  rest_made None t = []
  rest_made (Some e) false = []
  rest_made (Some e) true = SignalOn e ∷ []

  abbrev pub settle_made : ℕ → CoreState V → List ℕ → List (Item V)
  settle_made v d xs = pump_made v d xs ++ rest_made (d.engager v) (out_idle A N v (pump A N v d))

  abbrev pub IsDistinct : List ℕ → Type 0
  IsDistinct [] = Unit {0}
  IsDistinct (u ∷ us) = (Contains us u → ⊥) × IsDistinct us

  -- the list has exactly the arcs out of v, each once
  pub record IsOutList (v : ℕ) (xs : List ℕ) : Type 0 where
    pub distinct : IsDistinct xs
    pub all : (b : ℕ) → N.tail b ≡ v → Contains xs b
    pub only : (b : ℕ) → Contains xs b → N.tail b ≡ v

  -- what an event does at one arc: nothing, or it makes the items of an arc that had none
  abbrev pub Makes : ℕ → Token V → Token V → List (Item V) → Type 0
  Makes b t u is = ((u ≡ t) × (is ≡ [])) ⊎ ((item_of b t ≡ []) × (is ≡ item_of b u))
