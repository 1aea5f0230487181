-- Where the items of parts and mailboxes are, as lists.
use Rattle.std.specs.Prelude.{ℕ, suc, cond, eqb, List, [], ◌∷◌, ◌++◌}
use Rattle.scholten_core.specs.declared.token.Token.{Token}
use Rattle.scholten_core.specs.declared.token.Token.TheVariants.{Idle, Message, Held, Signal}
use Rattle.scholten_core.specs.declared.item.Item.{Item}
use Rattle.scholten_core.specs.declared.item.Item.TheVariants.{Message as MessageOn, Signal as SignalOn}
use Rattle.scholten_core.specs.Network.{Network}
use Rattle.scholten_core.specs.Items.{item_arc}
use Rattle.shard_part.specs.PartState.{PartData}

module _ {V : Type 0} where
  -- each item with the shard that it is at or going to
  abbrev pub with_shard : ℕ → List (Item V) → List (ℕ × Item V)
  with_shard s [] = []
  with_shard s (i ∷ is) = (s, i) ∷ with_shard s is

  -- the items of outboxes, the first of which leads to the shard k
  abbrev pub outs_places : ℕ → List (List (Item V)) → List (ℕ × Item V)
  outs_places k [] = []
  outs_places k (o ∷ os) = with_shard k o ++ outs_places (suc k) os

  -- those of a part
  abbrev pub part_places : {S : Type 0} → PartData S V → List (ℕ × Item V)
  part_places p = with_shard p.shard p.queue ++ outs_places 0 p.outs

  -- those of several parts
  abbrev pub parts_places : {S : Type 0} → List (PartData S V) → List (ℕ × Item V)
  parts_places [] = []
  parts_places (p ∷ ps) = part_places p ++ parts_places ps

  -- those of mailboxes, each with the shard that it leads to
  abbrev pub mail_places : List (ℕ × List (Item V)) → List (ℕ × Item V)
  mail_places [] = []
  mail_places (m ∷ ms) = with_shard m.0 m.1 ++ mail_places ms

  -- those that are on one arc
  abbrev pub on : ℕ → List (ℕ × Item V) → List (ℕ × Item V)
  on b [] = []
  on b (e ∷ es) = cond (eqb (item_arc e.1) b) (e ∷ on b es) (on b es)

  -- the item that a token stands for, with the shard where it belongs
  abbrev pub place_of_token : Network → (ℕ → ℕ) → ℕ → Token V → List (ℕ × Item V)
  place_of_token N place b Idle = []
  place_of_token N place b (Message x) = (place (N.head b), MessageOn b x) ∷ []
  place_of_token N place b Held = []
  place_of_token N place b Signal = (place (N.tail b), SignalOn b) ∷ []
