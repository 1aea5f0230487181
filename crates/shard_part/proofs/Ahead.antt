-- Whether a part has run ahead of what it has sent.
use Rattle.std.proofs.Common.{◌≡◌, ◌≢◌, ℕ, ◌<◌, Bool, true, false, Option, Some, None, IfSome, List, [], length, map, get_or, sym, ap, ◌∙◌, subst}
use Rattle.std.specs.Prelude.{Contains, if◌then◌else◌}
use Rattle.path_algebra.specs.Walks.{better_label}
use Rattle.shard_part.proofs.Words.{Item, MessageOn, PartData, IsOutgoing, IsOutgoingTo}
use Rattle.shard_part.proofs.Rings.{map_read}

-- what holds of two labels holds of the better one
pub better_kept : {V : Type 0} (P : V → Type 0) (no_worse : V → V → Bool) (l o : Option V) → IfSome l P → IfSome o P → IfSome (better_label no_worse l o) P
better_kept P no_worse l None h k = h
better_kept P no_worse None (Some z) h k = k
better_kept {V} P no_worse (Some y) (Some z) h k = go (no_worse y z)
  where
    go : (b : Bool) → P (if b then y else z)
    go true = h
    go false = k

-- a value of a message in the ring at an index is that of one in the outbox
pub in_outbox : {S V X : Type 0} (p : PartData S V) (its : X → List (Item V)) (rs : List X) (to : ℕ) (x : X) (o : Option V) → map its rs ≡ p.outs → to < length rs → x ≡ get_or rs to x
    → IfSome o (λ v. (a : ℕ) × Contains (its x) (MessageOn a v)) → IfSome o (λ v. IsOutgoingTo to v p)
in_outbox p its rs to x None e l h w = tt
in_outbox p its rs to x (Some v) e l h w =
    (w.0, subst (λ items. Contains items (MessageOn w.0 v)) (sym (ap (λ os. get_or os to []) (sym e) ∙ map_read its rs to [] x l h)) w.1)

-- what waits for a shard that is not the part's waits for another
pub for_another : {S V : Type 0} (p : PartData S V) (to : ℕ) (o : Option V) → to ≢ p.shard → IfSome o (λ v. IsOutgoingTo to v p) → IfSome o (λ v. IsOutgoing v p)
for_another p to None ne w = tt
for_another p to (Some v) ne w = (to, ne, w)
