-- How far a shard may run ahead of the others, by what a source of hints shows.
use Rattle.std.specs.Prelude.{◌≡◌, ◌≢◌, ◌⊎◌, ℕ, ◌<◌, Bool, IsTrue, IfSome, Option, Some, None}
use Rattle.path_algebra.specs.Algebra.{Algebra}
use Rattle.shard_store.specs.Queue.{IsAsGood, IsBestWaiting}
use Rattle.shard_store.specs.declared.queue_order.QueueOrder.TheVariants.{BestFirst}
use Rattle.shard_part.specs.PartState.{PartData}
use Rattle.post_floor.specs.Data.{FloorData}
use Rattle.post_floor.specs.declared.hints.Limit.{Limit}

-- the code that stands for no value
abbrev pub nothing : ℕ
nothing = 18446744073709551615

-- the code stands for this value, or for none
abbrev pub StandsFor : {V : Type 0} → Algebra V → ℕ → Option V → Type 0
StandsFor A code o = (code ≡ nothing → o ≡ None) × (code ≢ nothing → o ≡ A.value_of code)

-- what a shard advertises of the best value that waits for it, if one does
pub record Advert (V : Type 0) : Type 0 where
  pub shard : ℕ
  pub best : Option V

-- the part advertised the best value that waits for it, if shards are held back
abbrev pub IsAdvertised : {S V : Type 0} → (V → V → Bool) → FloorData S → PartData S V → Option (Advert V) → Type 0
IsAdvertised no_worse f p None = f.ahead ≡ None
IsAdvertised no_worse f p (Some a) = (a.shard ≡ p.shard) × (p.setup.order ≡ BestFirst → IsBestWaiting no_worse p.queue a.best)

-- `shows` says which codes the source may show of a shard
module _ {V : Type 0} (A : Algebra V) (shows : ℕ → ℕ → Type 0) where
  -- a code that the source may show of the shard stands for this value, or for none
  abbrev pub IsShown : ℕ → Option V → Type 0
  IsShown shard o = (code : ℕ) × shows shard code × StandsFor A code o

  -- the best of the values shown of the first n shards but one; none if no value is shown of any of
  -- them
  pub record IsBestShown (n own : ℕ) (best : Option V) : Type 0 where
    pub shown : IfSome best (λ x. (shard : ℕ) × (shard < n) × (shard ≢ own) × IsShown shard (Some x))
    pub least : (shard : ℕ) → shard < n → shard ≢ own → (o : Option V) × IsShown shard o × IfSome o (IsAsGood A.no_worse best)

  -- How far the shard `own` of n may run ahead: the best value shown of the others, and the same
  -- after one more arc of this weight. There is no limit if no value is shown of any of them, or if
  -- the arc may not be taken from the best.
  abbrev pub IsLimit : (n own ahead : ℕ) → Option (Limit V) → Type 0
  IsLimit n own ahead (Some l) = IsBestShown n own (Some l.best) × (A.extend l.best ahead ≡ Some l.value)
  IsLimit n own ahead None = IsBestShown n own None ⊎ ((x : V) × IsBestShown n own (Some x) × (A.extend x ahead ≡ None))
