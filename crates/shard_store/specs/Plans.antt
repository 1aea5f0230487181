-- Which shard each vertex belongs to.
use Rattle.std.specs.Prelude.{◌≡◌, ℕ, ◌-◌, ◌*◌, ◌/◌, ◌<◌, ◌≤◌, ◌^◌, List, length, slice_index_or}
use Rattle.shard_store.specs.declared.plan.PlanFault.{PlanFault}
use Rattle.shard_store.specs.declared.plan.PlanFault.TheVariants.{BadShard}

-- the number of shards, and at i the shard of vertex i + 1
pub record PlanData : Type 0 where
  pub shards : ℕ
  pub list : List ℕ

-- the shard of a vertex
abbrev pub shard_in : PlanData → ℕ → ℕ
shard_in p v = slice_index_or p.list (v - 1) 0

-- the vertices that the plan covers are 1 to the length of its list
abbrev pub HasPlanned : PlanData → ℕ → Type 0
HasPlanned p v = (1 ≤ v) × (v ≤ length p.list)

-- each entry is a shard
abbrev pub IsBelow : ℕ → List ℕ → Type 0
IsBelow s list = (i : ℕ) → i < length list → slice_index_or list i 0 < s

-- what holds of every plan
pub record IsPlan (p : PlanData) : Type 0 where
  pub some_shard : 1 ≤ p.shards
  pub few_shards : p.shards ≤ 64
  pub few_vertices : length p.list ≤ 2 ^ 25
  pub below : IsBelow p.shards p.list

-- n vertices in blocks: vertex v is in shard (v - 1) * s / n
pub record IsBlocks (n s : ℕ) (p : PlanData) : Type 0 where
  pub shards : p.shards ≡ s
  pub vertices : length p.list ≡ n
  pub block : (v : ℕ) → HasPlanned p v → shard_in p v ≡ (v - 1) * s / n

-- v is the first vertex whose entry is no shard
pub record IsFirstBadEntry (s : ℕ) (list : List ℕ) (v : ℕ) : Type 0 where
  pub is_vertex : (1 ≤ v) × (v ≤ length list)
  pub bad : s ≤ slice_index_or list (v - 1) 0
  pub first : (u : ℕ) → 1 ≤ u → u < v → slice_index_or list (u - 1) 0 < s

-- why a table is no plan
abbrev pub IsBad : ℕ → List ℕ → PlanFault → Type 0
IsBad s list (BadShard v) = IsFirstBadEntry s list v
