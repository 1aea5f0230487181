-- The rows of a shard's tables.
use Rattle.std.specs.Prelude.{◌≡◌, ℕ, Bool, false, Option, None, List, length, set, replicate}
use Rattle.scholten_core.specs.Sums.{one_if}
use Rattle.shard_store.specs.Setup.{network_of}
use Rattle.shard_store.specs.Outgoing.{local_vertices}
use Rattle.shard_store.specs.Layout.{ShardLayoutData, AreOffsets, is_first}
use Rattle.shard_store.specs.declared.tables.Tables.{Tables}

-- the values of the tables, by place
pub record Rows (V : Type 0) : Type 0 where
  pub own : List ℕ
  pub offsets : List ℕ
  pub labels : List (Option V)
  pub engagers : List (Option ℕ)
  pub deficits : List ℕ
  pub busy : List Bool
  pub told : List (Option V)

-- the rows of some tables
abbrev pub rows_of : {V : Type 0} → Tables V → Rows V
rows_of t = record { own = t.own; offsets = t.vertices.offsets; labels = t.vertices.labels; engagers = t.vertices.engagers; deficits = t.vertices.deficits; busy = t.arcs.busy; told = t.arcs.told }

-- the rows of tables in which nothing has happened, except that arc 0 may be busy
abbrev pub idle_rows : {V : Type 0} → List ℕ → List ℕ → ℕ → Bool → Rows V
idle_rows own offsets arcs entry = record {
  own = own;
  offsets = offsets;
  labels = replicate (length own) None;
  engagers = replicate (length own) None;
  deficits = set (replicate (length own) 0) 0 (one_if entry);
  busy = set (replicate arcs false) 0 entry;
  told = replicate arcs None;
}

-- the rows are those of the shard's tables before any event, for some offsets that say where the
-- arcs of each vertex begin
pub record AreIdle {V : Type 0} (w : ShardLayoutData) (rows : Rows V) : Type 0 where
  pub offsets : List ℕ
  pub arcs : ℕ
  pub starts : AreOffsets (network_of w.setup) (local_vertices w.setup w.shard) offsets arcs
  pub rows_are : rows ≡ idle_rows (local_vertices w.setup w.shard) offsets arcs (is_first w.setup w.shard)
