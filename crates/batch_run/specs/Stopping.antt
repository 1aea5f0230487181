-- What stops a batch if workers answer, where `answers` says what a gate may answer to a worker
-- before a turn of it.
use Rattle.std.specs.Prelude.{◌≡◌, ◌⊎◌, ◌+◌, ◌*◌, ◌≤◌, ℕ, Bool, true, Result, IfErr, length}
use Rattle.road_graph.specs.GraphData.{GraphData, HasVertex, IsGraph}
use Rattle.road_files.specs.Asked.{Asked}
use Rattle.path_algebra.specs.Algebra.{Algebra}
use Rattle.shard_store.specs.Plans.{PlanData, IsPlan}
use Rattle.shard_store.specs.Setup.{SetupData, setup_of}
use Rattle.worker_fleet.specs.declared.group.GroupFault.{GroupFault}
use Rattle.worker_fleet.specs.declared.group.GroupFault.TheVariants.{Memory, Stalled, Gated}
use Rattle.worker_fleet.specs.Stops.{StopsGroup}
use Rattle.batch_inputs.specs.declared.faults.RunFault.{RunFault}
use Rattle.batch_settings.specs.declared.settings.Settings.{Settings}
use Rattle.batch_run.specs.Cut.{IsCut, order_of, ahead_of}
pub use Rattle.worker_fleet.specs.Stops.{Stalls, Closes}

-- the setup of a diffusion of a batch: over its graph, from a vertex of it, in the shards and the
-- order that the settings choose
pub record IsDiffusionOf {S : Type 0} (algebra : S) (g : GraphData) (how : Settings) (t : SetupData S) : Type 0 where
  pub source : ℕ
  pub is_vertex : HasVertex g source
  pub roads : IsGraph g
  pub plan : PlanData
  pub is_plan : IsPlan plan
  pub cut : IsCut how g plan
  pub setup_is : t ≡ setup_of algebra g source plan (order_of how)

-- this fault stops a batch: memory or a thread was refused; or diffusions of it, at most its width,
-- were opened together, their shards held back as its settings say, dealt to its workers by its rule
-- and driven by them, by its budget and its limit, and the least numbered worker that stopped before
-- the end did so by this fault
abbrev pub Stops : {S V : Type 0} → (S → Algebra V) → S → GraphData → Settings → (ℕ → ℕ → Bool → Type 0) → GroupFault → Type 0
Stops meaning algebra g how answers fault = (fault ≡ Memory) ⊎
    ((group : StopsGroup meaning (IsDiffusionOf algebra g how) how.dealing how.workers how.width how.budget how.turns answers fault) × (group.ahead ≡ ahead_of how g))

-- it stops a batch over a graph that was read
pub record StopsRead {S V : Type 0} (meaning : S → Algebra V) (algebra : S) (how : Settings) (answers : ℕ → ℕ → Bool → Type 0) (IsRead : GraphData → Asked → Type 0) (fault : GroupFault) : Type 0 where
  pub graph : GraphData
  pub asked : Asked
  pub read : IsRead graph asked
  pub stops : Stops meaning algebra graph how answers fault

-- why workers did not run a group of diffusions of a batch to its end, by the number of the fault
-- that this left
pub record Stopped {S V : Type 0} (meaning : S → Algebra V) (algebra : S) (how : Settings) (answers : ℕ → ℕ → Bool → Type 0) (IsRead : GraphData → Asked → Type 0) (outcome : Result (Unit {0}) RunFault) : Type 0 where
  -- 40 is reported only if the first of them that stopped was at its limit of turns
  pub stalled : IfErr outcome (λ f. f.number ≡ 40 → StopsRead meaning algebra how answers IsRead Stalled)
  -- 41 is reported only if the gate stopped it
  pub gated : IfErr outcome (λ f. f.number ≡ 41 → StopsRead meaning algebra how answers IsRead Gated)

-- with one shard, best first, the limit of turns is enough for a graph: twice the number of its
-- arcs, and three, as many times as questions are under way together
abbrev pub IsEnoughFor : Settings → GraphData → Type 0
IsEnoughFor how g = how.width * (2 * (length g.arcs + 1) + 1) ≤ how.turns

-- there is one shard, best first, and the limit of turns is enough for each graph that may have
-- been read
pub record HasEnoughTurns (how : Settings) (IsRead : GraphData → Asked → Type 0) : Type 0 where
  pub one : how.shards ≡ 1
  pub best_first : how.best_first ≡ true
  pub enough : (g : GraphData) (asked : Asked) → IsRead g asked → IsGraph g → IsEnoughFor how g
