-- What a core is seen as: its diffusion and its tables. Each table begins with a place for the
-- environment or for arc 0.
use Rattle.std.specs.Prelude.{◌≡◌, ℕ, ◌+◌, ◌≤◌, List, length, slice_index_or, Option, None}
use Rattle.road_graph.specs.GraphData.{GraphData}
use Rattle.path_algebra.specs.Algebra.{Algebra}
use Rattle.scholten_core.specs.declared.token.Token.{Token}
use Rattle.scholten_core.specs.declared.token.Token.TheVariants.{Idle}
use Rattle.scholten_core.specs.Network.{Network}
use Rattle.scholten_core.specs.DiffusionData.{DiffusionData, network_in, IsDiffusion}
use Rattle.scholten_core.specs.Diffusion.{CoreState}
use Rattle.scholten_core.specs.Deficit.{deficit}
use Rattle.scholten_core.specs.Reached.{IsReached}

-- what callers see of a running core: the diffusion, and its tables
pub record CoreView (S V : Type 0) : Type 0 where
  pub diffusion : DiffusionData S
  pub labels : List (Option V)
  pub engagers : List (Option ℕ)
  pub tokens : List (Token V)
  pub told : List (Option V)
  pub deficits : List ℕ

-- it, by the algebra, the roads and the source of its diffusion, and its tables
abbrev pub core_view : {S V : Type 0} → S → GraphData → ℕ → List (Option V) → List (Option ℕ) → List (Token V) → List (Option V) → List ℕ → CoreView S V
core_view algebra roads source labels engagers tokens told deficits = record {
  diffusion = record { algebra = algebra; roads = roads; source = source };
  labels = labels;
  engagers = engagers;
  tokens = tokens;
  told = told;
  deficits = deficits;
}

-- the tables as functions
abbrev pub state_of : {S V : Type 0} → CoreView S V → CoreState V
state_of t = record {
  label = λ v. slice_index_or t.labels v None;
  engager = λ v. slice_index_or t.engagers v None;
  token = λ b. slice_index_or t.tokens b Idle;
  told = λ b. slice_index_or t.told b None;
}

-- the network of a core
abbrev pub network_of : {S V : Type 0} → CoreView S V → Network
network_of t = network_in t.diffusion

-- the counters say how many arcs out of each vertex are busy
abbrev pub AreDeficits : {V : Type 0} → Network → ℕ → List ℕ → CoreState V → Type 0
AreDeficits N n deficits c = (v : ℕ) → v ≤ n → slice_index_or deficits v 0 ≡ deficit N v c

-- the tables have a place for each vertex and each arc
pub record AreTablesSized {S V : Type 0} (t : CoreView S V) : Type 0 where
  pub diffusion : IsDiffusion t.diffusion
  pub labels : length t.labels ≡ t.diffusion.roads.vertices + 1
  pub engagers : length t.engagers ≡ t.diffusion.roads.vertices + 1
  pub tokens : length t.tokens ≡ length t.diffusion.roads.arcs + 1
  pub told : length t.told ≡ length t.diffusion.roads.arcs + 1
  pub deficits : length t.deficits ≡ t.diffusion.roads.vertices + 1
  pub counted : AreDeficits (network_of t) t.diffusion.roads.vertices t.deficits (state_of t)

-- the tables represent a state that some list of events leads to
pub record IsRun {S V : Type 0} (meaning : S → Algebra V) (t : CoreView S V) : Type 0 where
  pub diffusion : IsDiffusion t.diffusion
  pub reached : IsReached (meaning t.diffusion.algebra) t.diffusion.roads t.diffusion.source (state_of t)
