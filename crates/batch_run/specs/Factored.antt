-- Solvers that answer by factors, and what they may tell of factoring.
use Rattle.std.specs.Prelude.{◌≡◌, ⊤, ℕ, Bool, true, false, List, Option, None, IsSome, is_some}
use Rattle.std.specs.Option.{option_map}
use Rattle.path_algebra.specs.declared.algebra.PathAlgebra.{Ghosts}
use Rattle.path_algebra.specs.Algebra.{Algebra}
use Rattle.path_algebra.specs.declared.counted_sums.Cost.{Cost}
use Rattle.elimination_order.specs.declared.counts.Counts.{Counts}
use Rattle.question_solvers.specs.Solvers.{IsFactoredFor, IsFactoringBy, IsSoughtBy, IsToldRightly, IsTried}
use Rattle.question_solvers.specs.declared.factor_solver.Factoring.{Factoring}
use Rattle.batch_settings.specs.declared.settings.Settings.{Settings}
use Rattle.batch_run.specs.declared.batch.Batch.{Batch}
use Rattle.batch_run.specs.declared.solve.Solver.{Solver}
use Rattle.batch_run.specs.declared.solve.Solver.TheVariants.{Plain, Factors, Workers}
use Rattle.batch_settings.specs.Choice.{without_diffusions}
use Rattle.batch_run.specs.Reports.{Preparation}
use Rattle.batch_run.specs.Solvers.{IsReady, IsSameSolver, is_without_diffusions}

-- it solves by factors, if the graph can be factored
abbrev pub is_by_factors : {S V : Type 0} {G : Ghosts S V} → Solver S V G → Bool
is_by_factors (Plain s) = false
is_by_factors (Factors s) = true
is_by_factors (Workers s) = false

-- it is of the kind that the settings choose
pub record IsChosen {S V : Type 0} {G : Ghosts S V} (how : Settings) (s : Solver S V G) : Type 0 where
  pub kind : is_without_diffusions s ≡ without_diffusions how
  pub factors : is_by_factors s ≡ how.factors

-- this is so of the order by which it factors, if it solves by factors
abbrev pub OfOrder : {S V : Type 0} {G : Ghosts S V} → Solver S V G → (Option (List ℕ) → Type 0) → Type 0
OfOrder (Plain s) P = ⊤
OfOrder (Factors s) P = P (option_map (λ order. order.vertices.items) s.order)
OfOrder (Workers s) P = ⊤

-- what comes of seeking an order for its graph: none is sought if it solves without factors
abbrev pub IsSought : {S V : Type 0} {G : Ghosts S V} → Solver S V G → Option Counts → Type 0
IsSought (Plain s) found = found ≡ None
IsSought (Factors s) found = IsSoughtBy s found
IsSought (Workers s) found = found ≡ None

-- what became of factoring its graph, and if it is too dense, counts are above a bound; nothing did
-- if it solves without factors
abbrev pub IsFactoringOf : {S V : Type 0} {G : Ghosts S V} → Solver S V G → Factoring → Type 0
IsFactoringOf (Plain s) became = ⊥
IsFactoringOf (Factors s) became = IsFactoringBy s became × IsToldRightly s.plain.graph became
IsFactoringOf (Workers s) became = ⊥

-- if it solves by factors, its graph was factored for costs that carry the values of this algebra, or
-- refused for such costs; neither, only if the algebra has no cost
abbrev pub WasTried : {S V : Type 0} {G : Ghosts S V} → Algebra V → Option Cost → Solver S V G → Type 0
WasTried A cost (Plain s) = ⊤
WasTried A cost (Factors s) = IsFactoredFor A s × (IsSome cost → IsTried s)
WasTried A cost (Workers s) = ⊤

-- what is due of factoring its graph: what came of seeking an order; and what became of it, exactly
-- if it solves by factors
pub record IsPreparedBy {S V : Type 0} {G : Ghosts S V} (s : Solver S V G) (made : Preparation) : Type 0 where
  pub sought : IsSought s made.found
  pub became : is_some made.became ≡ is_by_factors s

-- what it may tell of factoring its graph: what became of it for the solver that answers, once its
-- factoring was tried and it is ready for the first question
pub record MayTell {S R T V : Type 0} {G : Ghosts S V} (meaning : S → Algebra V) (cost : S → Option Cost) (batch : Batch S R T V G) (s : Solver S V G) (became : Factoring) : Type 0 where
  pub moment : Solver S V G
  pub same : IsSameSolver s moment
  pub kind : is_by_factors moment ≡ is_by_factors s
  pub tried : WasTried (meaning batch.task.algebra) (cost batch.task.algebra) moment
  pub ready : IsReady meaning batch 0 moment
  pub is_true : IsFactoringOf moment became
