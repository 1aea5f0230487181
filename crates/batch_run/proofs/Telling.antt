-- What a solver may tell of factoring its graph.
use Rattle.batch_run.proofs.Words.{◌≡◌, Bool, true, false, Option, None, Some, refl, subst, sym, ◌∙◌, false≢true, Ghosts, Algebra, Cost, Counts, Factoring, Output, GraphData, without_diffusions, Progress, asked_in, IsReady, IsSameSolver, graph_of, is_without_diffusions}
use Rattle.std.specs.Prelude.{IfSome, IsSome, is_some}
use Rattle.question_solvers.specs.declared.factor_solver.Factoring.TheVariants.{Made, Refused, Untried}
use Rattle.batch_run.specs.declared.batch.Batch.{Batch}
use Rattle.batch_run.specs.declared.solve.Solver.{Solver}
use Rattle.batch_run.specs.declared.solve.Solver.TheVariants.{Plain, Factors, Workers}
use Rattle.batch_run.specs.Reports.{IsFactoringTold, IsOrderTold, IsTold, Preparation, ReportedFirst}
use Rattle.batch_run.specs.Factored.{IsChosen, IsFactoringOf, IsPreparedBy, IsSought, MayTell, WasTried, is_by_factors}
use Rattle.batch_run.proofs.WrittenReports.{first_still}

-- something is due of factoring, if factors are to answer
some_due : (factors : Bool) → (became : Option Factoring) × (is_some became ≡ factors)
some_due true = (Some Untried, refl)
some_due false = (None, refl)

module _ {S V : Type 0} {G : Ghosts S V} where
  -- after it sought an order something is due, which was not told yet
  pub some_told : (s : Solver S V G) (found : Option Counts) → IsSought s found → (became : Option Factoring) × IsPreparedBy s (record { found = found; became = became })
  some_told s found sought = let due = some_due (is_by_factors s) in (due.0, record { sought = sought; became = due.1 })

  -- it may have found none
  pub none_sought : (s : Solver S V G) → IsSought s None
  none_sought (Plain s) = refl
  none_sought (Factors s) = record { known = λ some. refl; within = tt }
  none_sought (Workers s) = refl

  order_told : (s : Solver S V G) (found : Option Counts) → IsSought s found → IsOrderTold (graph_of s) (is_by_factors s) found
  order_told (Plain s) found none = none
  order_told (Factors s) found sought = sought.within
  order_told (Workers s) found none = none

  -- one that solves by factors tells what became of it, and no other does
  told_by_kind : (s : Solver S V G) (factors : Bool) → is_by_factors s ≡ factors → (made : Preparation) → IsPreparedBy s made → IsTold (graph_of s) factors made
  told_by_kind s factors chosen made may =
      subst (λ (b : Bool). IsTold (graph_of s) b made) chosen (order_told s made.found may.sought, may.became)

  module _ {R T : Type 0} (meaning : S → Algebra V) (cost : S → Option Cost) (batch : Batch S R T V G) (s : Solver S V G) where
    -- it tells what became of it once it was tried
    pub may_tell : (m : Solver S V G) → IsSameSolver s m → is_by_factors m ≡ is_by_factors s → WasTried (meaning batch.task.algebra) (cost batch.task.algebra) m → IsReady meaning batch 0 m → (became : Option Factoring)
        → IfSome became (IsFactoringOf m) → (f : Factoring) → became ≡ Some f → MayTell meaning cost batch s f
    may_tell m same kind tried ready became is f e =
        record { moment = m; same = same; kind = kind; tried = tried; ready = ready; is_true = subst (λ (o : Option Factoring). IfSome o (IsFactoringOf m)) e is }

    -- which is right of its graph, and not before it was tried
    told_rightly : (is_by_factors s ≡ true → IsSome (cost batch.task.algebra)) → (became : Factoring) → MayTell meaning cost batch s became → IsFactoringTold (graph_of s) became
    told_rightly some became may = subst (λ (g : GraphData). IsFactoringTold g became) may.same.graph (rightly may.moment may.kind may.tried became may.is_true)
      where
        rightly : (m : Solver S V G) → is_by_factors m ≡ is_by_factors s → WasTried (meaning batch.task.algebra) (cost batch.task.algebra) m → (f : Factoring) → IsFactoringOf m f → IsFactoringTold (graph_of m) f
        rightly (Plain x) kind tried f bad = absurd bad
        rightly (Factors x) kind tried Untried is = absurd (false≢true (sym is.0.1 ∙ tried.1 (some (sym kind)) is.0.0))
        rightly (Factors x) kind tried Made is = (is.1, λ e. let bad : Made ≡ Untried = e in cc)
        rightly (Factors x) kind tried (Refused why) is = (is.1, λ e. let bad : Refused why ≡ Untried = e in cc)
        rightly (Workers x) kind tried f bad = absurd bad

    -- what is reported if this solver answers is told rightly by the settings that chose it
    pub told_as : IsChosen batch.settings.now s → (batch.settings.now.factors ≡ true → IsSome (cost batch.task.algebra)) → {X W : Type 0} (may_become : X → Progress → X → Type 0) (old new : X) (out out_after : Output W) (whole : Bool)
        → ReportedFirst (meaning batch.task.algebra) batch.settings.now (graph_of s) (asked_in batch) (is_without_diffusions s) (IsPreparedBy s) (MayTell meaning cost batch s) may_become old new out out_after whole
        → ReportedFirst (meaning batch.task.algebra) batch.settings.now (graph_of s) (asked_in batch) (without_diffusions batch.settings.now) (IsTold (graph_of s) batch.settings.now.factors) (IsFactoringTold (graph_of s)) may_become old new out out_after whole
    told_as chosen some may_become old new out out_after whole w =
        let A = meaning batch.task.algebra in
        let how = batch.settings.now in
        first_still A how (graph_of s) (asked_in batch) (without_diffusions how) (IsPreparedBy s) (IsTold (graph_of s) how.factors) (told_by_kind s how.factors chosen.factors)
        (MayTell meaning cost batch s) (IsFactoringTold (graph_of s)) (told_rightly (λ by. some (sym chosen.factors ∙ by))) may_become old new out out_after out_after (λ n wrote. wrote) whole
        (subst (λ (b : Bool). ReportedFirst A how (graph_of s) (asked_in batch) b (IsPreparedBy s) (MayTell meaning cost batch s) may_become old new out out_after whole) chosen.kind w)
