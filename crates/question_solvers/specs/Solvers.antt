-- Solvers between two questions.
use Rattle.std.specs.Prelude.{◌≡◌, List, length, Option, None, IfSome, IsNone, IsSome}
use Rattle.std.specs.Option.{IsSomeAnd}
use Rattle.std.specs.List.{All}
use Rattle.road_graph.specs.GraphData.{GraphData}
use Rattle.elimination_order.specs.Bounds.{AreWithinBounds, IsTooDense}
use Rattle.elimination_order.specs.declared.counts.Counts.{Counts}
use Rattle.road_files.specs.Asked.{asked_of}
use Rattle.path_algebra.specs.declared.algebra.PathAlgebra.{Ghosts}
use Rattle.path_algebra.specs.Algebra.{Algebra}
use Rattle.path_algebra.specs.Carried.{IsCarried}
use Rattle.path_algebra.specs.Counted.{cost_of, CountsFit}
pub use Rattle.route_tree.specs.Searchers.{IsSearcherOf}
use Rattle.question_solvers.specs.Questions.{ArePairs}
use Rattle.question_solvers.specs.Solved.{IsSearched}
use Rattle.question_solvers.specs.declared.factor_solver.FactorSolver.{FactorSolver}
use Rattle.question_solvers.specs.declared.factor_solver.Factoring.{Factoring}
use Rattle.question_solvers.specs.declared.factor_solver.Factoring.TheVariants.{Untried, Made, Refused}
use Rattle.question_solvers.specs.declared.factor_solver.NoFactors.TheVariants.{Dense, Heavy}
use Rattle.question_solvers.specs.declared.pair_solver.PairSolver.{PairSolver}
use Rattle.question_solvers.specs.declared.plain_solver.PlainSolver.{PlainSolver}
use Rattle.question_solvers.specs.declared.task.Task.{Task}

-- each of a pool searches this graph by this algebra
abbrev pub IsPoolOf : {S V : Type 0} → S → GraphData → List (PairSolver S V) → Type 0
IsPoolOf algebra g pool = All (λ s. IsSearcherOf algebra g s.searcher) pool

module _ {S R V : Type 0} {G : Ghosts S V} (meaning : S → Algebra V) (task : Task S R V G) where
  -- the plain solver's, for a task: what it found is right, its pool is the graph's, and for pairs it
  -- has the rows of arcs by head
  pub record IsPlainReady (s : PlainSolver S V G) : Type 0 where
    pub searched : All (IsSearched (meaning task.algebra) s.graph (asked_of task.questions.now)) s.searched.items
    pub pool : IsPoolOf task.algebra s.graph s.pool.items
    pub rows : ArePairs task.questions.now → IsSome s.by_head

  -- after a question it is over the same graph, by tail and by head, and ready for the next one
  pub record IsPlainAfter (old new : PlainSolver S V G) : Type 0 where
    pub graph : new.graph ≡ old.graph
    pub rows : new.by_head ≡ old.by_head
    pub ready : IsPlainReady new

  -- the factors' solver: the plain one in it is ready, and factors have the rows of arcs by head and
  -- carry the algebra's values
  pub record IsFactorReady (s : FactorSolver S V G) : Type 0 where
    pub plain : IsPlainReady s.plain
    pub rows : IfSome s.factored (λ f. IsSome s.plain.by_head)
    pub carried : IfSome s.factored (λ f. IsCarried (meaning task.algebra) (cost_of f.factors.algebra.cost))

  -- after a question it is over the same graph, and ready for the next one
  pub record IsFactorAfter (old new : FactorSolver S V G) : Type 0 where
    pub graph : new.plain.graph ≡ old.plain.graph
    pub ready : IsFactorReady new

-- its factors are for costs that carry the values of this algebra; and if it has none, the graph
-- was refused for such costs
pub record IsFactoredFor {S V : Type 0} {G : Ghosts S V} (A : Algebra V) (s : FactorSolver S V G) : Type 0 where
  pub factored : IfSome s.factored (λ f. IsCarried A (cost_of f.factors.algebra.cost))
  pub refused : IsNone s.factored → IfSome s.refused (λ r. IsCarried A (cost_of r.0))

-- factoring its graph was tried: it has factors, or the graph was refused
abbrev pub IsTried : {S V : Type 0} {G : Ghosts S V} → FactorSolver S V G → Type 0
IsTried s = IsNone s.factored → IsSome s.refused

-- what became of factoring its graph: there are factors, of sums that fit; or none, and why the
-- graph was refused; or neither
abbrev pub IsFactoringBy : {S V : Type 0} {G : Ghosts S V} → FactorSolver S V G → Factoring → Type 0
IsFactoringBy s Untried = IsNone s.factored × IsNone s.refused
IsFactoringBy s Made = IsSomeAnd s.factored (λ f. CountsFit f.factors.roads (cost_of f.factors.algebra.cost) f.factors.algebra.bits)
IsFactoringBy s (Refused why) = IsNone s.factored × IsSomeAnd s.refused (λ r. r.1 ≡ why)

-- what is told of factoring this graph is true of counts: if it is too dense, they are above a
-- bound
abbrev pub IsToldRightly : GraphData → Factoring → Type 0
IsToldRightly g Untried = Unit {0}
IsToldRightly g Made = Unit {0}
IsToldRightly g (Refused (Dense counts)) = IsTooDense g.vertices (length g.arcs) counts
IsToldRightly g (Refused Heavy) = Unit {0}

-- what comes of seeking an order for its graph: nothing, if it has one; else an order may be found,
-- with counts within the bounds
pub record IsSoughtBy {S V : Type 0} {G : Ghosts S V} (s : FactorSolver S V G) (found : Option Counts) : Type 0 where
  pub known : IsSome s.order → found ≡ None
  pub within : IfSome found (AreWithinBounds s.plain.graph.vertices (length s.plain.graph.arcs))
