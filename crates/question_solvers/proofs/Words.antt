-- The words and lemmas that many proofs of this crate use.
pub use Rattle.path_algebra.specs.Algebra.{Algebra}
pub use Rattle.path_algebra.specs.Counted.{CountsFit, cost_of}
pub use Rattle.path_algebra.specs.Walks.{AreBest}
pub use Rattle.question_solvers.specs.Solved.{IsSearched, next_of}
pub use Rattle.question_solvers.specs.Solvers.{IsPoolOf, IsSearcherOf}
pub use Rattle.question_solvers.specs.Tasks.{AreFoundIn, IsFoundIn, IsPoolIn, IsSearcherIn}
pub use Rattle.question_solvers.specs.declared.factor_solver.NoFactors.TheVariants.{Heavy}
pub use Rattle.question_solvers.specs.declared.pair_solver.PairSolver.{PairSolver}
pub use Rattle.question_solvers.specs.declared.searched.Searched.{Searched}
pub use Rattle.road_files.proofs.QuestionLaws.{asked_within}
pub use Rattle.road_files.specs.Asked.{Asked, FromSource, Question, asked_of}
pub use Rattle.road_graph.specs.GraphData.{GraphData, HasVertex}
pub use Rattle.route_tree.specs.Found.{IsPairFound}
pub use Rattle.route_tree.specs.Tree.{IsTree}
pub use Rattle.std.proofs.Common.{All, Global, List, None, Option, Some, Vec, [], ap, arith, get_or, length, refl, rules, subst, sym, take, ℕ, ◌++◌, ◌+◌, ◌-◌, ◌<◌, ◌∙◌, ◌∷◌, ◌≡◌, ◌≤◌}
pub use Rattle.std.proofs.Crossing.{crosses}
pub use Rattle.std.proofs.lemmas.List.{length_push}
pub use Rattle.std.proofs.lemmas.List.Elements.{All-nil, All-pop, All-push, All-same, All-set, All-take}
pub use Rattle.std.specs.Option.{ForSome}
pub use Rattle.std.specs.Prelude.{IfOk, IfSome}
pub use denote.Ref.{NamedLft}
