use Rattle.std.proofs.Common.{◌≤◌, length}
use Rattle.std.specs.List.{All}
use Rattle.question_solvers.specs.Questions.{HasPlace}
use Rattle.question_solvers.proofs.side_by_side.places_from.Given as goal

abbrev pub invariant-loop-place : goal.invariant-loop-place
invariant-loop-place g l = record {
  inside : All (HasPlace l.task.questions.now) l.places.items;
  few : length l.places.items ≤ l.task.width;
}
