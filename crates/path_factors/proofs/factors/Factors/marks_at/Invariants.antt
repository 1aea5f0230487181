use Rattle.path_factors.proofs.Words.{◌≡◌, length, IsKnownUpward}
use Rattle.path_factors.proofs.FewWeights.{AreMarkedTo}
use Rattle.path_factors.proofs.factors.Factors.marks_at.Given as goal

abbrev pub invariant-loop-change : goal.invariant-loop-change
invariant-loop-change g l = record {
  count : length l.marks.items ≡ l.self.roads.vertices;
  upward : IsKnownUpward l.self.heads l.marks.items;
  marked : AreMarkedTo l.self.factor.places l.marks.items l.changes l.change-index;
}
