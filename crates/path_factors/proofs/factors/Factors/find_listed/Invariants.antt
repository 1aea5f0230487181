use Rattle.path_factors.proofs.Words.{◌≡◌, ◌≤◌, List, Option, length, IsBackRun, Agree}
use Rattle.path_factors.proofs.Finding.{AreFoundFrom}
use Rattle.path_factors.proofs.factors.Factors.find_listed.Given as goal

abbrev pub invariant-loop-k : goal.invariant-loop-k
invariant-loop-k g l = record {
  inside : l.k ≤ length l.list;
  labels_count : length l.labels ≡ l.self.roads.vertices;
  known_count : length l.known ≡ l.self.roads.vertices;
  found : (before all : List (Option g.row.A-Value.Denot)) →
      IsBackRun (g.A.PathAlgebra.meaning l.self.algebra) (g.A.ComposingAlgebra.walks l.self.algebra) l.self.roads.vertices l.self.factor before all →
      Agree l.self.roads.vertices before all l.fn.labels l.fn.known →
      AreFoundFrom l.self.heads l.self.roads.vertices before all l.fn.known l.list l.k l.labels l.known;
}
