use Rattle.path_plain.proofs.Words.{take, AreOpening, IsSameSearch}
use Rattle.path_plain.proofs.search.Search.start.Given as goal

abbrev pub invariant-loop-source : goal.invariant-loop-source
invariant-loop-source g l = record {
  same : IsSameSearch l.fn.self l.self;
  opening : AreOpening (g.A.PathAlgebra.meaning l.algebra).origin l.fn.self.roads.vertices (take l.source-index l.sources) l.self.labels;
}
