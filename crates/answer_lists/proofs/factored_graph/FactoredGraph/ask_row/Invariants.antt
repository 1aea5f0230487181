use Rattle.answer_lists.proofs.Words.{◌≡◌, [], ◌∷◌, take, AreRowCodes}
use Rattle.answer_lists.proofs.factored_graph.FactoredGraph.ask_row.Given as goal

abbrev pub invariant-loop-target : goal.invariant-loop-target
invariant-loop-target g l = record {
  same : l.asker.factors ≡ l.self;
  source : l.asker.sources ≡ l.ends.source ∷ [];
  row : AreRowCodes (g.A.PathAlgebra.meaning l.algebra) l.self.roads (take l.target-index l.ends.targets.now) l.ends.source l.row.items;
}
