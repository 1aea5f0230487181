use Rattle.service.proofs.Words.{inl, inr, refl, graph_of}
use Rattle.service.proofs.RunLaws.{over_graph, over_suited, read_failed, read_suited}
use Rattle.service.proofs.run.run_service_watched.Goals as goal

pub returns-in-Ok : goal.returns-in-Ok
returns-in-Ok g c = record {
  ran = over_graph (g.A.PathAlgebra.meaning c.args.algebra) c.args.run.now.settings.now (g.T.Gate.may_answer c.args.run.now.gate.now)
      (g.N.Reader.RoadRead.seen c.args.graph.now) (g.N.Reader.RoadRead.seen c.read_solver.new.graph) _ _ (g.N.Reader.RoadRead.seen c.args.requests.now) (g.N.Reader.RoadRead.seen c.serve_over.new.requests)
      (g.N.Writer.RoadWrite.seen c.args.out.now) (g.N.Writer.RoadWrite.seen c.serve_over.new.out)
      (graph_of c.in-Ok.solver) c.in-Ok.ensures.graph c.in-Ok.ensures.read c.serve_over.result c.serve_over.ensures.ran;
  suited = over_suited _ _ _ c.if-not-suit.false c.suit.ensures.exactly _ _ _ _ _ _ _ c.serve_over.result c.serve_over.ensures.ran;
  told = inr (graph_of c.in-Ok.solver, c.in-Ok.ensures.graph, c.serve_over.ensures.told);
}

pub returns-in-Err : goal.returns-in-Err
returns-in-Err g c = record {
  ran = read_failed (g.A.PathAlgebra.meaning c.args.algebra) c.args.run.now.settings.now (g.T.Gate.may_answer c.args.run.now.gate.now)
      (g.N.Reader.RoadRead.seen c.args.graph.now) (g.N.Reader.RoadRead.seen c.read_solver.new.graph) _ _ (g.N.Reader.RoadRead.seen c.args.requests.now) (g.N.Writer.RoadWrite.seen c.args.out.now)
      c.in-Err.fault c.in-Err.ensures.fault c.in-Err.ensures.kinds.0 c.in-Err.ensures.kinds.1 c.in-Err.ensures.placed;
  suited = read_suited _ _ _ c.if-not-suit.false c.suit.ensures.exactly c.in-Err.fault c.in-Err.ensures.kinds.0;
  told = inl (refl, refl);
}
