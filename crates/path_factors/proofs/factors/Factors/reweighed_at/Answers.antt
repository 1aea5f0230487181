use Rattle.path_factors.proofs.FewWeights.{changed_fits}
use Rattle.path_factors.proofs.factors.Factors.reweighed_at.Goals as goal

pub weighed_anew-requires-after_bounds : goal.weighed_anew-requires-after_bounds
weighed_anew-requires-after_bounds g c κs within =
    changed_fits c.args.changes.now c.args.graph.now c.args.self.now c.requires.differs c.holds.ensures.outline
