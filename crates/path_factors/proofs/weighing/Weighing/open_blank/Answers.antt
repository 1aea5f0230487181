use Rattle.std.specs.Arc.{arc_value}
use Rattle.path_factors.proofs.Setting.{begun_blank}
use Rattle.path_factors.proofs.weighing.Weighing.open_blank.Goals as goal

pub open-requires-clause-links : goal.open-requires-clause-links
open-requires-clause-links g c κs within =
    let asked = c.requires in (
      begun_blank (g.A.PathAlgebra.meaning c.args.algebra) (g.A.ComposingAlgebra.walks c.args.algebra) c.composition_holds.ensures c.args.graph.now
          (arc_value c.args.order).value.vertices.items c.args.places.items asked.places c.args.rows asked.outline.are c.len.ensures.heads asked.risers asked.fallers,
      asked.outline,
    )
