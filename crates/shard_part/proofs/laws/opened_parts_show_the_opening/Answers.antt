use Rattle.shard_part.proofs.OpenedAll.{opened_show, opened_same}
use Rattle.shard_part.proofs.laws.opened_parts_show_the_opening.Goals as goal

pub returns : goal.returns
returns g c = λ t mail planned none. record {
  same = opened_same (g.A.PathAlgebra.meaning t.diffusion.algebra) t planned;
  shown = opened_show (g.A.PathAlgebra.meaning t.diffusion.algebra) t planned mail none;
}
