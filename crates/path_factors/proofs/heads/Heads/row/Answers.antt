use Rattle.std.proofs.Common.{length, ap, arith}
use Rattle.path_factors.proofs.Packing.{rows_count}
use Rattle.path_factors.proofs.heads.Heads.row.Goals as goal

pub row_between-requires-clause-inside : goal.row_between-requires-clause-inside
row_between-requires-clause-inside c =
    let same = ap length c.deref.ensures.value in
    omega (arith, rows_count c.self.inside.starts.items c.self.inside.places.items, ap length c.self.view_is, same, c.self.invariant.some, c.requires)
