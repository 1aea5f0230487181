use Rattle.path_factors.proofs.Words.{List, ℕ, length, ap, arith, row_of, row_heads_count}
use Rattle.path_factors.proofs.packed.PackedRows.count.Goals as goal

pub returns-clause-leaving : goal.returns-clause-leaving
returns-clause-leaving g c = omega (arith, ap length c.heads.ensures, row_heads_count c.args.self.now.leaving c.args.i)

pub returns-clause-entering : goal.returns-clause-entering
returns-clause-entering g c =
    let same = ap (λ (h : List (List ℕ)). length (row_of h c.args.i)) c.len.ensures.heads in
    omega (arith, ap length c.heads.ensures, same, row_heads_count c.args.self.now.entering c.args.i)
