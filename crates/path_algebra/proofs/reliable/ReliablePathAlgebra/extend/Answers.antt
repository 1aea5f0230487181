use Rattle.path_algebra.proofs.Words.{◌≤◌, arith, common_steps}
use Rattle.std.proofs.Math.Nat.{mul-le-mul}
use Rattle.path_algebra.proofs.reliable.ReliablePathAlgebra.extend.Goals as goal

pub overflow_mul-product : goal.overflow_mul-product
overflow_mul-product c =
    let a : c.min.result ≤ 1000000000000 = omega (arith, c.min.ensures) in
    let b : c.min-2.result ≤ 1000000 = omega (arith, c.min-2.ensures) in
    omega (arith, mul-le-mul a b)

pub returns : goal.returns
returns c = grind (arith, common_steps)
