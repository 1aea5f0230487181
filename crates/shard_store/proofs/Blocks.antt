-- A block's number is below the number of shards.
use Rattle.std.proofs.Common.{ℕ, ◌+◌, ◌*◌, ◌/◌, ◌<◌, ◌≤◌, arith}
use Rattle.std.proofs.Math.Nat.{div-lt_iff_lt-mul, mul-le-mul_right}

pub block_below : (i s n : ℕ) → i < n → 1 ≤ s → i * s / n < s
block_below i s n l k =
    let m : (i + 1) * s ≤ n * s = mul-le-mul_right s (let h : i + 1 ≤ n = omega arith in h) in
    (div-lt_iff_lt-mul {k = n} {x = i * s} {y = s} (omega arith)).1 (omega (arith, m))
