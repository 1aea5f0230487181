use Rattle.std.proofs.Common.{◌≡◌, ℕ, ◌-◌, ◌<◌, ◌^◌, sym, subst, arith}
use Rattle.std.proofs.lemmas.Nat.{leading_length}
use Rattle.std.specs.Int.Count.{count_leading_zeros}
use Rattle.factor_routes.proofs.Greatest.{few_digits}
use Rattle.factor_routes.proofs.fitting.bits_of.Goals as goal

pub returns-clause-enough : goal.returns-clause-enough
returns-clause-enough c =
    let l = leading_length 32 c.args.n c.ranges.n.fits in
    let e : 32 - count_leading_zeros 32 c.args.n ≡ l.0 = omega (arith, l.1) in
    subst (λ (m : ℕ). c.args.n < 2 ^ m) (sym e) l.2

pub returns-clause-least : goal.returns-clause-least
returns-clause-least c = λ k below.
    let l = leading_length 32 c.args.n c.ranges.n.fits in
    omega (arith, l.1, few_digits c.args.n l.0 k l.3 below)
