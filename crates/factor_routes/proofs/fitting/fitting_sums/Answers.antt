use Rattle.factor_routes.proofs.Words.{◌≡◌, ℕ, ◌-◌, ◌<◌, ◌≤◌, ◌^◌, IfSome, sym, subst, arith, Option, Some, None, GraphData, cost_of, CountsFit, Cost, CountedSums}
use Rattle.std.proofs.lemmas.Nat.{one_shl}
use Rattle.factor_routes.proofs.Greatest.{fits_above, room_if_fits}
use Rattle.factor_routes.proofs.fitting.fitting_sums.Goals.{else-bits-lt32-via-then-bits-lt32+else-sum_of_greatest-bits, else-bits-lt32-via-else-bits-lt32}
use Rattle.factor_routes.proofs.fitting.fitting_sums.Goals as goal

with_bits : (g : GraphData) (cost : Cost) (bits : ℕ) (o : Option CountedSums) → IfSome o (λ sums. (sums.cost ≡ cost) × (sums.bits ≡ bits)) →
    CountsFit g (cost_of cost) bits → IfSome o (λ sums. CountsFit g (cost_of cost) sums.bits)
with_bits g cost bits None h fit = h
with_bits g cost bits (Some sums) h fit = subst (λ (k : ℕ). CountsFit g (cost_of cost) k) (sym h.1) fit

pub returns-then-sum_of_greatest-bits-clause-fits :
    goal.returns-then-sum_of_greatest-bits-clause-fits
returns-then-sum_of_greatest-bits-clause-fits c =
    let G = c.args.by_head.now in
    let bits = c.bits_of-bits.result in
    let enough = subst (λ (n : ℕ). n < 2 ^ bits) c.vertices.ensures.count c.bits_of-bits.ensures.enough in
    let shifted = one_shl (63 - bits) 64 (omega arith) in
    let sum = c.sum_of_greatest.ensures.sum in
    with_bits G c.args.cost bits c.new.result c.new.ensures.bits
    (fits_above (cost_of c.args.cost) G bits (omega (arith, c.if-bits-lt32.true)) enough (omega (arith, c.if-sum_of_greatest-bits.true, shifted, sum)))

pub returns-else-bits-lt32-clause-none : goal.returns-else-bits-lt32-clause-none
returns-else-bits-lt32-clause-none c = λ k fit.
    let bits = c.bits_of-bits.result in
    let least = subst (λ (n : ℕ). (j : ℕ) → n < 2 ^ j → bits ≤ j) c.vertices.ensures.count c.bits_of-bits.ensures.least in
    let few = least 26 (omega (arith, c.holds.ensures.few_vertices)) in
    elim c.else-bits-lt32.branch [
      | else-bits-lt32-via-then-bits-lt32+else-sum_of_greatest-bits w ↦
          let room = room_if_fits (cost_of c.args.cost) c.args.by_head.now k bits fit (omega (arith, few)) least in
          let shifted = one_shl (63 - bits) 64 (omega arith) in
          omega (arith, room, w.if-sum_of_greatest-bits.false, shifted, w.sum_of_greatest.ensures.sum)
      | else-bits-lt32-via-else-bits-lt32 w ↦ let above = w.if-bits-lt32.false in omega (arith, few, above)
    ]
