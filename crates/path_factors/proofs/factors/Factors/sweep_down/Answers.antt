use Rattle.path_factors.proofs.Words.{◌≡◌, ◌+◌, ◌-◌, arith, subst, IsBackwardFrom}
use Rattle.path_factors.proofs.Sweeps.{backward_goes_on}
use Rattle.path_factors.proofs.factors.Factors.sweep_down.Goals as goal

pub loop-i-preserved : goal.loop-i-preserved
loop-i-preserved g c =
    let A = g.A.PathAlgebra.meaning c.args.self.now.algebra in
    let C = g.A.ComposingAlgebra.walks c.args.self.now.algebra in
    let holds = c.holds.ensures in
    let some = c.loop-i-test.true in
    let back : c.loop-i.i ≡ (c.loop-i.i - 1) + 1 = omega (arith, some) in
    let done = subst (λ k. IsBackwardFrom A C c.args.self.now.roads c.args.self.now.factor c.args.labels.now k c.loop-i.labels) back c.loop-i.invariant.back in
    record {
      halt = λ can. c.loop-i.invariant.halt (c.is_due.ensures.kind.0 can);
      back = rw c.best_down.ensures
          (backward_goes_on A holds.lawful C holds.composes c.args.self.now.roads holds.roads c.args.self.now.factor holds.factor c.args.labels.now
          (c.loop-i.i - 1) (omega (arith, some, c.loop-i.auto.i, c.requires)) c.loop-i.labels done);
    }
