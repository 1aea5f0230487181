use Rattle.path_factors.proofs.Words.{◌≡◌, ◌∙◌, arith, at, row_of}
use Rattle.path_factors.proofs.Offers.{offered_from_count}
use Rattle.path_factors.proofs.Sweeps.{forward_goes_on, forward_ends}
use Rattle.path_factors.proofs.factors.Factors.sweep_up.Goals as goal

pub loop-i-preserved : goal.loop-i-preserved
loop-i-preserved g c =
    let A = g.A.PathAlgebra.meaning c.args.self.now.algebra in
    let C = g.A.ComposingAlgebra.walks c.args.self.now.algebra in
    let holds = c.holds.ensures in
    let before = c.loop-i.labels in
    record {
      halt = λ can. c.loop-i.invariant.halt (c.is_due.ensures.kind.0 can);
      count = rw c.offer_up.ensures
          (offered_from_count A holds.lawful C (at before c.loop-i.i) before (row_of c.args.self.now.factor.leaving c.loop-i.i) ∙ c.loop-i.invariant.count);
      forward = λ sources start. rw c.offer_up.ensures
          (forward_goes_on A holds.lawful C holds.composes c.args.self.now.roads holds.roads c.args.self.now.factor holds.factor sources
          c.loop-i.i (omega (arith, c.loop-i-test.true, c.requires)) before (c.loop-i.invariant.forward sources start));
    }

pub returns-clause-forward : goal.returns-clause-forward
returns-clause-forward g c = λ _ sources start.
    let A = g.A.PathAlgebra.meaning c.args.self.now.algebra in
    let C = g.A.ComposingAlgebra.walks c.args.self.now.algebra in
    let holds = c.holds.ensures in
    let all : c.loop-i.i ≡ c.args.self.now.roads.vertices = omega (arith, c.loop-i-test.false, c.loop-i.auto.i-end, c.requires) in
    forward_ends A holds.lawful C holds.composes c.args.self.now.roads holds.roads c.args.self.now.factor holds.factor sources c.loop-i.labels
    (rw all at (c.loop-i.invariant.forward sources start))
