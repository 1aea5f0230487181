use Rattle.path_factors.proofs.Words.{◌≡◌, ◌<◌, ◌∙◌, length, get_or, ap, arith, subst, row_of, at, IsForwardTo}
use Rattle.path_factors.proofs.Offers.{offered_from_count}
use Rattle.path_factors.proofs.Sweeps.{forward_ends}
use Rattle.path_factors.proofs.Climbing.{climb_begins, forward_starts_at, climbs_on, forward_climbs, climb_ends}
use Rattle.path_factors.proofs.factors.Factors.climb.Goals as goal

pub loop-v-init : goal.loop-v-init
loop-v-init g c =
    let A = g.A.PathAlgebra.meaning c.args.self.now.algebra in
    let C = g.A.ComposingAlgebra.walks c.args.self.now.algebra in
    let G = c.args.self.now.roads in
    let F = c.args.self.now.factor in
    let holds = c.holds.ensures in
    record {
      count = c.requires.count;
      inside = omega (arith, c.requires.place);
      climbed = climb_begins c.args.self.now.heads G.vertices c.args.s c.args.labels.now c.requires.alone;
      forward = λ sources start.
          forward_starts_at A holds.lawful C holds.composes G holds.roads F holds.factor c.args.self.now.heads holds.outline.are sources c.args.s c.args.labels.now c.requires.alone start;
    }

pub loop-v-preserved : goal.loop-v-preserved
loop-v-preserved g c =
    let A = g.A.PathAlgebra.meaning c.args.self.now.algebra in
    let C = g.A.ComposingAlgebra.walks c.args.self.now.algebra in
    let G = c.args.self.now.roads in
    let F = c.args.self.now.factor in
    let holds = c.holds.ensures in
    let v = c.loop-v.v in
    let p = get_or c.parents-parents.result.now v 0 in
    let labels = c.loop-v.labels in
    let count = c.loop-v.invariant.count in
    let low : v < G.vertices = omega (arith, c.loop-v-test.true, count) in
    let step = c.offer_up.ensures in
    record {
      count = ap length step ∙ offered_from_count A holds.lawful C (at labels v) labels (row_of F.leaving v) ∙ count;
      inside = (c.parents-parents.ensures.above v low).1;
      climbed = climbs_on A holds.lawful C holds.composes G holds.roads F holds.factor c.args.self.now.heads holds.outline.are holds.at_heads v p low (c.parents-parents.ensures.parents.parent v low) labels c.offer_up.new.labels count step
          c.args.s c.loop-v.invariant.climbed;
      forward = λ sources start.
          forward_climbs A holds.lawful C holds.composes G holds.roads F holds.factor c.args.self.now.heads holds.outline.are holds.at_heads v p low (c.parents-parents.ensures.parents.parent v low) labels c.offer_up.new.labels count step
          c.args.s c.loop-v.invariant.climbed sources (c.loop-v.invariant.forward sources start);
    }

pub returns-clause-up : goal.returns-clause-up
returns-clause-up g c =
    let A = g.A.PathAlgebra.meaning c.args.self.now.algebra in
    let C = g.A.ComposingAlgebra.walks c.args.self.now.algebra in
    let holds = c.holds.ensures in
    climb_ends A holds.lawful C holds.composes c.args.self.now.roads holds.roads c.args.self.now.factor holds.factor c.args.self.now.heads holds.outline.are c.args.s c.loop-v.v c.loop-v.labels c.loop-v.invariant.count
    (omega (arith, c.loop-v-test.false, c.loop-v.invariant.inside, c.loop-v.invariant.count)) c.loop-v.invariant.climbed

pub returns-clause-forward : goal.returns-clause-forward
returns-clause-forward g c = λ sources start.
    let A = g.A.PathAlgebra.meaning c.args.self.now.algebra in
    let C = g.A.ComposingAlgebra.walks c.args.self.now.algebra in
    let G = c.args.self.now.roads in
    let F = c.args.self.now.factor in
    let holds = c.holds.ensures in
    let is : c.loop-v.v ≡ G.vertices = omega (arith, c.loop-v-test.false, c.loop-v.invariant.inside, c.loop-v.invariant.count) in
    forward_ends A holds.lawful C holds.composes G holds.roads F holds.factor sources c.loop-v.labels
    (subst (λ k. IsForwardTo A C G F sources k c.loop-v.labels) is (c.loop-v.invariant.forward sources start))
