use Rattle.scholten_core.proofs.Words.{arith, ◌≤◌, ◌∙◌, sym, subst, get_or_default, network_of, network_in}
use Rattle.scholten_core.proofs.Networks.{out_at}
use Rattle.scholten_core.proofs.Pumping.{offered_step, offered_end}
use Rattle.scholten_core.proofs.core_tables.CoreTables.pump.Goals as goal

pub offer-requires-clause-low : goal.offer-requires-clause-low
offer-requires-clause-low g c κs within =
    let O = out_at _ c.args.self.now c.args.v c.out-outgoing.result.now c.self.view_is c.requires.vertex.0 c.out-outgoing.ensures in
    subst (λ b. 1 ≤ b) (sym (c.b-item.is ∙ get_or_default c.out-outgoing.result.now c.loop-b.b-index _ 0 c.loop-b-test.true)) (O.low c.loop-b.b-index c.loop-b-test.true)

pub offer-requires-clause-high : goal.offer-requires-clause-high
offer-requires-clause-high g c κs within =
    let O = out_at _ c.args.self.now c.args.v c.out-outgoing.result.now c.self.view_is c.requires.vertex.0 c.out-outgoing.ensures in
    subst (λ p. c.b-item.result ≤ (network_in p).arcs) (sym c.loop-b.invariant.same)
    (subst (λ b. b ≤ (network_of c.args.self.now).arcs)
    (sym (c.b-item.is ∙ get_or_default c.out-outgoing.result.now c.loop-b.b-index _ 0 c.loop-b-test.true))
    (O.high c.loop-b.b-index c.loop-b-test.true))

pub offer-requires-clause-tail : goal.offer-requires-clause-tail
offer-requires-clause-tail g c κs within =
    let O = out_at _ c.args.self.now c.args.v c.out-outgoing.result.now c.self.view_is c.requires.vertex.0 c.out-outgoing.ensures in
    (λ i. (network_in (c.loop-b.invariant.same i)).tail
    ((c.b-item.is ∙ get_or_default c.out-outgoing.result.now c.loop-b.b-index _ 0 c.loop-b-test.true) i))
    ∙ O.tail c.loop-b.b-index c.loop-b-test.true

pub loop-b-preserved : goal.loop-b-preserved
loop-b-preserved g c =
    let O = out_at _ c.args.self.now c.args.v c.out-outgoing.result.now c.self.view_is c.requires.vertex.0 c.out-outgoing.ensures in
    record {
      same = c.offer.ensures.same ∙ c.loop-b.invariant.same;
      offered = offered_step g.A.PathAlgebra.meaning c.args.self.now c.loop-b.self c.offer.new.self c.args.v _ c.out-outgoing.result.now c.loop-b.b-index
          c.loop-b.invariant.same c.loop-b.invariant.offered O c.loop-b-test.true
          (c.b-item.is ∙ get_or_default c.out-outgoing.result.now c.loop-b.b-index _ 0 c.loop-b-test.true) c.offer.ensures.state;
    }

pub returns-clause-state : goal.returns-clause-state
returns-clause-state g c =
    let O = out_at _ c.args.self.now c.args.v c.out-outgoing.result.now c.self.view_is c.requires.vertex.0 c.out-outgoing.ensures in
    offered_end g.A.PathAlgebra.meaning c.args.self.now c.loop-b.self c.args.v c.out-outgoing.result.now c.loop-b.b-index c.loop-b.invariant.offered O
    (let done = c.loop-b-test.false in let most = c.loop-b.auto.b-index-end in omega (arith, done, most))
