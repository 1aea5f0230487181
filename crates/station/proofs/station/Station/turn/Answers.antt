use Rattle.station.proofs.Words.{true, false, subst, sym, ap, ◌∙◌, BelongsTo, Turned}
use Rattle.station.proofs.Stepping.{went_on}
use Rattle.station.proofs.Turns.{rested, turned}
use Rattle.station.proofs.station.Station.turn.Goals as goal

pub returns-then-self-clause-turned : goal.returns-then-self-clause-turned
returns-then-self-clause-turned g c =
    let laws = g.met.A.PathAlgebra g.world.𝓛 g.world.𝓜 g.world.𝓡 ((λ s x. x), (λ x. x), (λ x. x), λ x. x) in
    let i = c.self.inside in
    subst (λ z. Turned g.A.PathAlgebra.meaning c.args.floor.now c.args.budget z (record { handled = 0; taken = 0; published = 0; held = false; ended = true }) z) c.self.view_is
    (rested g.A.PathAlgebra.meaning laws.lawful c.args.floor.now c.args.budget (record { part = i.part; seat = i.seat; ended = i.ended }) c.self.invariant.0 c.if-self.true
    (subst (λ z. BelongsTo c.args.floor.now z) (sym c.self.view_is) c.requires))

pub fill_all-published-requires-clause-behind : goal.fill_all-published-requires-clause-behind
fill_all-published-requires-clause-behind g c κs within = let h = c.handle_all-handled.ensures in
    went_on g.A.PathAlgebra.meaning c.args.floor.now c.read_all-taken.new.seat c.read_all-taken.new.part c.handle_all-handled.new.part
    c.handle_all-handled.result.0 h.setup h.shard h.taken c.read_all-taken.ensures.ready

pub returns-clause-turned : goal.returns-clause-turned
returns-clause-turned g c =
    let laws = g.met.A.PathAlgebra g.world.𝓛 g.world.𝓜 g.world.𝓡 ((λ s x. x), (λ x. x), (λ x. x), λ x. x) in
    let i = c.self.inside in let h = c.handle_all-handled.ensures in let e = c.look_for_end-self-inside.ensures in
    subst (λ z. Turned g.A.PathAlgebra.meaning c.args.floor.now c.args.budget z
    (record {
      handled = c.handle_all-handled.result.0;
      taken = c.read_all-taken.result;
      published = c.fill_all-published.result;
      held = c.handle_all-handled.result.1;
      ended = c.look_for_end-self-inside.result;
    })
    (record { part = c.fill_all-published.new.part; seat = c.look_for_end-self-inside.new.seat; ended = c.look_for_end-self-inside.result })) c.self.view_is
    (turned g.A.PathAlgebra.meaning laws.lawful c.args.floor.now c.args.budget c.handle_all-handled.result.0 c.read_all-taken.result
    c.fill_all-published.result c.handle_all-handled.result.1 h.all.0 (record { part = i.part; seat = i.seat; ended = i.ended })
    c.read_all-taken.new.seat c.fill_all-published.new.seat c.look_for_end-self-inside.new.seat c.read_all-taken.new.part c.handle_all-handled.new.part
    c.fill_all-published.new.part c.look_for_end-self-inside.result c.if-self.false
    c.read_all-taken.ensures.part h.setup h.shard h.taken h.events h.budget h.all.1 h.all.2 h.alone h.held e.announced e.ready c.read_all-taken.ensures.own c.read_all-taken.ensures.tried c.fill_all-published.ensures.tried e.looked)

pub invariant_of-self : goal.invariant_of-self
invariant_of-self g c = let e = c.look_for_end-self-inside.ensures in (
  record { shard = e.ready.shard; shows = e.ready.shows; free = e.ready.free; known = e.known; over = λ o. record { seen = e.seen o; ended = e.ended o; part = e.over o } },
  c.self.invariant.1 ∙ ap (λ s. s.part.setup.plan) c.self.view_is ∙ ap (λ t. t.plan) (c.requires.setup ∙ sym e.ready.setup),
  c.self.invariant.2 ∙ ap (λ s. s.part.setup.order) c.self.view_is ∙ ap (λ t. t.order) (c.requires.setup ∙ sym e.ready.setup),
)
