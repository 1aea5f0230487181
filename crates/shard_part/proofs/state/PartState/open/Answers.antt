use Rattle.shard_part.proofs.Words.{◌≡◌, rules, ap, sym, ◌∙◌, set, map, subst, network, opening, one_if, PartData, place_in, setup_of, HoldsShareIn, rows_of, is_first}
use Rattle.shard_store.specs.Layout.{ShardLayoutData, CountsAll}
use Rattle.shard_store.specs.Rows.{AreIdle}
use Rattle.shard_part.specs.Opening.{opened_part}
use Rattle.shard_part.proofs.TablesOpen.{sum_small, sum_first, made_seen, made_stored, planned_too}
use Rattle.shard_part.proofs.Opened.{opened_holds}
use Rattle.shard_part.proofs.state.PartState.open.Goals as goal

pub sum_of-requires : goal.sum_of-requires
sum_of-requires g c = sum_small _ c.layout.invariant
    c.in_ok-capacities.capacities.items c.deref.result.now (subst (λ (w : ShardLayoutData). CountsAll w c.in_ok-capacities.capacities.items) (sym c.layout.view_is) c.in_ok-capacities.ensures) c.deref.ensures.value

pub opening_queue-requires-after_bounds : goal.opening_queue-requires-after_bounds
opening_queue-requires-after_bounds g c κs within = λ z. sum_first _ c.layout.invariant
    c.in_ok-capacities.capacities.items c.deref.result.now c.sum_of.result c.is_first-first.result
    (subst (λ (w : ShardLayoutData). CountsAll w c.in_ok-capacities.capacities.items) (sym c.layout.view_is) c.in_ok-capacities.ensures) c.deref.ensures.value c.sum_of.ensures
    (subst (λ (w : ShardLayoutData). c.is_first-first.result ≡ is_first w.setup w.shard) (sym c.layout.view_is) c.is_first-first.ensures) z

pub invariant_of-result : goal.invariant_of-result
invariant_of-result g c = let n : c.from.result ≡ one_if c.is_first-first.result = (let f = c.from.ensures in search rules) in
    made_stored (g.A.PathAlgebra.meaning c.args.algebra)
    (setup_of c.args.algebra c.layout.inside.graph.now c.layout.inside.source c.layout.inside.plan.now c.args.order)
    c.layout.inside.shard c.layout.invariant
    c.is_first-first.result c.in_ok-capacities.capacities.items c.deref.result.now c.deref-2.result.now (map (λ b. b.capacity) c.in_ok-outs.outs.items) c.sum_of.result c.from.result
    (rows_of c.in_ok-tables.tables) c.in_ok-queue.queue (map (λ b. b.items) c.in_ok-outs.outs.items)
    (subst (λ (w : ShardLayoutData). c.is_first-first.result ≡ is_first w.setup w.shard) (sym c.layout.view_is) c.is_first-first.ensures)
    (subst (λ (w : ShardLayoutData). AreIdle w (rows_of c.in_ok-tables.tables)) (sym c.layout.view_is) c.in_ok-tables.ensures)
    (subst (λ (w : ShardLayoutData). CountsAll w c.in_ok-capacities.capacities.items) (sym c.layout.view_is) c.in_ok-capacities.ensures) c.deref.ensures.value c.sum_of.ensures c.in_ok-queue.ensures
    (c.deref-2.ensures.value ∙ ap (λ k. set c.in_ok-capacities.capacities.items k 0) c.shard.view_is) c.in_ok-outs.ensures.items c.in_ok-outs.ensures.capacities n

pub returns-clause-part : goal.returns-clause-part
returns-clause-part g c = let n : c.from.result ≡ one_if c.is_first-first.result = (let f = c.from.ensures in search rules) in
    let A = g.A.PathAlgebra.meaning c.args.algebra in
    made_seen A
    (setup_of c.args.algebra c.layout.inside.graph.now c.layout.inside.source c.layout.inside.plan.now c.args.order)
    c.layout.inside.shard c.layout.invariant
    c.is_first-first.result c.in_ok-capacities.capacities.items c.deref.result.now c.deref-2.result.now (map (λ b. b.capacity) c.in_ok-outs.outs.items) c.sum_of.result c.from.result
    (rows_of c.in_ok-tables.tables) c.in_ok-queue.queue (map (λ b. b.items) c.in_ok-outs.outs.items)
    (subst (λ (w : ShardLayoutData). c.is_first-first.result ≡ is_first w.setup w.shard) (sym c.layout.view_is) c.is_first-first.ensures)
    (subst (λ (w : ShardLayoutData). AreIdle w (rows_of c.in_ok-tables.tables)) (sym c.layout.view_is) c.in_ok-tables.ensures)
    (subst (λ (w : ShardLayoutData). CountsAll w c.in_ok-capacities.capacities.items) (sym c.layout.view_is) c.in_ok-capacities.ensures) c.deref.ensures.value c.sum_of.ensures c.in_ok-queue.ensures
    (c.deref-2.ensures.value ∙ ap (λ k. set c.in_ok-capacities.capacities.items k 0) c.shard.view_is) c.in_ok-outs.ensures.items c.in_ok-outs.ensures.capacities n
    ∙ ap (λ (w : ShardLayoutData). opened_part A (setup_of c.args.algebra w.setup.diffusion.roads w.setup.diffusion.source w.setup.plan c.args.order) w.shard) c.layout.view_is

pub returns-clause-share : goal.returns-clause-share
returns-clause-share g c =
    let A = g.A.PathAlgebra.meaning c.args.algebra in
    let t = setup_of c.args.algebra c.layout.inside.graph.now c.layout.inside.source c.layout.inside.plan.now c.args.order in
    let N = network t.diffusion.roads t.diffusion.source in
    let part = returns-clause-part g c ∙ sym (ap (λ (w : ShardLayoutData). opened_part A (setup_of c.args.algebra w.setup.diffusion.roads w.setup.diffusion.source w.setup.plan c.args.order) w.shard) c.layout.view_is) in
    let held = opened_holds A t c.layout.inside.shard (planned_too t c.layout.inside.shard c.layout.invariant) in
    subst (λ (u : PartData g.row.A.Denot g.row.A-Value.Denot). HoldsShareIn A N (place_in t) (opening A (network c.args.layout.setup.diffusion.roads c.args.layout.setup.diffusion.source)) u) (sym part)
    (subst (λ (w : ShardLayoutData). HoldsShareIn A N (place_in t) (opening A (network w.setup.diffusion.roads w.setup.diffusion.source)) (opened_part A t c.layout.inside.shard)) c.layout.view_is held)
