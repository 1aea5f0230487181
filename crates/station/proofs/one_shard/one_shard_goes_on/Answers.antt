use Rattle.station.proofs.Words.{◌*◌, ◌≤◌, sym, subst, arith, opening, count_enabled, network_of}
use Rattle.scholten_core.specs.SimpleWalks.{message_bound}
use Rattle.station.proofs.OneShard.{few_best_first, opened_has_all, went_on}
use Rattle.station.proofs.one_shard.one_shard_goes_on.Goals as goal

pub returns-clause-opened : goal.returns-clause-opened
returns-clause-opened g c = λ t id one.
    opened_has_all g.A.PathAlgebra.meaning t one id

pub returns-clause-turns : goal.returns-clause-turns
returns-clause-turns g c = λ f budget events before after r one all going turned.
    let laws = g.met.A.PathAlgebra g.world.𝓛 g.world.𝓜 g.world.𝓡 ((λ s x. x), (λ x. x), (λ x. x), λ x. x) in
    went_on g.A.PathAlgebra.meaning f one budget events before r after laws.lawful c.an_item_waits_until_the_end.ensures all going turned

pub returns-clause-few : goal.returns-clause-few
returns-clause-few g c = λ t events s is one all.
    let most = subst (λ a. count_enabled (g.A.PathAlgebra.meaning a) (network_of t) (opening (g.A.PathAlgebra.meaning a) (network_of t)) events ≤ 2 * message_bound t.diffusion.roads t.diffusion.source) (sym is)
    (c.every_run_is_finite.ensures.events t.diffusion.roads t.diffusion.source one.planned.roads one.planned.source events) in
    let e = all.enabled in omega (arith, most, e)

pub returns-clause-few_best_first : goal.returns-clause-few_best_first
returns-clause-few_best_first g c = λ t events s one order all.
    let laws = g.met.A.PathAlgebra g.world.𝓛 g.world.𝓜 g.world.𝓡 ((λ s x. x), (λ x. x), (λ x. x), λ x. x) in
    let few = few_best_first g.A.PathAlgebra.meaning t one (laws.lawful t.diffusion.algebra) events (all.best (one.one, order)) in
    let e = all.enabled in omega (arith, few, e)
