use Rattle.engine_trials.proofs.Words.{◌≡◌, subst, sym, ◌∙◌, rules, IsAt, seat_of}
use Rattle.shard_part.specs.Weights.{All}
use Rattle.engine_trials.proofs.Places.{opened_at}
use Rattle.engine_trials.proofs.mailboxes.opened.Goals as goal

pub open-opened-requires-clause-fresh : goal.open-opened-requires-clause-fresh
open-opened-requires-clause-fresh g c κs within = let f = c.parts_of-parts.ensures in rw c.plan.ensures.plan (f.0, c.deref.ensures.value ∙ f.1, f.2, f.3)

pub last_place-second-requires-clause-at : goal.last_place-second-requires-clause-at
last_place-second-requires-clause-at g c κs within =
    let t = c.parts_of-parts.ensures in let f = c.expect-floor.result.0 in
    let same : All (λ p. p.setup ≡ c.expect-floor.result.0.setup) c.deref.result.now = search rules in
    subst (All (λ p. IsAt g.A.PathAlgebra.meaning f (seat_of f.id f.setup.plan.shards p) p)) (sym t.1)
    (opened_at g.A.PathAlgebra.meaning f t.0 f.setup.plan.shards 0 t.0.plan.shards (subst (All (λ p. p.setup ≡ f.setup)) (c.deref.ensures.value ∙ t.1) same))
