use Rattle.shard_part.proofs.Words.{inl, inr, subst, sym, ◌≤◌, network_of, place_in}
use Rattle.shard_part.proofs.UnderWay.{ended_or_waits, one_waits}
use Rattle.shard_part.proofs.laws.an_item_waits_until_the_end.Goals as goal

pub returns : goal.returns
returns g c = λ t events parts mail w shows.
    let laws = g.met.A.PathAlgebra g.world.𝓛 g.world.𝓜 g.world.𝓡 ((λ s x. x), (λ x. x), (λ x. x), λ x. x) in
    let e = ended_or_waits (g.A.PathAlgebra.meaning t.diffusion.algebra) (network_of t) (place_in t) (laws.lawful t.diffusion.algebra) w events in
    elim e [
      | inl q ↦ inl q
      | inr l ↦ inr (one_waits parts mail (subst (λ k. 1 ≤ k) (sym (shows.shown.weighs (λ _ _. 1))) l))
    ]
