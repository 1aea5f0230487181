use Rattle.post_floor.proofs.Words.{[], ◌∷◌, ◌≢◌, ◌∙◌, ap, arith, subst, dest, IsNextFill}
use Rattle.post_floor.proofs.Exchanges.{ends_fill}
use Rattle.post_floor.proofs.Called.{formed, all_told}
use Rattle.post_floor.proofs.steps.publish_word.Goals as goal

pub store-requires : goal.store-requires
store-requires g c =
    let laws = g.met.A.PathAlgebra g.world.𝓛 g.world.𝓜 g.world.𝓡 ((λ s x. x), (λ x. x), (λ x. x), λ x. x) in
    let t = c.args.table.now.key in let p = c.requires.batch in let (b, items, sh, T) = p.at.moved in let k = c.args.word in let me = c.args.pass.now.me in (
      p.at.own,
      omega (arith, p.at.sized.words, c.requires.word),
      λ s r _ at _.
          let q = ends_fill g.A.PathAlgebra.meaning t laws.lawful (formed t p.at.sized.planned) s r _ k me b p.d items T at sh c.requires.word p.slot p.made c.requires.claim
          (subst (λ z. IsNextFill t.plan.shards z.shard (dest t.plan.shards k) k me.0) p.left c.requires.next)
          (subst (λ z. dest t.plan.shards k ≢ z.shard) p.left c.requires.other) in
          (q.0, q.1, q.2, q.3, all_told _ (c.requires.told ∙ ap (λ z. z ∷ []) p.left) q.4),
    )
