use Rattle.std.proofs.Common.{arith}
use Rattle.post_floor.proofs.Exchanges.{ends_read}
use Rattle.post_floor.proofs.Called.{formed, all_told}
use Rattle.post_floor.proofs.steps.clear_word.Goals as goal

pub store-requires : goal.store-requires
store-requires g c =
    let laws = g.met.A.PathAlgebra g.world.𝓛 g.world.𝓜 g.world.𝓡 ((λ s x. x), (λ x. x), (λ x. x), λ x. x) in
    let t = c.args.table.now.key in let (b, items, sh, T) = c.requires.step.at.moved in (
      c.requires.step.at.own,
      omega (arith, c.requires.step.at.sized.words, c.requires.word),
      λ s r _ at _.
          let q = ends_read g.A.PathAlgebra.meaning t laws.lawful (formed t c.requires.step.at.sized.planned) s r _ c.args.word c.args.pass.now.me b c.args.part.now items T at sh c.requires.word
          c.requires.slot c.requires.claim c.requires.next in (q.0, q.1, q.2, q.3, all_told _ c.requires.step.told q.4),
    )
