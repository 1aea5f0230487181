use Rattle.std.proofs.Common.{arith}
use Rattle.post_floor.proofs.Done.{looks}
use Rattle.post_floor.proofs.Called.{formed, all_told}
use Rattle.post_floor.proofs.steps.look_word.Goals as goal

pub load-requires : goal.load-requires
load-requires g c =
    let laws = g.met.A.PathAlgebra g.world.𝓛 g.world.𝓜 g.world.𝓡 ((λ s x. x), (λ x. x), (λ x. x), λ x. x) in
    let t = c.args.table.now.key in (
      c.requires.step.at.own,
      omega (arith, c.requires.step.at.sized.words, c.requires.done),
      λ s r roomy at small.
          let q = looks g.A.PathAlgebra.meaning t laws.lawful (formed t c.requires.step.at.sized.planned) _ _ c.args.done c.args.pass.now.me c.args.part.now c.requires.done c.requires.step.at.moved s r roomy at small in
          (q.0, q.1, q.2, q.3, all_told _ c.requires.step.told q.4),
    )
