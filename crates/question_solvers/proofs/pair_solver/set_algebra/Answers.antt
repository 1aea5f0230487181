use Rattle.question_solvers.proofs.Words.{rules, arith, ◌≡◌, ◌∙◌, ◌<◌, ap, length, IsSearcherOf}
use Rattle.std.proofs.lemmas.List.Elements.{All-set, AllWithin-more_set}
use Rattle.question_solvers.proofs.Pools.{stored_over}
use Rattle.question_solvers.proofs.pair_solver.set_algebra.Goals as goal

pub loop-solver-preserved : goal.loop-solver-preserved
loop-solver-preserved g c = λ roads own.
    let i = c.loop-solver.invariant roads own in
    let pool = c.loop-solver.solver-items in
    let k = c.loop-solver.solver-index in
    let low : k < length pool = search rules in
    let over : c.set_algebra.new.self.roads ≡ roads = c.set_algebra.ensures.roads ∙ i.0 k c.solver-item.result low in (
      All-set (λ s. s.searcher.roads ≡ roads) pool k _ over i.0,
      AllWithin-more_set pool k _ low (λ s. IsSearcherOf c.args.algebra roads s.searcher) i.1 (record { by = c.set_algebra.ensures.algebra; over = over }),
    )

pub returns : goal.returns
returns g c = λ roads own.
    let i = c.loop-solver.invariant roads own in
    let many = c.loop-solver.auto.solver-items in
    stored_over (λ s. IsSearcherOf c.args.algebra roads s.searcher) _ c.args.pool.now.items c.loop-solver.solver-items (many ∙ ap length c.deref_mut-solver-items.ensures.value)
    (λ k d low. i.1 k d (omega arith) (omega (arith, low, many, c.loop-solver-test.false)))
