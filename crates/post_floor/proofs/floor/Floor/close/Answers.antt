use Rattle.std.proofs.Common.{map, rules, arith, ◌≡◌, ◌<◌, ℕ, ap, sym, ◌∙◌, subst, IsTrue}
use Rattle.post_floor.proofs.Words.{some, total, is, FinalView, AllSeated}
use Rattle.post_floor.proofs.Closing.{settles, join_last}
use Rattle.post_floor.proofs.floor.Floor.close.Goals as goal

pub returns-clause-closed : goal.returns-clause-closed
returns-clause-closed g c =
    let diffusion : c.self.inside.table.shared.key ≡ c.args.self.setup = ap (λ f. f.setup) c.self.view_is in
    let count : c.args.self.setup.plan.shards ≡ c.self.inside.shards = ap (λ u. u.plan.shards) (sym diffusion) ∙ c.self.invariant.1 in
    let yes : IsTrue c.all_seated.result = search rules in
    let seated : AllSeated c.self.inside.shards c.args.seats.items = subst (AllSeated c.self.inside.shards) c.deref.ensures.value (c.all_seated.ensures.0 yes) in
    let w = c.join_all-pass.result.me.0 in
    let joined = join_last w c.pass_of.result.me.0 c.pop.new.self.items c.args.seats.items c.in-Some.last c.in-Some.ensures.items
    c.pass_of.ensures.pass.1 c.pass_of.ensures.part c.join_all-pass.ensures.joined in
    let full : (j : ℕ) → j < c.self.inside.table.shared.key.plan.shards → 0 < total (λ p. is j p.shard) w.parts = λ j lt.
    let s = seated j (subst (λ n. j < n) c.self.invariant.1 lt) in let t = joined.shards j in omega (arith, s, t) in
    let last = settles g.A.PathAlgebra.meaning c.self.inside.table.shared.key c.join_all-pass.result.id w _ _ full c.close_with-end.ensures.values.2 in (
      (λ j lt. seated j (subst (λ n. j < n) count lt)),
      (
        w,
        joined,
        subst (λ u. FinalView g.A.PathAlgebra.meaning u w c.of-closed.result.words (map some c.of-closed.result.slots)) diffusion
            (subst (λ d. FinalView g.A.PathAlgebra.meaning c.self.inside.table.shared.key w d.words (map some d.slots)) (sym c.of-closed.ensures) last),
      ),
    )
