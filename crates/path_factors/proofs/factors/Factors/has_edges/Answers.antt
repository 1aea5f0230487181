use Rattle.std.specs.Prelude.{IsTrue, false}
use Rattle.path_factors.specs.Heads.{IsHead}
use Rattle.path_factors.proofs.Joining.{joined_more}
use Rattle.path_factors.proofs.factors.Factors.has_edges.Goals as goal

pub returns-then-not-has_edges_from-clause-edges : goal.returns-then-not-has_edges_from-clause-edges
returns-then-not-has_edges_from-clause-edges g c = (
  λ (never : IsTrue false). absurd (cc),
  λ all.
      let yes : IsTrue c.has_edges_from.result = c.has_edges_from.ensures.1 (λ a has from. all a has) in
      let no = c.if-not-has_edges_from.true in
      absurd (cc),
)

pub loop-i-preserved : goal.loop-i-preserved
loop-i-preserved g c =
    let F = c.args.self.now.factor in
    joined_more (IsHead c.args.self.now.heads) F.places c.args.graph.now c.loop-i.i c.loop-i.invariant (c.has_edges_from.ensures.0 c.if-not-has_edges_from.false)
