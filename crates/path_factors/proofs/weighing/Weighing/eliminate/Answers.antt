use Rattle.path_factors.proofs.Words.{◌≡◌, true, is_on, ℕ, ◌+◌, ◌<◌, arith, subst, Edge, Improves, IsEdgeAt, AreJoined}
use Rattle.path_factors.proofs.Connecting.{same_more}
use Rattle.path_factors.proofs.Eliminating.{eliminated_more, eliminated_all}
use Rattle.path_factors.proofs.weighing.Weighing.eliminate.Goals as goal

pub loop-i-preserved : goal.loop-i-preserved
loop-i-preserved g c =
    let v = c.args.v in
    let i = c.loop-i.i in
    let F = c.args.self.now.factor in
    let G = c.loop-i.self.factor in
    let H = c.pass_marked.new.self.factor in
    let done = c.loop-i.invariant.eliminated in
    let alg = c.loop-i.invariant.same.algebra in
    let improves = subst (λ a. Improves (g.A.ComposingAlgebra.walks a) (v + 1) G H) alg c.pass_marked.ensures.improves in
    let joined = subst (λ a. (j : ℕ) (e f : Edge g.row.A-Walk.Denot) → i < j → IsEdgeAt G v i e → IsEdgeAt G v j f →
    is_on c.args.marks.now e.place ≡ true → AreJoined (g.A.ComposingAlgebra.walks a) H e f) alg c.pass_marked.ensures.joined in
    record {
      same = same_more c.args.self.now c.loop-i.self c.pass_marked.new.self c.loop-i.invariant.same c.pass_marked.ensures.same;
      eliminated = eliminated_more (g.A.ComposingAlgebra.walks c.args.self.now.algebra) c.holds.ensures.composes.ordered v c.args.marks.now F G H i done improves c.pass_marked.ensures.rest joined;
    }

pub returns-clause-closed : goal.returns-clause-closed
returns-clause-closed g c =
    eliminated_all (g.A.ComposingAlgebra.walks c.args.self.now.algebra) c.holds.ensures.composes.ordered c.args.v c.args.marks.now c.args.self.now.factor c.loop-i.self.factor
    c.holds.ensures.aligned (c.holds.ensures.outline.are.ascending c.args.v) c.loop-i.i c.loop-i.invariant.eliminated (omega (arith, c.loop-i-test.false, c.count-i-end.ensures))
