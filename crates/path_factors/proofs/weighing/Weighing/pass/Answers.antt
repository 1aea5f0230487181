use Rattle.path_factors.proofs.Words.{◌≡◌, ℕ, ◌+◌, ◌<◌, ◌∙◌, List, length, get_or, ap, arith, sym, subst, Improves, rising, AreJoined, row_of, AreAhead, heads_in, head_at}
use Rattle.path_factors.proofs.Connecting.{same_more, rest_weaker}
use Rattle.path_factors.proofs.Eliminating.{passed_none, passed_more, edge_kept}
use Rattle.path_factors.proofs.weighing.Weighing.pass.Goals as goal

pub loop-j-init : goal.loop-j-init
loop-j-init g c =
    record {
      same = record { algebra = λ i. c.args.self.now.algebra; roads = λ i. c.args.self.now.roads; heads = λ i. heads_in c.args.self.now.factor.leaving };
      after = omega arith;
      passed = passed_none (g.A.ComposingAlgebra.walks c.args.self.now.algebra) c.holds.ensures.composes.ordered c.args.v
          (λ z. z ≡ get_or (row_of (heads_in c.args.self.now.factor.leaving) c.args.v) c.args.i 0) c.args.i c.args.self.now.factor;
      ahead = λ p m from low inside is. omega arith;
    }

pub loop-j-preserved : goal.loop-j-preserved
loop-j-preserved g c =
    let C = g.A.ComposingAlgebra.walks c.args.self.now.algebra in
    let v = c.args.v in
    let j = c.loop-j.j in
    let F = c.args.self.now.factor in
    let G = c.loop-j.self.factor in
    let H = c.join.new.self.factor in
    let first = c.edge-first.result in
    let second = c.edge-second.result in
    let done = c.loop-j.invariant.passed in
    let alg = c.loop-j.invariant.same.algebra in
    let heads = c.loop-j.invariant.same.heads in
    let improves = subst (λ a. Improves (g.A.ComposingAlgebra.walks a) (v + 1) G H) alg c.join.ensures.improves in
    let joined = subst (λ a. AreJoined (g.A.ComposingAlgebra.walks a) H first second) alg c.join.ensures.joined in
    let here = head_at F.leaving v c.args.i (rising first) c.edge-first.ensures.leaving_inside c.edge-first.ensures.rises in
    let head = get_or (row_of (heads_in F.leaving) v) c.args.i 0 in
    let rest = rest_weaker (λ (z : ℕ). z ≡ first.place) (λ (z : ℕ). z ≡ head) G H (λ z is. is ∙ sym here) c.join.ensures.rest in
    record {
      same = same_more c.args.self.now c.loop-j.self c.join.new.self c.loop-j.invariant.same c.join.ensures.same;
      after = omega (arith, c.loop-j.invariant.after);
      passed = passed_more C c.holds.ensures.composes.ordered v (λ z. z ≡ head) c.args.i F G H j first second done c.edge-first.ensures c.edge-second.ensures improves rest joined;
      ahead = subst (λ (h : List (List ℕ)). AreAhead h v c.args.i (j + 1) (c.between-q.result + 1)) heads c.between-q.ensures.ahead;
    }

pub returns-clause-joined : goal.returns-clause-joined
returns-clause-joined g c = λ j e f less at also.
    c.loop-j.invariant.passed.joined j e f less (omega (arith, also.leaving_inside, c.loop-j-test.false, c.count-count.ensures)) at also

pub between-q-requires-clause-ahead : goal.between-q-requires-clause-ahead
between-q-requires-clause-ahead g c κs within =
    subst (λ (h : List (List ℕ)). AreAhead h c.args.v c.args.i c.loop-j.j c.loop-j.q) (sym c.loop-j.invariant.same.heads) c.loop-j.invariant.ahead

pub join-requires-clause-index : goal.join-requires-clause-index
join-requires-clause-index g c κs within =
    subst (λ (x : ℕ). c.between-q.result < length (row_of (heads_in c.loop-j.self.factor.leaving) x))
    (ap (λ (h : List (List ℕ)). get_or (row_of h c.args.v) c.args.i 0) c.loop-j.invariant.same.heads
    ∙ head_at c.args.self.now.factor.leaving c.args.v c.args.i (rising c.edge-first.result) c.edge-first.ensures.leaving_inside c.edge-first.ensures.rises)
    c.between-q.ensures.index

pub join-requires-clause-head : goal.join-requires-clause-head
join-requires-clause-head g c κs within =
    subst (λ (x : ℕ). get_or (row_of (heads_in c.loop-j.self.factor.leaving) x) c.between-q.result 0 ≡ c.edge-second.result.place)
    (ap (λ (h : List (List ℕ)). get_or (row_of h c.args.v) c.args.i 0) c.loop-j.invariant.same.heads
    ∙ head_at c.args.self.now.factor.leaving c.args.v c.args.i (rising c.edge-first.result) c.edge-first.ensures.leaving_inside c.edge-first.ensures.rises)
    (c.between-q.ensures.head
    ∙ head_at c.loop-j.self.factor.leaving c.args.v c.loop-j.j (rising c.edge-second.result) c.edge-second.ensures.leaving_inside c.edge-second.ensures.rises)

pub join-requires-clause-first : goal.join-requires-clause-first
join-requires-clause-first g c κs within = (
  c.args.i,
  edge_kept (g.A.ComposingAlgebra.walks c.args.self.now.algebra) c.holds.ensures.composes.ordered c.args.v c.args.self.now.factor c.loop-j.self.factor
      c.loop-j.invariant.passed.improves c.args.i c.edge-first.result c.edge-first.ensures,
)

pub join-requires-clause-second : goal.join-requires-clause-second
join-requires-clause-second g c κs within = (c.loop-j.j, c.edge-second.ensures)
