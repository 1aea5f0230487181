use Rattle.path_factors.proofs.Words.{◌≡◌, ◌+◌, ◌-◌, ◌∙◌, ◌<◌, List, Option, Bool, length, set, length-set, get_or, true, ap, arith, sym, subst, row_of, at, best_along}
use Rattle.path_factors.proofs.Finding.{AreFoundFrom, list_inside, found_none, found_more, found_all}
use Rattle.path_factors.proofs.factors.Factors.find_listed.Goals as goal

pub loop-k-init : goal.loop-k-init
loop-k-init g c =
    let A = g.A.PathAlgebra.meaning c.args.self.now.algebra in
    let C = g.A.ComposingAlgebra.walks c.args.self.now.algebra in
    let holds = c.holds.ensures in
    record {
      inside = omega arith;
      labels_count = c.requires.labels;
      known_count = c.requires.known;
      found = λ before all run agree.
          found_none A C c.args.self.now.roads c.args.self.now.factor holds.factor c.args.self.now.heads holds.outline.are holds.at_heads c.args.known.now c.args.t c.args.list.now c.requires.list before all run
          c.args.labels.now c.requires.labels c.requires.known c.requires.upward agree;
    }

pub find_at-requires-clause-place : goal.find_at-requires-clause-place
find_at-requires-clause-place g c κs within =
    let A = g.A.PathAlgebra.meaning c.args.self.now.algebra in
    let C = g.A.ComposingAlgebra.walks c.args.self.now.algebra in
    let holds = c.holds.ensures in
    list_inside A C c.args.self.now.roads c.args.self.now.factor holds.factor c.args.self.now.heads holds.outline.are holds.at_heads c.args.known.now c.args.t c.args.list.now c.requires.list
    (c.loop-k.k - 1) (omega (arith, c.loop-k-test.true, c.loop-k.invariant.inside))

pub loop-k-preserved : goal.loop-k-preserved
loop-k-preserved g c =
    let A = g.A.PathAlgebra.meaning c.args.self.now.algebra in
    let C = g.A.ComposingAlgebra.walks c.args.self.now.algebra in
    let G = c.args.self.now.roads in
    let F = c.args.self.now.factor in
    let holds = c.holds.ensures in
    let k = c.loop-k.k in
    let list = c.args.list.now in
    let i = get_or list (k - 1) 0 in
    let lt : k - 1 < length list = omega (arith, c.loop-k-test.true, c.loop-k.invariant.inside) in
    let back : k ≡ (k - 1) + 1 = omega (arith, c.loop-k-test.true) in
    let best = best_along A C c.loop-k.labels (at c.loop-k.labels i) (row_of F.entering i) in
    record {
      inside = omega (arith, lt);
      labels_count = ap length c.find_at.ensures.labels ∙ length-set c.loop-k.labels i best ∙ c.loop-k.invariant.labels_count;
      known_count = ap length c.find_at.ensures.known ∙ length-set c.loop-k.known i true ∙ c.loop-k.invariant.known_count;
      found = λ before all run agree.
          let done = subst (λ q. AreFoundFrom c.args.self.now.heads G.vertices before all c.args.known.now list q c.loop-k.labels c.loop-k.known) back (c.loop-k.invariant.found before all run agree) in
          let more = found_more A C G F holds.factor c.args.self.now.heads holds.outline.are holds.at_heads c.args.known.now c.args.t list c.requires.list before all run (k - 1) lt c.loop-k.labels c.loop-k.known done in
          subst (λ (l : List (Option g.row.A-Value.Denot)). AreFoundFrom c.args.self.now.heads G.vertices before all c.args.known.now list (k - 1) l c.find_at.new.known) (sym c.find_at.ensures.labels)
          (subst (λ (m : List Bool). AreFoundFrom c.args.self.now.heads G.vertices before all c.args.known.now list (k - 1) (set c.loop-k.labels i best) m) (sym c.find_at.ensures.known) more);
    }

pub returns : goal.returns
returns g c = λ before all run agree.
    let A = g.A.PathAlgebra.meaning c.args.self.now.algebra in
    let C = g.A.ComposingAlgebra.walks c.args.self.now.algebra in
    let G = c.args.self.now.roads in
    let F = c.args.self.now.factor in
    let holds = c.holds.ensures in
    let is : c.loop-k.k ≡ 0 = omega (arith, c.loop-k-test.false) in
    found_all A C G F holds.factor c.args.self.now.heads holds.outline.are holds.at_heads c.args.known.now c.args.t c.args.list.now c.requires.list before all run c.loop-k.labels c.loop-k.known
    (subst (λ k. AreFoundFrom c.args.self.now.heads G.vertices before all c.args.known.now c.args.list.now k c.loop-k.labels c.loop-k.known) is (c.loop-k.invariant.found before all run agree))
