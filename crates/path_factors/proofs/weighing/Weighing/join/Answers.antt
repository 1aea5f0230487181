use Rattle.path_factors.proofs.Words.{◌≡◌, ◌∙◌, ap, arith, sym, subst, IsLinkUnder, LeadsNoWorse}
use Rattle.path_factors.proofs.Eliminating.{edge_rises, joined_worth}
use Rattle.path_factors.proofs.weighing.Weighing.join.Goals as goal

pub improve-requires-clause-from : goal.improve-requires-clause-from
improve-requires-clause-from g c κs within =
    let e = c.requires.first in
    (c.holds.ensures.begun.links.rising c.args.v c.args.e.place c.args.e.leaving (edge_rises c.args.self.now.factor c.args.v e.0 c.args.e e.1)).1

pub improve-requires-clause-leaving : goal.improve-requires-clause-leaving
improve-requires-clause-leaving g c κs within =
    let S = c.args.self.now in
    let A = g.A.PathAlgebra.meaning S.algebra in
    let C = g.A.ComposingAlgebra.walks S.algebra in
    let e = c.args.e in
    let f = c.args.f in
    let alg : c.self.inside.algebra ≡ S.algebra = λ i. (c.self.view_is i).algebra in
    subst (λ (w : g.row.A-Walk.Denot). IsLinkUnder A C S.roads S.factor e.place e.place f.place w)
    (sym (c.compose-there.ensures ∙ ap (λ a. (g.A.ComposingAlgebra.walks a).compose e.entering f.leaving) alg))
    (joined_worth A C c.holds.ensures.composes S.roads S.factor c.holds.ensures.outline.are c.holds.ensures.begun c.args.v e f c.requires.first c.requires.second).0

pub improve-requires-clause-entering : goal.improve-requires-clause-entering
improve-requires-clause-entering g c κs within =
    let S = c.args.self.now in
    let A = g.A.PathAlgebra.meaning S.algebra in
    let C = g.A.ComposingAlgebra.walks S.algebra in
    let e = c.args.e in
    let f = c.args.f in
    let alg : c.self.inside.algebra ≡ S.algebra = λ i. (c.self.view_is i).algebra in
    subst (λ (w : g.row.A-Walk.Denot). IsLinkUnder A C S.roads S.factor e.place f.place e.place w)
    (sym (c.compose-back.ensures ∙ ap (λ a. (g.A.ComposingAlgebra.walks a).compose f.entering e.leaving) alg))
    (joined_worth A C c.holds.ensures.composes S.roads S.factor c.holds.ensures.outline.are c.holds.ensures.begun c.args.v e f c.requires.first c.requires.second).1

pub returns-clause-improves : goal.returns-clause-improves
returns-clause-improves g c =
    let links = c.holds.ensures.begun.links in
    let e = links.rising c.args.v c.args.e.place c.args.e.leaving (edge_rises c.args.self.now.factor c.args.v c.requires.first.0 c.args.e c.requires.first.1) in
    c.improve.ensures.improves _ (omega (arith, e.0))

pub returns-clause-joined : goal.returns-clause-joined
returns-clause-joined g c = λ other.
    let e = c.args.e in
    let f = c.args.f in
    let alg : c.self.inside.algebra ≡ c.args.self.now.algebra = λ i. (c.self.view_is i).algebra in
    let there = c.compose-there.ensures ∙ ap (λ a. (g.A.ComposingAlgebra.walks a).compose e.entering f.leaving) alg in
    let back = c.compose-back.ensures ∙ ap (λ a. (g.A.ComposingAlgebra.walks a).compose f.entering e.leaving) alg in
    let C = g.A.ComposingAlgebra.walks c.args.self.now.algebra in
    let H = c.improve.new.self.factor in (
      subst (λ w. LeadsNoWorse C H e.place f.place w) there c.improve.ensures.leaving,
      subst (λ w. LeadsNoWorse C H f.place e.place w) back c.improve.ensures.entering,
    )
