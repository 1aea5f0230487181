use Rattle.path_factors.proofs.Words.{◌≡◌, ◌<◌, ◌∙◌, length, get_or, arith, sym, subst, get_or_default, arc_value, IsLinkUnder, KeepsRest, row_of, Improves, IsOutline, heads_in, FactorState, row_heads_count}
use Rattle.path_factors.proofs.Connecting.{both_begun, both_improve}
use Rattle.path_factors.proofs.weighing.Weighing.improve.Goals as goal

pub improve-requires-clause-index : goal.improve-requires-clause-index
improve-requires-clause-index g c =
    let s = c.self.inside in
    let lt = subst (λ (s : FactorState g.row.A.Denot g.row.A-Walk.Denot). c.args.j < length (row_of (heads_in s.factor.leaving) c.args.x)) (sym c.self.view_is) c.requires.index in
    omega (arith, row_heads_count s.rows.leaving c.args.x, lt)

pub improve-requires-clause-head : goal.improve-requires-clause-head
improve-requires-clause-head g c κs within =
    subst (λ (s : FactorState g.row.A.Denot g.row.A-Walk.Denot). get_or (row_of (heads_in s.factor.leaving) c.args.x) c.args.j 0 ≡ c.args.edge.place) (sym c.self.view_is) c.requires.head

pub invariant_of-self : goal.invariant_of-self
invariant_of-self g c =
    let s = c.self.inside in
    let C = g.A.ComposingAlgebra.walks s.algebra in
    let G = s.graph.now in
    let x = c.args.x in
    let e = c.args.edge in
    let leaving = subst (λ (s : FactorState g.row.A.Denot g.row.A-Walk.Denot). IsLinkUnder (g.A.PathAlgebra.meaning s.algebra) (g.A.ComposingAlgebra.walks s.algebra) s.roads s.factor x x e.place e.leaving)
    (sym c.self.view_is) c.requires.leaving in
    let entering = subst (λ (s : FactorState g.row.A.Denot g.row.A-Walk.Denot). IsLinkUnder (g.A.PathAlgebra.meaning s.algebra) (g.A.ComposingAlgebra.walks s.algebra) s.roads s.factor x e.place x e.entering)
    (sym c.self.view_is) c.requires.entering in
    let index = subst (λ (s : FactorState g.row.A.Denot g.row.A-Walk.Denot). c.args.j < length (row_of (heads_in s.factor.leaving) x)) (sym c.self.view_is) c.requires.index in
    let is = subst (λ (s : FactorState g.row.A.Denot g.row.A-Walk.Denot). get_or (row_of (heads_in s.factor.leaving) x) c.args.j 0 ≡ e.place) (sym c.self.view_is) c.requires.head in
    let rises = c.self.invariant.1.are.rising x e.place (c.args.j, index, get_or_default (row_of (heads_in s.rows.leaving) x) c.args.j e.place 0 index ∙ is) in (
      both_begun C c.composition_holds.ensures.ordered (g.A.PathAlgebra.meaning s.algebra) G _ c.self.invariant.0 x e.place e.leaving e.entering leaving entering
          rises.0 rises.1 c.improve.new.self c.improve.ensures.heads c.improve.ensures.improved,
      subst (λ h. IsOutline G s.places.items h) (sym c.improve.ensures.heads) c.self.invariant.1,
    )

pub returns-clause-improves : goal.returns-clause-improves
returns-clause-improves g c = λ low below.
    let s = c.self.inside in
    let C = g.A.ComposingAlgebra.walks s.algebra in
    subst (λ (s : FactorState g.row.A.Denot g.row.A-Walk.Denot). Improves (g.A.ComposingAlgebra.walks s.algebra) low s.factor
    (record { order = (arc_value c.self.inside.order).value.vertices.items; places = c.self.inside.places.items; leaving = c.improve.new.self.leaving; entering = c.improve.new.self.entering })) c.self.view_is
    (both_improve C c.composition_holds.ensures.ordered _ c.args.x c.args.edge c.improve.new.self c.improve.ensures.improved low below)

pub returns-clause-rest : goal.returns-clause-rest
returns-clause-rest g c =
    let improved = c.improve.ensures.improved in
    subst (λ (s : FactorState g.row.A.Denot g.row.A-Walk.Denot). KeepsRest (λ i. i ≡ c.args.x) s.factor
    (record { order = (arc_value c.self.inside.order).value.vertices.items; places = c.self.inside.places.items; leaving = c.improve.new.self.leaving; entering = c.improve.new.self.entering })) c.self.view_is
    (λ i other. (improved.leaving.others i other, improved.entering.others i other))
