use Rattle.tree_search.proofs.Words.{◌≡◌, ℕ, ◌≤◌, ◌∙◌, refl, sym, subst, marked, source_mark}
use Rattle.tree_search.proofs.Opening.{opening_none, opening_more}
use Rattle.tree_search.proofs.search.Search.start.Goals as goal

pub loop-source-init : goal.loop-source-init
loop-source-init g c =
    let laws = g.met.A.PathAlgebra g.world.𝓛 g.world.𝓜 g.world.𝓡 ((λ s x. x), (λ x. x), (λ x. x), λ x. x) in
    record {
      same = record { algebra = refl; roads = refl; settled = refl };
      opening = rw c.requires.blank.marks
          (opening_none g.A.PathAlgebra.order laws.ordered (g.A.PathAlgebra.meaning c.self.inside.algebra).origin c.args.self.now.roads.vertices);
    }

pub loop-source-preserved : goal.loop-source-preserved
loop-source-preserved g c =
    let laws = g.met.A.PathAlgebra g.world.𝓛 g.world.𝓜 g.world.𝓡 ((λ s x. x), (λ x. x), (λ x. x), λ x. x) in
    let order = g.A.PathAlgebra.order in
    let origin = (g.A.PathAlgebra.meaning c.self.inside.algebra).origin in
    let n = c.args.self.now.roads.vertices in
    let s = c.source-item.result in
    let inside = c.requires.sources c.loop-source.source-index s c.loop-source-test.true in
    let next : c.offer.new.self.marks ≡ marked order c.loop-source.self.marks s (source_mark origin) = rw (← c.origin.ensures) c.in_ok-offer.ensures.marks in
    let was = c.loop-source.invariant.same in
    let now = c.in_ok-offer.ensures.same in
    record {
      same = record { algebra = now.algebra ∙ was.algebra; roads = now.roads ∙ was.roads; settled = now.settled ∙ was.settled };
      opening = opening_more order laws.ordered origin n c.args.sources.now c.loop-source.source-index s c.loop-source.self.marks c.offer.new.self.marks
          c.loop-source.invariant.opening c.loop-source-test.true c.source-item.is
          (subst (λ (v : ℕ). 1 ≤ v) (sym c.source-item.is) inside.0) (subst (λ (v : ℕ). v ≤ n) (sym c.source-item.is) inside.1) next;
    }
