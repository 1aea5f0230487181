use Rattle.path_factors.proofs.Words.{◌≡◌, ◌∙◌, arith, IsTrue}
use Rattle.path_factors.proofs.OldEnds.{has_old_edges}
use Rattle.path_factors.proofs.factors.Factors.fits.Goals as goal

pub returns-clause-fits : goal.returns-clause-fits
returns-clause-fits g c =
    let s = c.self.inside in
    let n : c.args.graph.now.vertices ≡ s.graph.value.vertices =
    omega (arith, c.self.invariant.0.factor.ordering.places_count, c.vertices.ensures.count, c.len.ensures, c.if-vertices-len.false, s.places.ok.0) in
    record {
      vertices = n ∙ (λ i. (c.self.view_is i).roads.vertices);
      arcs = c.in_ok-has_edges.ensures.edges.0 c.if-not-has_edges.false;
    }

pub returns-then-not-has_edges-clause-others : goal.returns-then-not-has_edges-clause-others
returns-then-not-has_edges-clause-others g c = λ over.
    let S = c.args.self.now in
    let yes : IsTrue c.in_ok-has_edges.has_edges = c.in_ok-has_edges.ensures.edges.1 (has_old_edges S.roads S.factor S.heads c.holds.ensures.outline c.args.graph.now over) in
    let no = c.if-not-has_edges.true in
    absurd (cc)
