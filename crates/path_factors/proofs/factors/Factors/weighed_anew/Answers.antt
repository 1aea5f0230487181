use Rattle.path_factors.proofs.Words.{◌≡◌, ◌∙◌, List, ℕ, sym, subst, AreBlank, AreHeads, IsOutline}
use Rattle.path_factors.proofs.factors.Factors.weighed_anew.Goals as goal

pub open_blank-weighing-requires-clause-outline : goal.open_blank-weighing-requires-clause-outline
open_blank-weighing-requires-clause-outline g c κs within =
    let S = c.args.self.now in
    let G = c.args.graph.now in
    let fits = c.requires in
    let places : c.in_ok-places.places.items ≡ S.factor.places =
    c.in_ok-places.ensures.items_if_clones_equal (λ x y is. is) ∙ c.deref.ensures.value ∙ (λ i. (c.self.view_is i).factor.places) in
    let outline : IsOutline G S.factor.places S.heads = record {
      are = subst (λ k. AreHeads k S.heads) (sym fits.vertices) c.holds.ensures.outline.are;
      joined = fits.arcs;
    } in
    subst (λ (h : List (List ℕ)). IsOutline G c.in_ok-places.places.items h) (sym (c.in_ok-rows.ensures.leaving ∙ c.in_ok-heads.ensures))
    (subst (λ (p : List ℕ). IsOutline G p S.heads) (sym places) outline)

pub open_blank-weighing-requires-clause-risers : goal.open_blank-weighing-requires-clause-risers
open_blank-weighing-requires-clause-risers g c κs within =
    subst (λ (w : g.row.A-Walk.Denot). AreBlank w c.in_ok-rows.rows.leaving) c.no_walk.ensures c.in_ok-rows.ensures.risers

pub open_blank-weighing-requires-clause-fallers : goal.open_blank-weighing-requires-clause-fallers
open_blank-weighing-requires-clause-fallers g c κs within =
    subst (λ (w : g.row.A-Walk.Denot). AreBlank w c.in_ok-rows.rows.entering) c.no_walk.ensures c.in_ok-rows.ensures.fallers
