use Rattle.path_factors.proofs.Words.{◌≡◌, ◌<◌, ◌∙◌, List, length, get_or, ap, arith, sym, get_or_default, Link, row_of}
use Rattle.path_factors.proofs.Eliminating.{aligned_count, aligned_place}
use Rattle.path_factors.proofs.weighing.Weighing.edge.Goals as goal

pub returns : goal.returns
returns g c =
    let F = c.args.self.now.factor in
    let v = c.args.v in
    let j = c.args.j in
    let R = c.riser-riser.result in
    let E = c.faller-faller.result in
    let f : Link g.row.A-Walk.Denot = record { place = R.place; walk = E.walk } in
    let low : j < length (row_of F.entering v) = omega (arith, aligned_count F c.holds.ensures.aligned v, c.requires.edge) in
    let leaving : c.self.inside.rows.leaving ≡ F.leaving = λ i. (c.self.view_is i).factor.leaving in
    let entering : c.self.inside.rows.entering ≡ F.entering = λ i. (c.self.view_is i).factor.entering in
    let up : R ≡ get_or (row_of F.leaving v) j R =
    c.riser-riser.ensures ∙ ap (λ (r : List (List (Link g.row.A-Walk.Denot))). get_or (row_of r v) j R) leaving in
    let down : E ≡ get_or (row_of F.entering v) j E =
    c.faller-faller.ensures ∙ ap (λ (r : List (List (Link g.row.A-Walk.Denot))). get_or (row_of r v) j E) entering in
    let place : E.place ≡ R.place =
    ap (λ (l : Link g.row.A-Walk.Denot). l.place) down ∙ sym (aligned_place F c.holds.ensures.aligned v j R E c.requires.edge)
    ∙ ap (λ (l : Link g.row.A-Walk.Denot). l.place) (sym up) in
    let link : E ≡ f = λ i. record { place = place i; walk = E.walk } in
    record {
      leaving_inside = c.requires.edge;
      entering_inside = low;
      rises = sym up;
      falls = get_or_default (row_of F.entering v) j f E low ∙ sym down ∙ link;
    }
