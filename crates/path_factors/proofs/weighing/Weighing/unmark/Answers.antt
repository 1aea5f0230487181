use Rattle.path_factors.proofs.Words.{ℕ, get_or, subst, IsLawful, Leads, row_of, rising, heads_in, IsBypassed, head_at}
use Rattle.path_factors.proofs.Eliminating.{edge_rises}
use Rattle.path_factors.proofs.Pruning.{do_without}
use Rattle.path_factors.proofs.weighing.Weighing.unmark.Goals as goal

pub returns-clause-serve : goal.returns-clause-serve
returns-clause-serve g c =
    let S = c.args.self.now in
    let F = S.factor in
    let H = heads_in F.leaving in
    let v = c.args.v in
    let e = c.edge-edge.result in
    let f = c.edge-over.result in
    let at = c.edge-edge.ensures in
    let also = c.edge-over.ensures in
    let x = head_at F.leaving v c.args.i (rising e) at.leaving_inside at.rises in
    let y = head_at F.leaving v c.args.j (rising f) also.leaving_inside also.rises in
    let lawful = subst (λ a. IsLawful (g.A.PathAlgebra.meaning a)) (λ i. (c.self.view_is i).algebra) c.laws_hold.ensures.lawful in
    let worse = subst (λ a. IsBypassed (g.A.ComposingAlgebra.walks a) e f c.args.end) (λ i. (c.self.view_is i).algebra) (c.is_bypassed.ensures.bypassed c.if-not-is_bypassed.false) in
    let up = c.holds.ensures.begun.links.rising v e.place e.leaving (edge_rises F v c.args.i e at) in
    let on = c.holds.ensures.begun.links.rising v f.place f.leaving (edge_rises F v c.args.j f also) in
    let there = subst (λ (p : ℕ). Leads F f.place p c.args.end.leaving) x (subst (λ (p : ℕ). Leads F p (get_or (row_of H v) c.args.i 0) c.args.end.leaving) y c.requires.there) in
    let back = subst (λ (p : ℕ). Leads F p f.place c.args.end.entering) x (subst (λ (p : ℕ). Leads F (get_or (row_of H v) c.args.i 0) p c.args.end.entering) y c.requires.back) in
    do_without (g.A.PathAlgebra.meaning S.algebra) lawful (g.A.ComposingAlgebra.walks S.algebra) c.holds.ensures.composes F v c.args.marks.now c.args.i c.args.j e f c.args.end
    at also c.requires.apart (c.is_bypassed.ensures.marked c.if-not-is_bypassed.false) up.0 on.0 there back worse c.requires.serve
