use Rattle.answer_check.proofs.Words.{rules, ◌≡◌, ℕ, ◌<◌, ◌-◌, ◌+◌, ◌^◌, ◌∙◌, Bool, length, arith, subst, crosses, nat_range, first_true, nat_range-All, TellsRefused, IsFirstNumber, sendable}
use Rattle.answer_check.proofs.FirstPlaces.{first_number}
use Rattle.answer_check.proofs.pass.first_refused.Goals as goal

pub position_first-requires-clause-items : goal.position_first-requires-clause-items
position_first-requires-clause-items g c κs within =
    let ends = c.into_par_iter.ensures in
    let n = c.args.by_head.now.vertices in
    let inside = nat_range-All (λ i. (length (g.L.VertexLines.list c.args.lines.now) ≡ n) × (length c.args.marks.now ≡ n) × (i < n)) 0 (length c.args.marks.now)
    (λ i low high. (c.requires.count, c.requires.marks, omega (arith, high, c.requires.marks))) in
    rw (ends.0, ends.1) (λ k d lt. (inside k d lt, search (sendable, crosses) depth 40))

pub returns : goal.returns
returns g c =
    let ends = c.into_par_iter.ensures in
    let n = length c.args.marks.now in
    let done = c.position_first.ensures in
    let tells = λ (i : ℕ) (b : Bool). TellsRefused (g.A.PathAlgebra.meaning c.args.algebra) c.args.by_head.now (g.L.VertexLines.list c.args.lines.now) c.args.marks.now (i + 1) b in
    let short : n < 2 ^ 64 = search rules in
    rw done.4 (subst (λ (m : ℕ). IsFirstNumber m tells (first_true done.1)) c.requires.marks
    (first_number tells n done.0 done.1 short (done.2 ∙ (λ i. nat_range (ends.0 i) (ends.1 i))) done.3))
