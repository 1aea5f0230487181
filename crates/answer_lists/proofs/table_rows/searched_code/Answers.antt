use Rattle.answer_lists.proofs.Words.{◌≡◌, ◌∙◌, [], ◌∷◌, List, Option, ap, sym, subst, IsLawful, IsBestLabel, label_of, IsTableCode, code_for}
use Rattle.answer_lists.proofs.Tabling.{label_coded}
use Rattle.answer_lists.proofs.table_rows.searched_code.Goals as goal

pub returns-clause-code : goal.returns-clause-code
returns-clause-code g c =
    let a = c.args in let A = g.A.PathAlgebra.meaning a.searcher.now.algebra in let roads = a.graph.now in let t = a.target in let by = c.algebra-algebra.ensures in
    let found : c.of-label.result ≡ label_of c.solve_unless.new.self.labels t = c.of-label.ensures ∙ ap (λ (ls : List (Option g.row.A-Value.Denot)). label_of ls t) c.labels.ensures in
    let best : IsBestLabel A roads (a.source ∷ []) t c.of-label.result =
    subst (IsBestLabel A roads (a.source ∷ []) t) (sym found) (c.in_ok-solve_unless.ensures.labels c.if-not-branch.false).at_target in
    let lawful = subst (λ (b : g.row.A.Denot). IsLawful (g.A.PathAlgebra.meaning b)) by c.laws_hold.ensures.lawful in
    let code = c.code_for.ensures ∙ ap (λ (b : g.row.A.Denot). code_for (g.A.PathAlgebra.meaning b) c.of-label.result) by in
    subst (IsTableCode A roads a.source t) (sym code) (label_coded A lawful c.requires.low roads c.holds.ensures a.source t c.of-label.result best)
