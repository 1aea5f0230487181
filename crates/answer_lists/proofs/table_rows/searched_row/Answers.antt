use Rattle.answer_lists.proofs.Words.{rules, ◌<◌, ◌∙◌, length, get_or, refl, sym, subst, GraphData, IsTableCode, AreRowCodes}
use Rattle.answer_lists.proofs.Tabling.{zipped_next}
use Rattle.answer_lists.proofs.table_rows.searched_row.Goals as goal

pub loop-target-preserved : goal.loop-target-preserved
loop-target-preserved g c =
    let a = c.args in let A = g.A.PathAlgebra.meaning a.algebra in let roads = a.shared.now.roads in let s = a.ends.now.source in let i = c.loop-target.target-index in
    let is = c.loop-target.invariant in let same = c.searched_code.ensures.searcher in
    let lt : i < length a.ends.now.targets.now = search rules in let t = get_or a.ends.now.targets.now i 0 in
    let coded : IsTableCode A roads s t c.in-Some.code =
    subst (λ (x : GraphData). IsTableCode A x s t c.in-Some.code) c.graph-graph.ensures
    (subst (λ (b : g.row.A.Denot). IsTableCode (g.A.PathAlgebra.meaning b) c.graph-graph.result.now s t c.in-Some.code) is.searcher.by (rw c.in-Some.is at c.in_ok-code.ensures.code)) in
    record {
      searcher = record { by = same.algebra ∙ is.searcher.by; over = same.roads ∙ is.searcher.over };
      row = subst (AreRowCodes A roads _ s) (sym c.in_ok-push_code.ensures)
          (zipped_next (IsTableCode A roads s) a.ends.now.targets.now c.loop-target.row.items i 0 t c.in-Some.code lt refl is.row coded);
    }
