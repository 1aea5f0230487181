use Rattle.answer_lists.proofs.Words.{rules, ◌≡◌, ◌+◌, ◌++◌, ◌<◌, List, ℕ, length, get_or, take, refl, ap, ◌∙◌, subst, sym, IfSome, GraphData, IsSearcherOf, Shared, AreTableCodes}
use Rattle.answer_lists.proofs.Tabling.{table_more}
use Rattle.answer_lists.proofs.table.table.Goals as goal

pub loop-source-preserved : goal.loop-source-preserved
loop-source-preserved g c =
    let a = c.args in let A = g.A.PathAlgebra.meaning a.algebra in let i = c.loop-source.source-index in
    let lt : i < length a.ends.now.sources.now = search rules in
    let joined : c.extend_from_slice.new.self.items ≡ c.loop-source.codes.items ++ c.in-Some.row.items =
    c.in_ok-extend_from_slice.ensures.items ∙ ap (λ (xs : List ℕ). c.loop-source.codes.items ++ xs) c.deref.ensures.value in
    let roads = ap (λ (s : Shared). s.roads) (sym c.row.ensures.graph) in
    let more = table_more A c.loop-source.shared.roads a.ends.now.targets.now a.ends.now.sources.now c.loop-source.codes.items c.in-Some.row.items i (get_or a.ends.now.sources.now i 0) lt refl
    c.loop-source.invariant.table (rw c.in-Some.is at c.in_ok-row.ensures.row) in
    record {
      same = c.row.ensures.graph ∙ c.loop-source.invariant.same;
      kept = subst (λ (x : GraphData). IfSome c.row.new.kept (IsSearcherOf a.algebra x)) roads c.in_ok-row.ensures.kept;
      table = subst (λ (x : GraphData). AreTableCodes A x (take (i + 1) a.ends.now.sources.now) a.ends.now.targets.now c.extend_from_slice.new.self.items) roads
          (subst (AreTableCodes A c.loop-source.shared.roads (take (i + 1) a.ends.now.sources.now) a.ends.now.targets.now) (sym joined) more);
    }
