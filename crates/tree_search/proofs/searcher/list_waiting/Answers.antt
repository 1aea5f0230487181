use Rattle.tree_search.proofs.Words.{◌≡◌, ◌∙◌, sym, true, false, is_end}
use Rattle.tree_search.proofs.Waiting.{stays_listed, all_listed}
use Rattle.tree_search.proofs.searcher.list_waiting.Goals as goal

pub loop-step-preserved : goal.loop-step-preserved
loop-step-preserved g c =
    let was = c.loop-step.invariant in
    let more : is_end c.forgo_next-step.result ≡ false = sym c.is_end.ensures ∙ c.if-is_end.false in
    record {
      roads = c.forgo_next-step.ensures.roads ∙ was.roads;
      settled = rw c.in_ok-note.ensures (stays_listed g.A.PathAlgebra.order _ c.args.search.now.roads c.loop-step.search c.forgo_next-step.new.self was.roads c.loop-step.reached.items was.settled
          c.forgo_next-step.result more c.forgo_next-step.ensures);
    }

pub returns-then-is_end-clause-noted : goal.returns-then-is_end-clause-noted
returns-then-is_end-clause-noted g c =
    let was = c.loop-step.invariant in
    let end : is_end c.forgo_next-step.result ≡ true = sym c.is_end.ensures ∙ c.if-is_end.true in
    all_listed g.A.PathAlgebra.order _ c.args.search.now.roads c.loop-step.search c.forgo_next-step.new.self was.roads c.loop-step.reached.items was.settled
    c.forgo_next-step.result end c.forgo_next-step.ensures
