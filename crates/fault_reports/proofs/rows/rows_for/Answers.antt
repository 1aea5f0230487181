use Rattle.std.proofs.Common.{ap, ◌∙◌, map}
use Rattle.std.proofs.lemmas.List.Elements.{All-push, All-same}
use Rattle.std.specs.List.{Contains}
use Rattle.fault_reports.proofs.RowsByNumber.{row_more}
use Rattle.fault_reports.proofs.rows.rows_for.Goals as goal

pub loop-number-preserved : goal.loop-number-preserved
loop-number-preserved c =
    let pushed = c.in_ok-push.ensures.items in (
      ap (map (λ row. row.number)) pushed ∙ row_more c.args.numbers.now c.loop-number.rows.items c.loop-number.number-index c.in-Some.row c.loop-number-test.true
          c.in-Some.ensures.found.0 c.loop-number.invariant.0,
      All-same (Contains c.args.table.now) _ _ pushed (All-push (Contains c.args.table.now) c.loop-number.rows.items c.in-Some.row c.loop-number.invariant.1 c.in-Some.ensures.found.1),
    )
