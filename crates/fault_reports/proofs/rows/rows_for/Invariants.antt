use Rattle.std.proofs.Common.{◌≡◌, map, take}
use Rattle.std.specs.List.{All, Contains}
use Rattle.fault_reports.proofs.rows.rows_for.Given as goal

abbrev pub invariant-loop-number : goal.invariant-loop-number
invariant-loop-number l = (map (λ row. row.number) l.rows.items ≡ take l.number-index l.numbers) × All (Contains l.table) l.rows.items
