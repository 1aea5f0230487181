use Rattle.std.proofs.Common.{◌≡◌, flat_map, string_bytes, take}
use Rattle.fault_reports.specs.Explained.{row_text}
use Rattle.fault_reports.proofs.rows.text_of_rows.Given as goal

abbrev pub invariant-loop-row : goal.invariant-loop-row
invariant-loop-row l = string_bytes l.text ≡ flat_map row_text (take l.row-index l.rows)
