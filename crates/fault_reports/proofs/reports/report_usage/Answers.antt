use Rattle.std.proofs.Common.{refl}
use Rattle.text_lines.proofs.WriteLaws.{wrote_reported}
use Rattle.fault_reports.proofs.reports.report_usage.Goals as goal

pub returns : goal.returns
returns g c = (refl, wrote_reported _ _ _ _ refl c.write_bytes.result c.write_bytes.ensures)
