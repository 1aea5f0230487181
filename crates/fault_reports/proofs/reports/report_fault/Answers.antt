use Rattle.std.proofs.Common.{◌∙◌}
use Rattle.text_lines.proofs.WriteLaws.{wrote_reported}
use Rattle.fault_reports.proofs.reports.report_fault.Goals as goal

pub returns : goal.returns
returns g c = (c.status_of.ensures, wrote_reported _ _ _ _ (c.as_bytes.ensures.value ∙ c.as_str.ensures.value ∙ c.line_of_fault.ensures) c.write_bytes.result c.write_bytes.ensures)
