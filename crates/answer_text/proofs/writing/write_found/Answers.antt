use Rattle.text_lines.proofs.WriteLaws.{fell_first, fell_out}
use Rattle.answer_text.proofs.Blocks.{list_last}
use Rattle.answer_text.proofs.writing.write_found.Goals as goal

pub returns : goal.returns
returns g c = list_last _ _ _ _ _ _ c.in_ok-write_found_line.ensures c.write_list.ensures

pub returns-in_err-write_found_line : goal.returns-in_err-write_found_line
returns-in_err-write_found_line g c = fell_out _ _ _ _ c.from_residual.result c.from_residual.ensures.1 (fell_first _ _ _ _ c.in_err-write_found_line.ensures)
