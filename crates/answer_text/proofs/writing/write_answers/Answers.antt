use Rattle.answer_text.proofs.Words.{arith, fell_out}
use Rattle.answer_text.proofs.Blocks.{header_then, header_fell}
use Rattle.answer_text.proofs.writing.write_answers.Goals as goal

pub returns : goal.returns
returns g c = header_then _ _ _ c.args.answers.now _ _ _ c.as_slice.ensures.value (omega (arith, c.len.ensures)) c.in_ok-write_header.ensures c.write_blocks.ensures

pub returns-in_err-write_header : goal.returns-in_err-write_header
returns-in_err-write_header g c = fell_out _ _ _ _ c.from_residual.result c.from_residual.ensures.1
    (header_fell _ _ c.args.answers.now _ (omega (arith, c.len.ensures)) c.in_err-write_header.ensures)
