use Rattle.std.proofs.Common.{option_map}
use Rattle.answer_text.proofs.Words.{text_of, spelled, fell_first, wrote_then, fell_out}
use Rattle.answer_text.specs.AnswerText.{found_lines, pair_words}
use Rattle.answer_text.specs.AnswerData.{found_of}
use Rattle.answer_text.proofs.writing.write_pair.Goals as goal

pub returns-in_err-write_pair_line : goal.returns-in_err-write_pair_line
returns-in_err-write_pair_line g c = fell_out _ _ _ _ c.from_residual.result c.from_residual.ensures.1
    (fell_first _ _ (spelled (pair_words c.args.source c.args.target)) (text_of (found_lines (option_map found_of c.args.found.now))) c.in_err-write_pair_line.ensures)

pub returns-in-Some : goal.returns-in-Some
returns-in-Some g c = rw (c.in-Some.is, ← c.as_slice.ensures.value) (wrote_then _ _ _ _ _ _ c.in_ok-write_pair_line.ensures c.write_found.ensures)

pub returns-in-None : goal.returns-in-None
returns-in-None g c = rw c.in-None.is (wrote_then _ _ _ _ _ _ c.in_ok-write_pair_line.ensures c.write_unreached.ensures)
