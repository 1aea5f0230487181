use Rattle.std.proofs.Common.{arith}
use Rattle.text_lines.proofs.ScannerLaws.{kept}
use Rattle.text_lines.proofs.scanner.Scanner.keep_present.Goals as goal

pub returns : goal.returns
returns c = let s = c.args.self.now in kept s.slots s.filled c.default.result (omega (arith, s.room, c.requires)) c.default.ensures
