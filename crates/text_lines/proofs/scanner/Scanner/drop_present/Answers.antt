use Rattle.std.proofs.Common.{arith}
use Rattle.text_lines.proofs.ScannerLaws.{dropped}
use Rattle.text_lines.proofs.scanner.Scanner.drop_present.Goals as goal

pub returns : goal.returns
returns c = let s = c.args.self.now in dropped s.slots s.filled c.default.result (omega (arith, s.room, s.few)) c.default.ensures
