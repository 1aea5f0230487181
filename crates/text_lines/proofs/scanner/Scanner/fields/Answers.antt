use Rattle.text_lines.proofs.Words.{sym, word_in}
use Rattle.std.proofs.lemmas.List.{take-map}
use Rattle.text_lines.proofs.scanner.Scanner.fields.Goals as goal

pub returns : goal.returns
returns c = sym (take-map word_in c.args.self.now.filled c.args.self.now.slots)
