use Rattle.std.proofs.Common.{◌≡◌, true, take, rules}
use Rattle.text_lines.proofs.ShortLineLaws.{taken_whole}
use Rattle.text_lines.proofs.reader.LineReader.short_line.Goals as goal

pub returns-clause-rest_gives : goal.returns-clause-rest_gives
returns-clause-rest_gives g c =
    let short = c.in-Some.short in
    let yes : c.short_line-2.result ≡ true = search rules in
    λ cut more r h. taken_whole g.T.LineParser.meaning c.args.self.now c.short_line-2.new.self c.if-self.false (c.short_line-2.ensures.ready yes)
    (take short.len c.args.bytes.now) short.letter short.numbers.0 short.numbers.1 short.numbers.2
    c.in-Some.ensures.line (c.short_line-2.ensures.taken yes) cut more r h
