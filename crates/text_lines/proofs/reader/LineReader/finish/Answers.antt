use Rattle.text_lines.proofs.Words.{IfOk-weaker, IfErr-weaker, Ok}
use Rattle.text_lines.proofs.ReaderLaws.{rest_gives_end, end_halts, last_gives, last_end_halts, last_halts}
use Rattle.text_lines.proofs.reader.LineReader.finish.Goals as goal

pub returns-then-not-ended-clause-ok : goal.returns-then-not-ended-clause-ok
returns-then-not-ended-clause-ok g c = IfOk-weaker c.end.result _ _ (λ v h. rest_gives_end g.T.LineParser.meaning c.args.self c.to_end-ended.new.self c.to_end-ended.ensures.kept
    c.if-self.false (Ok v) (c.to_end-ended.ensures.none c.if-not-ended.true) h) c.end.ensures.ok

pub returns-then-not-ended-clause-err : goal.returns-then-not-ended-clause-err
returns-then-not-ended-clause-err g c = IfErr-weaker c.end.result _ _ (λ h p. end_halts g.T.LineParser.meaning c.args.self c.to_end-ended.new.self c.to_end-ended.ensures.kept
    c.if-self.false h (c.to_end-ended.ensures.none c.if-not-ended.true) p) c.end.ensures.err

pub returns-in-Ok-clause-ok : goal.returns-in-Ok-clause-ok
returns-in-Ok-clause-ok g c = IfOk-weaker c.end-in-Ok.result _ _ (λ v h. last_gives g.T.LineParser.meaning c.args.self c.to_end-ended.new.self c.to_end-ended.ensures.kept
    c.if-self.false {A = Unit {0}} c.give_line.new.self.cutter.taker.parser (c.to_end-ended.ensures.ended c.if-not-ended.false) tt (Ok v) (λ l here. c.in-Ok.ensures.line l here) h)
    c.end-in-Ok.ensures.ok

pub returns-in-Ok-clause-err : goal.returns-in-Ok-clause-err
returns-in-Ok-clause-err g c = IfErr-weaker c.end-in-Ok.result _ _ (λ h p. last_end_halts g.T.LineParser.meaning c.args.self c.to_end-ended.new.self c.to_end-ended.ensures.kept
    c.if-self.false {A = Unit {0}} c.give_line.new.self.cutter.taker.parser (c.to_end-ended.ensures.ended c.if-not-ended.false) tt h (λ l here. c.in-Ok.ensures.line l here) p) c.end-in-Ok.ensures.err

pub returns-in-Err-clause-err : goal.returns-in-Err-clause-err
returns-in-Err-clause-err g c = last_halts g.T.LineParser.meaning c.args.self c.to_end-ended.new.self c.to_end-ended.ensures.kept c.if-self.false
    c.give_line.new.self.cutter.taker.parser (c.to_end-ended.ensures.ended c.if-not-ended.false) c.in-Err.halt c.give_line.result c.in-Err.is c.in-Err.ensures.kinds
    (λ l here. c.give_line.ensures.line l here)
