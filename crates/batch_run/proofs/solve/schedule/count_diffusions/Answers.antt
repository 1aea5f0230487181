use Rattle.batch_run.proofs.Words.{rules, arith, ◌<◌, ◌+◌, ap, length, asked_of, FromSource}
use Rattle.batch_run.proofs.Reporting.{none_counted}
use Rattle.batch_run.proofs.SourcesToCome.{counted_more, counted_all, few_sources}
use Rattle.batch_run.proofs.solve.schedule.count_diffusions.Goals as goal

pub returns-then-undiffused : goal.returns-then-undiffused
returns-then-undiffused c = rw c.if-undiffused.true (none_counted (asked_of c.args.questions.now).questions)

pub loop-i-preserved : goal.loop-i-preserved
loop-i-preserved c =
    let qs = (asked_of c.args.questions.now).questions in
    let low : c.loop-i.i < length (asked_of c.args.questions.now).questions = search rules in
    let few = few_sources c.requires.0 c.args.questions.now c.loop-i.i c.requires.1.within low (FromSource 0) in
    let own = ap (λ (l : _). length l) (c.sources.ensures (FromSource 0)) in
    record {
      counted = counted_more qs c.loop-i.i c.loop-i.count _ (FromSource 0) low c.loop-i.invariant.counted (ap (λ n. c.loop-i.count + n) own);
      few = omega (arith, few, own, c.loop-i.invariant.few);
    }

pub returns : goal.returns
returns c = rw c.if-undiffused.false (counted_all (asked_of c.args.questions.now).questions c.loop-i.i c.loop-i.count (search rules) c.loop-i.invariant.counted)
