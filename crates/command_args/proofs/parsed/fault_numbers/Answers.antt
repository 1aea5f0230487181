use Rattle.command_args.proofs.Words.{◌+◌, subst, sym, take, AllZip, IsFaultNumber}
use Rattle.command_args.proofs.Numbers.{zip_more}
use Rattle.command_args.proofs.parsed.fault_numbers.Goals as goal

pub loop-text-preserved : goal.loop-text-preserved
loop-text-preserved c = subst (λ items. AllZip (λ text n. IsFaultNumber text.now n) (take (c.loop-text.text-index + 1) c.args.texts.now) items) (sym c.in_ok-push.ensures.items)
    (zip_more _ c.args.texts.now c.loop-text.numbers.items c.loop-text.text-index _ c.fault_number.result c.loop-text-test.true c.loop-text.invariant c.fault_number.ensures)
