use Rattle.command_args.proofs.Words.{AllZip, take, IsFaultNumber}
use Rattle.command_args.proofs.parsed.fault_numbers.Given as goal

abbrev pub invariant-loop-text : goal.invariant-loop-text
invariant-loop-text l = AllZip (λ text n. IsFaultNumber text.now n) (take l.text-index l.texts) l.numbers.items
