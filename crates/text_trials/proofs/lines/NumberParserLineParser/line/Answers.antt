use Rattle.std.proofs.Common.{◌∙◌, ℕ, List, Vec}
use Rattle.std.specs.declared.alloc.Global.{Global}
use Rattle.text_trials.specs.Numbers.{numbers_rules}
use Rattle.text_trials.proofs.NumberLaws.{rule_of_line}
use Rattle.text_lines.proofs.ParserLaws.{on_ok, gives_taken, gives_broken}
use Rattle.text_trials.proofs.lines.NumberParserLineParser.line.Goals as goal

abbrev items_of : Vec ℕ Global → List ℕ
items_of v = v.items

pub returns-clause-ok : goal.returns-clause-ok
returns-clause-ok c = on_ok c.parse_line.result _ _ c.parse_line.ensures (λ e cut at l rest r shown _ h. gives_taken numbers_rules items_of _ _ cut at l rest r (rule_of_line _ c.args.slots.now l shown ∙ e) h)

pub returns-clause-broken : goal.returns-clause-broken
returns-clause-broken c = λ rule is cut at l rest shown _. gives_broken numbers_rules items_of c.args.self.now.numbers.items cut at l rest rule.number
    (rule_of_line _ c.args.slots.now l shown ∙ (rw is at c.parse_line.ensures))
