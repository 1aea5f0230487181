use Rattle.std.proofs.Common.{◌≡◌, IsTrue, codes, rules, string_bytes}
use Rattle.command_args.proofs.Table.{asks, says_faults}
use Rattle.command_args.proofs.parsed.ask_for_table.Goals as goal

pub returns-then-eq : goal.returns-then-eq
returns-then-eq c =
    let help : string_bytes c.help-item.result ≡ codes "help" = search rules in
    let faults_said : IsTrue c.eq-then-eq.result → string_bytes c.faults-item.result ≡ codes "faults" = search rules in
    let said_faults : string_bytes c.faults-item.result ≡ codes "faults" → IsTrue c.eq-then-eq.result = search rules in (
      λ t. asks c.args.words.now c.help-item.result c.faults-item.result c.in-len3.len_at_least c.in-len3.len_below c.help-item.is c.faults-item.is help (faults_said t),
      λ a. said_faults (says_faults c.args.words.now c.faults-item.result c.in-len3.len_at_least c.in-len3.len_below c.faults-item.is a),
    )
