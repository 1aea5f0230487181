use Rattle.std.proofs.Common.{inl, map, refl, rules, string_bytes, subst}
use Rattle.command_args.specs.declared.parsed.Subcommand.{Subcommand}
use Rattle.command_args.specs.declared.parsed.Subcommand.TheVariants.{Solve, Bundle, Serve, Check, Order, Faults}
use Rattle.command_args.specs.Asked.{AskFor}
use Rattle.program.proofs.command_line.run_command_line.Goals as goal

pub returns-in-Ok-Faults : goal.returns-in-Ok-Faults
returns-in-Ok-Faults g c =
    let asked : AskFor (map (λ word. string_bytes word) c.args.words.now) (Faults c.in-Ok-Faults.numbers) =
    subst (λ (x : Subcommand). AskFor (map (λ word. string_bytes word) c.args.words.now) x) c.in-Ok-Faults.field-0-is c.in-Ok-Faults.ensures.asked in
    inl (
      Faults c.in-Ok-Faults.numbers,
      asked,
      (refl, (c.all_faults.result.now, c.all_faults.ensures, rw (c.as_slice-numbers.ensures.value) at c.explain.ensures)),
    )

pub returns-in-Ok-Solve : goal.returns-in-Ok-Solve
returns-in-Ok-Solve g c =
    let asked : AskFor (map (λ word. string_bytes word) c.args.words.now) (Solve c.in-Ok-Solve.args) = search rules in
    inl (Solve c.in-Ok-Solve.args, asked, c.solve.ensures)

pub returns-in-Ok-Bundle : goal.returns-in-Ok-Bundle
returns-in-Ok-Bundle g c =
    let asked : AskFor (map (λ word. string_bytes word) c.args.words.now) (Bundle c.in-Ok-Bundle.args) = search rules in
    inl (Bundle c.in-Ok-Bundle.args, asked, c.bundle.ensures)

pub returns-in-Ok-Serve : goal.returns-in-Ok-Serve
returns-in-Ok-Serve g c =
    let asked : AskFor (map (λ word. string_bytes word) c.args.words.now) (Serve c.in-Ok-Serve.args) = search rules in
    inl (Serve c.in-Ok-Serve.args, asked, c.serve.ensures)

pub returns-in-Ok-Check : goal.returns-in-Ok-Check
returns-in-Ok-Check g c =
    let asked : AskFor (map (λ word. string_bytes word) c.args.words.now) (Check c.in-Ok-Check.args) = search rules in
    inl (Check c.in-Ok-Check.args, asked, c.check.ensures)

pub returns-in-Ok-Order : goal.returns-in-Ok-Order
returns-in-Ok-Order g c =
    let asked : AskFor (map (λ word. string_bytes word) c.args.words.now) (Order c.in-Ok-Order.args) = search rules in
    inl (Order c.in-Ok-Order.args, asked, c.order.ensures)
