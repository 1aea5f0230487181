use Rattle.std.proofs.Common.{◌≡◌, inr, refl, rules, true}
use Rattle.command_files.proofs.times.shown.show_times.Goals as goal

pub returns-in-Some : goal.returns-in-Some
returns-in-Some g c =
    let asked : c.args.wanted ≡ true = search rules in
    let ended : c.args.status ≡ 0 = search rules in
    inr (asked, ended, refl, refl, (c.in-Some.times, c.write_times.ensures))
