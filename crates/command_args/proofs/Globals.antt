-- A command whose words are read plainly has no global argument.
use Rattle.std.proofs.Common.{◌≡◌, Bool, true, false, not, ◌&&◌, refl}
use Rattle.clap.specs.Simple.{shape_of}
use Rattle.clap.specs.declared.builder.command.Command.{Command}
use Rattle.clap.specs.declared.builder.command.Command.TheViews.{out-Command}

third : (a b c rest : Bool) → (a && (not b && (not c && rest))) ≡ true → c ≡ false
third false b c rest e = cc
third true true c rest e = cc
third true false true rest e = cc
third true false false rest e = refl

pub no_globals : (c : Command) → (shape_of c).is_plain ≡ true → (out-Command c).has_globals ≡ false
no_globals c plain = third _ _ _ _ plain
