-- What clap makes of words, over the command line of the program.
use Rattle.std.proofs.Common.{◌≡◌, ◌⊎◌, List, [], Some, None, true, ap, inl, inr, subst}
use Rattle.clap.specs.Faults.{fault_of, is_simple_and_free}
use Rattle.clap.specs.Kinds.{HasKind}
use Rattle.clap.specs.Simple.{App, HasMatchesOf, is_simple, subcommand_rows_of}
use Rattle.clap.specs.Values.{kind_of}
use Rattle.clap.specs.Walk.{Text, texts}
use Rattle.clap.specs.declared.error.Error.{Error}
use Rattle.clap.specs.declared.error.kind.ErrorKind.{ErrorKind}
use Rattle.clap.specs.declared.error.kind.ErrorKind.TheVariants.{OutOfMemory}
use Rattle.clap.specs.declared.parser.matches.ArgMatches.{ArgMatches}
use Rattle.command_args.specs.declared.parsed.Subcommand.{Subcommand}
use Rattle.command_args.specs.CommandLine.{Names, algebra_names, dealing_names, diffuse}
use Rattle.command_args.specs.Asked.{AreRefused, IsNamed, IsParsedAs}

module _ (words : List Text) (app : App) (algebras dealings : Names) (is_ours : app ≡ diffuse algebras dealings) (algebras_are : texts algebras.now ≡ algebra_names)
    (dealings_are : texts dealings.now ≡ dealing_names) where
  pub parsed : (m : ArgMatches) (s : Subcommand) → (is_simple_and_free app ≡ true → fault_of app words ≡ []) → HasMatchesOf app words m
      → IsNamed (subcommand_rows_of m) (Some s) → IsParsedAs words s
  parsed m s free matches found = record {
    app = app;
    is_ours = (algebras, dealings, algebras_are, dealings_are, is_ours);
    faultless = free (ap is_simple_and_free is_ours);
    named = subst (λ it. IsNamed it (Some s)) (matches (ap is_simple is_ours)).1 found;
  }

  pub refused : (e : Error) → (is_simple_and_free app ≡ true → HasKind (fault_of app words) e) → (kind_of e ≡ OutOfMemory) ⊎ AreRefused words (kind_of e)
  refused e fails = elim (fails (ap is_simple_and_free is_ours)) [
    | inl memory ↦ inl memory
    | inr among ↦ inr (record { app = app; is_ours = (algebras, dealings, algebras_are, dealings_are, is_ours); because = inl among })
  ]

  pub unnamed : (m : ArgMatches) (kind : ErrorKind) → HasMatchesOf app words m → IsNamed (subcommand_rows_of m) None → AreRefused words kind
  unnamed m kind matches found = record {
    app = app;
    is_ours = (algebras, dealings, algebras_are, dealings_are, is_ours);
    because = inr (subst (λ it. IsNamed it None) (matches (ap is_simple is_ours)).1 found);
  }
