use Rattle.command_args.proofs.Words.{◌∙◌, inl, inr, found_of, one_text-rows}
use Rattle.command_args.proofs.options.flag_of.Goals as goal

pub returns : goal.returns
returns c =
    let same = one_text-rows (found_of c.args.matches.now) c.args.name.now in (
      λ e. c.get_flag.ensures.value (same ∙ e),
      λ auto. elim auto [
        | inl none ↦ c.get_flag.ensures.none (same ∙ none)
        | inr off ↦ c.get_flag.ensures.other (same ∙ off)
      ],
    )
