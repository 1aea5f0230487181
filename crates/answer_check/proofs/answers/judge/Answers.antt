use Rattle.answer_check.proofs.Words.{◌≡◌, ℕ, List, ap, ◌∙◌, FromSource, BetweenPair, FromSources, of_source, of_pair, of_list}
use Rattle.answer_check.proofs.FirstWrong.{mapped_is}
use Rattle.answer_check.proofs.answers.judge.Goals as goal

pub returns-in-Sources : goal.returns-in-Sources
returns-in-Sources g c = λ q e.
    let at = rw c.in-Sources.is at e in
    let same : FromSource c.index.result.now ≡ q = mapped_is of_source c.in-Sources.sources.items c.args.i c.index.result.now q c.index.ensures at in
    rw (← same) c.judge_source.ensures

pub returns-in-Pairs : goal.returns-in-Pairs
returns-in-Pairs g c = λ q e.
    let at = rw c.in-Pairs.is at e in
    let same : BetweenPair c.index-in-Pairs.result.now.0 c.index-in-Pairs.result.now.1 ≡ q = mapped_is of_pair c.in-Pairs.pairs.items c.args.i c.index-in-Pairs.result.now q c.index-in-Pairs.ensures at in
    rw (← same) c.judge_alone.ensures

pub returns-in-Multi : goal.returns-in-Multi
returns-in-Multi g c = λ q e.
    let at = rw c.in-Multi.is at e in
    let same : FromSources c.as_slice.result.now ≡ q = ap (λ (ss : List ℕ). FromSources ss) c.as_slice.ensures.value
    ∙ mapped_is of_list c.in-Multi.lists.items c.args.i c.index-in-Multi.result.now q c.index-in-Multi.ensures at in
    rw (← same) c.judge_sources.ensures
