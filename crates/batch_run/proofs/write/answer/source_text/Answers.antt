use Rattle.batch_run.proofs.Words.{◌∙◌, ℕ, List, Some, ap, sym, FromSource}
use Rattle.batch_run.proofs.Ahead.{text_written}
use Rattle.batch_run.proofs.write.answer.source_text.Goals as goal

pub returns-in-Ok-answer_source : goal.returns-in-Ok-answer_source
returns-in-Ok-answer_source g c = λ roads count best branches.
    text_written (g.A.PathAlgebra.meaning c.args.algebra) roads (FromSource c.args.source) _ _ _ _ (ap (λ v. Some v.items) c.new-out.ensures.inner ∙ ap (λ (l : List ℕ). Some l) c.in-Ok.ensures.items)
    (ap (λ v. Some v.items) (sym c.into_inner.ensures)) c.in-Ok-answer_source.is (c.answer_source.ensures roads count best branches)
