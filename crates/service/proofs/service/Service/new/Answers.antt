use Rattle.service.proofs.ServiceLaws.{fresh}
use Rattle.service.proofs.Words.{refl, ◌∙◌, ap, parser_state}
use Rattle.service.proofs.service.Service.new.Goals as goal

pub returns-clause-taken : goal.returns-clause-taken
returns-clause-taken c = fresh _ (ap parser_state c.new-2.ensures.taker ∙ c.new.ensures.state) refl refl (c.new-2.ensures.present c.new.ensures.ready)
