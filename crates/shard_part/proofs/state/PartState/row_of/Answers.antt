use Rattle.shard_part.proofs.Words.{◌<◌, length, get_or, sym, ap, subst, ◌∙◌, network_of, outgoing, IsArcRow}
use Rattle.shard_part.proofs.state.PartState.row_of.Goals as goal

pub row-requires-clause-arc : goal.row-requires-clause-arc
row-requires-clause-arc g c = λ κs w. subst (λ v. c.rank_of-k.result < length (outgoing (network_of c.args.self.now.setup) v)) c.requires.tail c.rank_of-k.ensures.inside

pub returns-clause-row : goal.returns-clause-row
returns-clause-row g c = subst (λ b. IsArcRow c.args.self.now b c.row.result)
    (ap (λ v. get_or (outgoing (network_of c.args.self.now.setup) v) c.rank_of-k.result 0) (sym c.requires.tail)
    ∙ c.rank_of-k.ensures.arc) c.row.ensures
