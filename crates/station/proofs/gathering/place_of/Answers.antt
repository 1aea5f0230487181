use Rattle.station.proofs.Words.{◌≡◌, ◌≢◌, sym, ◌∙◌, arith, false≢true}
use Rattle.std.proofs.lemmas.List.Elements.{AllWithin-more, at_read}
use Rattle.station.proofs.gathering.place_of.Goals as goal

pub returns-then-is_of : goal.returns-then-is_of
returns-then-is_of g c =
    (omega arith, at_read c.args.stations.now (λ s. s.part.shard ≡ c.args.shard) c.loop-k.k c.index-stations-k.result (omega arith) c.index-stations-k.is (c.is_of.ensures.0 c.if-is_of.true))

pub loop-k-preserved : goal.loop-k-preserved
loop-k-preserved g c =
    AllWithin-more (λ s. s.part.shard ≢ c.args.shard) c.args.stations.now 0 c.loop-k.k c.loop-k.invariant
    (at_read c.args.stations.now (λ s. s.part.shard ≢ c.args.shard) c.loop-k.k c.index-stations-k.result (omega arith) c.index-stations-k.is
    (λ e. false≢true (sym c.if-is_of.false ∙ c.is_of.ensures.1 e)))

pub returns : goal.returns
returns g c = λ k d low. c.loop-k.invariant k d (omega arith) (omega arith)
