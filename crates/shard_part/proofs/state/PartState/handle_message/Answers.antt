use Rattle.shard_part.proofs.Words.{◌∙◌}
use Rattle.shard_part.proofs.RepaidRuns.{counted_place, message_rests}
use Rattle.shard_part.proofs.state.PartState.handle_message.Goals as goal

pub rest-requires-clause-place : goal.rest-requires-clause-place
rest-requires-clause-place g c = λ κs w. counted_place g.A.PathAlgebra.meaning c.args.self.now c.improve-improved.new.self c.engage_or_answer.new.self
    c.pump_if-repaid.new.self c.args.a c.place-v.result.vertex c.pump_if-repaid.result c.args.value c.improve-improved.result c.improve-improved.ensures.moved
    c.engage_or_answer.ensures c.pump_if-repaid.ensures.owes c.count_repaid.new.self c.place-v.result.at c.count_repaid.ensures c.place-v.ensures.place

pub returns-clause-rests : goal.returns-clause-rests
returns-clause-rests g c = message_rests g.A.PathAlgebra.meaning c.args.self.now c.improve-improved.new.self c.engage_or_answer.new.self
    c.pump_if-repaid.new.self c.args.a c.place-v.result.vertex c.pump_if-repaid.result c.args.value c.improve-improved.result c.improve-improved.ensures.moved
    c.engage_or_answer.ensures c.pump_if-repaid.ensures.owes c.count_repaid.new.self c.rest.new.self _ (c.place-v.ensures.vertex
    ∙ c.head.ensures.head) c.improve-improved.ensures.improved c.count_repaid.ensures c.rest.ensures
