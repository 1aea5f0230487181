use Rattle.post_floor.proofs.Words.{◌∙◌, ap, rules, arith, common_steps}
use Rattle.post_floor.proofs.Called.{has_now, publishing}
use Rattle.post_floor.proofs.exchange.publish_batch.Goals as goal

pub exchange-requires-2 : goal.exchange-requires-2
exchange-requires-2 g c = (c.exchange.ensures.0 ∙ c.requires.at.own, (_, has_now _ _ _ _ c.exchange.new.seat.me c.exchange.ensures.3))

pub publish_word-requires-clause-batch : goal.publish_word-requires-clause-batch
publish_word-requires-clause-batch g c κs within =
    publishing {table = c.args.table.now} c.args.pass.now c.exchange-2.new.seat {b = c.unwrap-batch.result} c.requires.at c.requires.setup c.requires.between
    c.part_holds.ensures.sound c.requires.held (c.exchange-2.ensures.0 ∙ c.exchange.ensures.0)
    c.swap_outbox.ensures.part c.exchange.ensures.2 (search rules) c.swap_outbox.ensures.batch
    (ap (λ z. z.0) c.exchange-2.ensures.3 ∙ ap (λ z. z.0) c.exchange.ensures.3) (has_now _ _ _ _ c.exchange-2.new.seat.me c.exchange-2.ensures.3)

pub returns-clause-part : goal.returns-clause-part
returns-clause-part g c = grind (arith, common_steps)
