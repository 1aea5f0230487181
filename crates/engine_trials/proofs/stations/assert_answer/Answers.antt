use Rattle.engine_trials.proofs.Words.{sym, ◌∙◌, BelongsTo}
use Rattle.std.proofs.lemmas.List.Elements.{All-weaker}
use Rattle.engine_trials.proofs.stations.assert_answer.Goals as goal

pub turn_all-requires-after_bounds : goal.turn_all-requires-after_bounds
turn_all-requires-after_bounds g c κs within =
    let h = c.held_back-floor.ensures in
    All-weaker (BelongsTo c.opened-floor.result.0) (BelongsTo c.held_back-floor.result) (λ s b. record { floor = b.floor ∙ sym h.id; setup = b.setup ∙ sym h.setup })
    c.opened-floor.result.1.items c.opened-floor.ensures
