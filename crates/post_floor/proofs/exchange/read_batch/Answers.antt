use Rattle.post_floor.proofs.Words.{◌≡◌, ◌∷◌, ◌∙◌, ap, refl, sym, subst, arith, joined, empty_slot, StepsTo, HoldsReachedShare, at_word, begin_read, common_steps}
use Rattle.post_floor.proofs.Called.{first_is, has_now}
use Rattle.post_floor.proofs.exchange.read_batch.Goals as goal

pub read_word-requires-clause-step : goal.read_word-requires-clause-step
read_word-requires-clause-step g c κs within = record { told = refl; at = c.requires.at }

pub exchange-requires : goal.exchange-requires
exchange-requires g c = let t = c.read_word.ensures.told.0 c.if-read_word-ne-FULL.false in (c.read_word.ensures.pass.0 ∙ c.requires.at.own, (_, first_is _ _ _ t.2))

pub exchange-requires-2 : goal.exchange-requires-2
exchange-requires-2 g c = (c.exchange.ensures.0 ∙ c.read_word.ensures.pass.0 ∙ c.requires.at.own, (_, has_now _ _ _ _ c.exchange.new.seat.me c.exchange.ensures.3))

pub returns-clause-told : goal.returns-clause-told
returns-clause-told g c =
    let t = c.read_word.ensures.told.0 c.if-read_word-ne-FULL.false in
    let q : c.receive.new.self ≡ joined c.args.part.now t.0 = grind (arith, common_steps) in
    let view : c.exchange-2.new.seat.me.0 ≡ c.read_word.new.pass.me.0 = ap (λ z. z.0) c.exchange-2.ensures.3 ∙ ap (λ z. z.0) c.exchange.ensures.3 in
    let slot : c.exchange-2.new.seat.me.1 ≡ (c.args.word, empty_slot c.receive.new.self.setup c.args.word) ∷ c.args.pass.now.me.1 = grind (arith, common_steps) in
    let u = at_word c.args.word 2 (begin_read c.args.word c.args.pass.now.me.0) in
    let went = subst (λ z. StepsTo u z c.exchange-2.new.seat.me.0) (sym q) (subst (λ z. StepsTo u (joined c.args.part.now t.0) z) (sym view) t.1) in
    (((t.0, q), went, subst (HoldsReachedShare g.A.PathAlgebra.meaning) (sym q) t.5), slot, t.4)
