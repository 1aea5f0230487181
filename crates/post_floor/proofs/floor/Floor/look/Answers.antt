use Rattle.post_floor.proofs.Words.{refl, ℕ, arith, inl, inr, cases_eq, common_steps, done_now}
use Rattle.post_floor.proofs.Seated.{seated, still, placed}
use Rattle.post_floor.proofs.floor.Floor.look.Goals as goal

pub look_word-requires-clause-step : goal.look_word-requires-clause-step
look_word-requires-clause-step g c κs within = record { told = refl; at = (seated c.self.view_is c.seat.view_is c.self.invariant c.seat.invariant c.requires.at).at }

pub returns-clause-at : goal.returns-clause-at
returns-clause-at g c =
    let z = seated c.self.view_is c.seat.view_is c.self.invariant c.seat.invariant c.requires.at in
    let r : ℕ = c.look_word.result in let t = c.look_word.ensures.told in elim (cases_eq r done_now) [
      | inl e ↦ placed z c.look_word.ensures.pass.0 z.setup (t.0 e).0
      | inr ne ↦ placed z c.look_word.ensures.pass.0 z.setup (t.1 ne).0
    ]

pub invariant_of-seat : goal.invariant_of-seat
invariant_of-seat g c =
    let z = seated c.self.view_is c.seat.view_is c.self.invariant c.seat.invariant c.requires.at in
    let r : ℕ = c.look_word.result in let t = c.look_word.ensures.told in elim (cases_eq r done_now) [
      | inl e ↦ still z z.setup z.shard (t.0 e).0 refl refl refl refl t.2
      | inr ne ↦ still z z.setup z.shard (t.1 ne).0 refl refl refl refl t.2
    ]

pub returns-clause-told : goal.returns-clause-told
returns-clause-told g c = grind (arith, common_steps)
