use Rattle.std.proofs.Common.{◌<◌, ◌^◌, sym, ◌∙◌, subst, arith}
use Rattle.std.specs.Prelude.{IsTrue}
use Rattle.post_floor.proofs.hints.limit_after.Goals as goal

pub returns-in-Some-clause-order : goal.returns-in-Some-clause-order
returns-in-Some-clause-order g c =
    let low : c.args.ahead < 2 ^ 32 = omega arith in
    subst (λ f. IsTrue (f c.args.best c.in-Some.value)) c.laws_hold.ensures.order
    (c.laws_hold.ensures.lawful.never_better c.args.best c.args.ahead c.in-Some.value c.requires low (sym c.extend.ensures ∙ c.in-Some.is))
