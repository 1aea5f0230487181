use Rattle.std.proofs.Common.{ap, sym, ◌∙◌}
use Rattle.post_floor.proofs.close.pass_of.Goals as goal

pub returns-clause-part : goal.returns-clause-part
returns-clause-part g c = let inv = c.seat.invariant in (inv.part, ap (λ d. d.knows.parts) (sym c.seat.view_is) ∙ inv.parts, inv.shard ∙ ap (λ d. d.shard) c.seat.view_is)
