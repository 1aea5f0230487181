use Rattle.shard_part.proofs.Offers.{rested_then, rested_busy}
use Rattle.shard_part.proofs.Words.{◌≡◌, ℕ, Option, sym, ap, subst, ◌∙◌, arith, network_of, place_in, IsArc, IsClear}
use Rattle.std.specs.Prelude.{is_some, IfSome}
use Rattle.shard_part.proofs.state.PartState.rest.Goals as goal

pub release-requires-clause-engaged : goal.release-requires-clause-engaged
release-requires-clause-engaged g c = λ κs w. ap is_some (sym c.engager_at.ensures ∙ c.in-Some.is)

pub signal-requires-clause-arc : goal.signal-requires-clause-arc
signal-requires-clause-arc g c = λ κs w. subst (λ (o : Option ℕ). IfSome o (λ e. IsArc (network_of c.release.new.self.setup) e)) (sym c.engager_at.ensures ∙ c.in-Some.is) c.release.ensures.arc

pub signal-requires-clause-made : goal.signal-requires-clause-made
signal-requires-clause-made g c = λ κs w. subst (λ (o : Option ℕ). IfSome o
    (λ e. place_in c.release.new.self.setup ((network_of c.release.new.self.setup).head e) ≡ c.release.new.self.shard)) (sym c.engager_at.ensures
    ∙ c.in-Some.is) c.release.ensures.made

pub signal-requires-clause-clear : goal.signal-requires-clause-clear
signal-requires-clause-clear g c = λ κs w. subst (λ (o : Option ℕ). IfSome o (λ e. IsClear c.release.new.self e)) (sym c.engager_at.ensures ∙ c.in-Some.is) c.release.ensures.clear

pub returns-then-deficit_at-eq0 : goal.returns-then-deficit_at-eq0
returns-then-deficit_at-eq0 g c = rested_then (g.A.PathAlgebra.meaning c.args.self.now.setup.diffusion.algebra) c.args.self.now c.release.new.self
    c.signal.new.self c.args.v.vertex c.deficit_at.result c.in-Some.e (sym c.engager_at.ensures ∙ c.in-Some.is) c.deficit_at.ensures
    (omega arith) c.release.ensures.moved c.signal.ensures

pub returns-else-deficit_at-eq0 : goal.returns-else-deficit_at-eq0
returns-else-deficit_at-eq0 g c = rested_busy (g.A.PathAlgebra.meaning c.args.self.now.setup.diffusion.algebra) c.args.self.now c.args.v.vertex
    c.deficit_at.result c.in-Some.e (sym c.engager_at.ensures ∙ c.in-Some.is) c.deficit_at.ensures (λ z. absurd (omega (arith, z)))
