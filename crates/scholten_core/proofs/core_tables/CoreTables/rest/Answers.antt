use Rattle.scholten_core.proofs.Words.{rules, ap, ◌∙◌, sym, refl, eq-eqb, ne_eqb, arith, length-set, network_of, state_of, is_idle}
use Rattle.scholten_core.proofs.Written.{rest_leaves, busy_leaves}
use Rattle.scholten_core.proofs.Sized.{still_sized, busy_seen, engager_place, held_place}
use Rattle.scholten_core.proofs.Quick.{out_idle_counted}
use Rattle.scholten_core.proofs.core_tables.CoreTables.rest.Goals as goal

pub index_mut-requires : goal.index_mut-requires
index_mut-requires g c =
    let h = held_place _ _ c.in-Some.e c.e.inside.0 c.self.view_is c.e.view_is (c.requires.held c.in-Some.e (sym c.in-Some.ensures)) in
    let ok = c.self.inside.tokens.ok in search rules

pub invariant_of-self : goal.invariant_of-self
invariant_of-self g c =
    still_sized _ _ _ _ c.in-Some.e _ _ c.self.invariant c.e.view_is
    (busy_seen _ _ c.in-Some.e c.self.view_is (ap is_idle (c.requires.held c.in-Some.e (sym c.in-Some.ensures)))) refl refl
    (length-set _ _ _) refl

pub returns-then-deficit-eq0-clause-state : goal.returns-then-deficit-eq0-clause-state
returns-then-deficit-eq0-clause-state g c =
    rest_leaves (g.A.PathAlgebra.meaning c.args.self.now.diffusion.algebra) (network_of c.args.self.now) _ _ c.args.v c.in-Some.e _ _ c.self.view_is c.e.view_is c.v.view_is
    (engager_place _ _ c.args.v c.self.view_is c.self.invariant c.requires.within) (sym c.in-Some.ensures) (ap is_idle (c.requires.held c.in-Some.e (sym c.in-Some.ensures)))
    (out_idle_counted (g.A.PathAlgebra.meaning c.args.self.now.diffusion.algebra) (network_of c.args.self.now) c.args.v (state_of c.args.self.now)
    ∙ eq-eqb _ 0 (let z = c.if-deficit-eq0.true in let d = c.deficit.ensures in omega (arith, z, d)))

pub returns-else-deficit-eq0-clause-state : goal.returns-else-deficit-eq0-clause-state
returns-else-deficit-eq0-clause-state g c =
    busy_leaves (g.A.PathAlgebra.meaning c.args.self.now.diffusion.algebra) (network_of c.args.self.now) c.args.v (state_of c.args.self.now)
    (out_idle_counted (g.A.PathAlgebra.meaning c.args.self.now.diffusion.algebra) (network_of c.args.self.now) c.args.v (state_of c.args.self.now)
    ∙ ne_eqb _ 0 (λ q. let z = c.if-deficit-eq0.false in let d = c.deficit.ensures in omega (arith, z, d, q)))
