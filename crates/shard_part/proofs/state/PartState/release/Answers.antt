use Rattle.shard_part.proofs.Words.{◌≡◌, ℕ, Option, Some, None, refl, ap, IsSome, IfSome, state_in, VertexAt}
use Rattle.shard_part.proofs.Moves.{release_keeps, engager_leaves}
use Rattle.shard_part.proofs.state.PartState.release.Goals as goal

engaged : (o : Option ℕ) (P : Type 0) → IsSome o → ((e : ℕ) → o ≡ Some e → P) → P
engaged None P h f = cc
engaged (Some e) P h f = f e refl

of_engager : (o : Option ℕ) (P : ℕ → Type 0) → ((e : ℕ) → o ≡ Some e → P e) → IfSome o P
of_engager None P f = tt
of_engager (Some e) P f = f e refl

pub invariant_of-self : goal.invariant_of-self
invariant_of-self g c = rw (c.set_engager.ensures, ap (λ (w : VertexAt). w.at) c.v.view_is)
    (engaged ((state_in c.args.self.now).engager c.args.v.vertex) _ c.requires.engaged
    (λ e q. (release_keeps _ c.args.self.now _ _ _ c.args.v.vertex c.args.v.at e c.self.view_is c.self.invariant c.requires.place c.requires.vertex
    q).0))

pub returns-clause-moved : goal.returns-clause-moved
returns-clause-moved g c = rw (c.set_engager.ensures, ap (λ (w : VertexAt). w.at) c.v.view_is)
    (engager_leaves _ c.args.self.now _ _ _ c.args.v.vertex c.args.v.at None c.self.view_is c.self.invariant c.requires.place)

pub returns-clause-clear : goal.returns-clause-clear
returns-clause-clear g c = rw (c.set_engager.ensures, ap (λ (w : VertexAt). w.at) c.v.view_is)
    (of_engager ((state_in c.args.self.now).engager c.args.v.vertex) _
    (λ e q. (release_keeps _ c.args.self.now _ _ _ c.args.v.vertex c.args.v.at e c.self.view_is c.self.invariant c.requires.place c.requires.vertex
    q).1))

pub returns-clause-arc : goal.returns-clause-arc
returns-clause-arc g c = of_engager ((state_in c.args.self.now).engager c.args.v.vertex) _
    (λ e q. (release_keeps _ c.args.self.now _ _ _ c.args.v.vertex c.args.v.at e c.self.view_is c.self.invariant c.requires.place c.requires.vertex
    q).2)

pub returns-clause-made : goal.returns-clause-made
returns-clause-made g c = of_engager ((state_in c.args.self.now).engager c.args.v.vertex) _
    (λ e q. (release_keeps _ c.args.self.now _ _ _ c.args.v.vertex c.args.v.at e c.self.view_is c.self.invariant c.requires.place c.requires.vertex
    q).3)
