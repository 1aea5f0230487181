use Rattle.scholten_core.proofs.Words.{refl, network_of}
use Rattle.scholten_core.proofs.Written.{free_leaves}
use Rattle.scholten_core.proofs.Sized.{freed_sized, freed_least, busy_seen, tail_seen, vertex_seen}
use Rattle.scholten_core.proofs.core_tables.CoreTables.free.Goals as goal

pub overflow_sub-index_mut : goal.overflow_sub-index_mut
overflow_sub-index_mut g c =
    freed_least _ c.args.a c.args.v _ _ c.self.invariant c.v.view_is (tail_seen _ _ c.args.a c.args.v c.self.view_is c.requires.tail) (vertex_seen _ _ c.args.v c.self.view_is c.requires.within)
    (busy_seen _ _ c.args.a c.self.view_is c.requires.busy) c.index_mut-2.ensures.value

pub invariant_of-self : goal.invariant_of-self
invariant_of-self g c =
    freed_sized _ c.args.a _ c.args.v _ _ _ c.self.invariant c.a.view_is c.v.view_is (tail_seen _ _ c.args.a c.args.v c.self.view_is c.requires.tail)
    (vertex_seen _ _ c.args.v c.self.view_is c.requires.within)
    (busy_seen _ _ c.args.a c.self.view_is c.requires.busy) c.index_mut-2.ensures.value refl

pub returns-clause-state : goal.returns-clause-state
returns-clause-state g c = free_leaves (g.A.PathAlgebra.meaning c.args.self.now.diffusion.algebra) (network_of c.args.self.now) _ _ c.args.a _ c.self.view_is c.a.view_is c.requires.busy
