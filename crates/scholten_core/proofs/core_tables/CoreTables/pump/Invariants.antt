use Rattle.scholten_core.proofs.Words.{◌≡◌, network_of, state_of}
use Rattle.scholten_core.proofs.Offered.{Offered}
use Rattle.scholten_core.proofs.core_tables.CoreTables.pump.Given as goal

abbrev pub invariant-loop-b : goal.invariant-loop-b
invariant-loop-b g l = record {
  same : l.self.diffusion ≡ l.initial.self.diffusion;
  offered : Offered (g.A.PathAlgebra.meaning l.initial.self.diffusion.algebra) (network_of l.initial.self) l.v l.outgoing l.b-index (state_of l.initial.self) (state_of l.self);
}
