use Rattle.shard_part.proofs.Words.{◌≡◌, ◌≤◌, take, offered_all, OwesMany}
use Rattle.shard_part.proofs.state.PartState.pump.Given as goal

abbrev pub invariant-loop-k : goal.invariant-loop-k
invariant-loop-k g l = let A = g.A.PathAlgebra.meaning l.initial.self.setup.diffusion.algebra in
    (l.self.setup ≡ l.initial.self.setup) × (l.self.shard ≡ l.initial.self.shard)
    × OwesMany A l.v.vertex l.noted (offered_all A l.v.vertex (take l.k l.outgoing) l.initial.self) l.self × (l.noted ≤ l.most)
