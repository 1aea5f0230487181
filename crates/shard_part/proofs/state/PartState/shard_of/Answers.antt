use Rattle.std.proofs.Common.{arith, ◌≡◌, ◌≤◌, ◌∙◌, ◌⊎◌, inl, inr}
use Rattle.shard_part.proofs.Graphs.{shard_is}
use Rattle.shard_part.proofs.state.PartState.shard_of.Goals as goal
use Rattle.shard_part.proofs.state.PartState.shard_of.Goals.{then-v-eq0, else-v-eq0}

pub returns : goal.returns
returns g c =
    let stands : ((c.args.v ≡ 0) × (c.if-v-eq0.stands ≡ c.self.inside.source)) ⊎ ((1 ≤ c.args.v) × (c.if-v-eq0.stands ≡ c.args.v)) = elim c.if-v-eq0.branch [
      | then-v-eq0 w ↦ inl ((let z : c.args.v ≡ 0 = omega arith in z), w.stands-is)
      | else-v-eq0 w ↦ inr ((let z : 1 ≤ c.args.v = omega arith in z), w.stands-is)
    ] in
    c.shard_of.ensures.shard ∙ shard_is _ c.args.self.now _ _ _ c.args.v c.if-v-eq0.stands c.self.view_is c.self.invariant stands
