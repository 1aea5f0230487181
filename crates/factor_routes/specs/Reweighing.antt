-- Why a graph is not factored over the links of another one.
use Rattle.std.specs.Prelude.{ℕ}
use Rattle.road_graph.specs.GraphData.{GraphData}
use Rattle.path_algebra.specs.Counted.{cost_of, CountsFit}
use Rattle.path_algebra.specs.declared.counted_sums.CountedSums.{CountedSums}
use Rattle.path_factors.specs.State.{FactorState}
use Rattle.path_factors.specs.Reweighing.{IsReason, JoinsNoOthers}
use Rattle.factor_routes.specs.declared.reweighed.Unweighed.{Unweighed}
use Rattle.factor_routes.specs.declared.reweighed.Unweighed.TheVariants.{Memory, Heavy, Unfit, Stopped}

-- g is not factored over the links of f since memory was refused, or a stop set; since no number of low bits
-- leaves room for both the hops and the sums of g; or since the links do not fit, and so g joins
-- vertices that no arc of f joins, or has another number of them
abbrev pub IsCause : {W : Type 0} → Unweighed → GraphData → FactorState CountedSums W → Type 0
IsCause Memory g f = Unit {0}
IsCause Stopped g f = Unit {0}
IsCause Heavy g f = (k : ℕ) → CountsFit g (cost_of f.algebra.cost) k → ⊥
IsCause (Unfit why) g f = IsReason why g f × (JoinsNoOthers g f.roads → ⊥)
