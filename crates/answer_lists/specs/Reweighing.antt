-- Why a graph is not factored over the links of another one.
use Rattle.std.specs.Prelude.{◌≡◌, ℕ, [], ◌∷◌, ℤ, pos, true}
use Rattle.road_graph.specs.GraphData.{GraphData}
use Rattle.path_algebra.specs.Counted.{cost_of, CountsFit}
use Rattle.path_algebra.specs.declared.counted_sums.Cost.{Cost}
use Rattle.path_factors.specs.Reweighing.{JoinsNoOthers}
use Rattle.answer_lists.specs.Answers.{IsOneOf}
use Rattle.answer_lists.specs.Sharing.{Shared, is_factored}

-- for a cost for which the first is factored, no number of low bits for the hops leaves room for
-- the sums of this graph
abbrev pub IsHeavy : Shared → GraphData → Type 0
IsHeavy first g = (cost : Cost) × (is_factored first cost ≡ true) × ((k : ℕ) → CountsFit g (cost_of cost) k → ⊥)

-- the status says why g is not factored over the links of the first: out of memory, sums that do
-- not fit, an arc with no link, or a stop; there is no link only if g joins vertices that no arc of
-- the first joins
pub record IsRefusal (g : GraphData) (first : Shared) (status : ℤ) : Type 0 where
  pub one_of : IsOneOf (3 ∷ 8 ∷ 44 ∷ 45 ∷ []) status
  pub heavy : status ≡ pos 8 → IsHeavy first g
  pub link : status ≡ pos 44 → JoinsNoOthers g first.roads → ⊥
