-- A graph that is factored once more, or for each cost for which another one is.
use Rattle.answer_lists.proofs.Words.{◌≡◌, Bool, true, false, refl, ap, GraphData, Cost}
use Rattle.path_algebra.specs.declared.counted_sums.Cost.TheVariants.{Weight, One}
use Rattle.answer_lists.specs.Sharing.{Shared, factored_as, factored_for, is_factored, reweighed, unfactored}

-- it is the same if it was factored for this cost
pub factored_again : (s : Shared) (cost : Cost) → is_factored s cost ≡ true → s ≡ factored_for s cost
factored_again s Weight is = ap (λ (b : Bool). record { roads = s.roads; by_weights = b; by_arcs = s.by_arcs }) is
factored_again s One is = ap (λ (b : Bool). record { roads = s.roads; by_weights = s.by_weights; by_arcs = b }) is

each_cost : (h g : GraphData) (w a : Bool) → let first : Shared = record { roads = h; by_weights = w; by_arcs = a } in
    factored_as first (factored_as first (unfactored g) Weight) One ≡ reweighed first g
each_cost h g true true = refl
each_cost h g true false = refl
each_cost h g false true = refl
each_cost h g false false = refl

-- for each cost in turn, it is factored as the first is
pub as_first : (first : Shared) (g : GraphData) → factored_as first (factored_as first (unfactored g) Weight) One ≡ reweighed first g
as_first first g = each_cost first.roads g first.by_weights first.by_arcs
