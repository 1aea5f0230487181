-- What is found of a pair: the best value, the least hops and the route along least parents.
use Rattle.std.specs.Prelude.{◌≡◌, ℕ, List, [], ◌∷◌, Option, Some, None, MatchOption, option_map, ⊤}
use Rattle.road_graph.specs.GraphData.{GraphData}
use Rattle.path_algebra.specs.Algebra.{Algebra}
use Rattle.path_algebra.specs.Walks.{IsBestCode, IsUnreached, AreHops, IsParentChain}
use Rattle.route_tree.specs.Tree.{Branches, IsRoute, hops_of}
use Rattle.route_tree.specs.declared.found.Found.{Found}
use Rattle.route_tree.specs.declared.found.Nearby.{Nearby}
use Rattle.route_tree.specs.declared.found.Nearby.TheVariants.{Decided, Undecided}

-- what is found of a pair that a walk joins
pub record FoundData : Type 0 where
  pub code : ℕ
  pub hops : ℕ
  pub route : List ℕ

-- what was found, as plain data
abbrev pub found_of : Found → FoundData
found_of f = record { code = f.code; hops = f.hops; route = f.route.items }

-- the list from s to t in which each vertex is the parent of the next
abbrev pub IsRouteBetween : {V : Type 0} → Algebra V → GraphData → ℕ → ℕ → List ℕ → Type 0
IsRouteBetween A g s t route = (rest : List ℕ) × (route ≡ s ∷ rest) × IsParentChain A g (s ∷ []) s rest t

-- the best value, the least hops and the route from s to t
pub record IsFoundBetween {V : Type 0} (A : Algebra V) (g : GraphData) (s t : ℕ) (f : FoundData) : Type 0 where
  pub code : IsBestCode A g (s ∷ []) t f.code
  pub hops : AreHops A g (s ∷ []) t f.hops
  pub route : IsRouteBetween A g s t f.route

-- the answer for a pair: nothing exactly if no walk from s to t has a value
abbrev pub IsPairAnswer : {V : Type 0} → Algebra V → GraphData → ℕ → ℕ → Option FoundData → Type 0
IsPairAnswer A g s t None = IsUnreached A g (s ∷ []) t
IsPairAnswer A g s t (Some f) = IsFoundBetween A g s t f

-- what is found of a pair is its answer
abbrev pub IsPairFound : {V : Type 0} → Algebra V → GraphData → ℕ → ℕ → Option Found → Type 0
IsPairFound A g s t found = IsPairAnswer A g s t (option_map found_of found)

-- a search that gives up early has the answer of the pair if it decides it; of an undecided pair it
-- says nothing
abbrev pub IsFoundIfNear : {V : Type 0} → Algebra V → GraphData → ℕ → ℕ → Nearby → Type 0
IsFoundIfNear A g s t (Decided found) = IsPairFound A g s t found
IsFoundIfNear A g s t Undecided = ⊤

-- what a tree shows of v, whose best value has this code: its hops and the route to it, or nothing
-- if it has no hops
abbrev pub IsFoundIn : Branches → ℕ → ℕ → Option Found → Type 0
IsFoundIn t code v found = MatchOption found (hops_of t v ≡ None)
    (λ f. (f.code ≡ code) × (hops_of t v ≡ Some f.hops) × IsRoute t v f.route.items)
