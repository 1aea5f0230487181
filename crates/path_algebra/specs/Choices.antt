-- The given algebras in one list: their names, numbers and limits, and what holds under the one
-- that was chosen.
use Rattle.std.specs.Prelude.{◌≡◌, ℕ, ◌≤◌, ◌^◌, Option, Some, None}
use Rattle.path_algebra.specs.Algebra.{Algebra}
use Rattle.path_algebra.specs.Given.{shortest, widest, reach, hops, reliable, within}
use Rattle.path_algebra.specs.declared.name.AlgebraName.{AlgebraName}
use Rattle.path_algebra.specs.declared.name.AlgebraName.TheVariants as names
use Rattle.path_algebra.specs.declared.choice.AlgebraChoice.{AlgebraChoice}
use Rattle.path_algebra.specs.declared.choice.AlgebraChoice.TheVariants.{Shortest, Widest, Reach, Hops, Reliable, Within}
use Rattle.path_algebra.specs.declared.counted_sums.Cost.{Cost}
use Rattle.path_algebra.specs.declared.counted_sums.Cost.TheVariants.{One, Weight}
use Rattle.path_algebra.specs.declared.shortest.Shortest.{Shortest as ShortestAlgebra}
use Rattle.path_algebra.specs.declared.widest.Widest.{Widest as WidestAlgebra}
use Rattle.path_algebra.specs.declared.reach.Reach.{Reach as ReachAlgebra}
use Rattle.path_algebra.specs.declared.hops.Hops.{Hops as HopsAlgebra}
use Rattle.path_algebra.specs.declared.reliable.Reliable.{Reliable as ReliableAlgebra}

-- this is so of the value that is the algebra that was chosen, given what a value of its type means
abbrev pub OfChosen : AlgebraChoice → ((S V : Type 0) → (S → Algebra V) → S → Type 0) → Type 0
OfChosen Shortest P = P ShortestAlgebra _ (λ _. shortest) (record {})
OfChosen Widest P = P WidestAlgebra _ (λ _. widest) (record {})
OfChosen Reach P = P ReachAlgebra _ (λ _. reach) (record {})
OfChosen Hops P = P HopsAlgebra _ (λ _. hops) (record {})
OfChosen Reliable P = P ReliableAlgebra _ (λ _. reliable) (record {})
OfChosen (Within w) P = P _ _ (λ v. within v.limit) w

-- this is so of what the algebra that was chosen means
abbrev pub Under : AlgebraChoice → ((V : Type 0) → Algebra V → Type 0) → Type 0
Under chosen P = OfChosen chosen (λ S V meaning algebra. P V (meaning algebra))

-- what an arc costs by it, if best values are least sums of that
abbrev pub arc_cost_of : AlgebraChoice → Option Cost
arc_cost_of Shortest = Some Weight
arc_cost_of Widest = None
arc_cost_of Reach = None
arc_cost_of Hops = Some One
arc_cost_of Reliable = None
arc_cost_of (Within w) = Some Weight

-- its name
abbrev pub name_of : AlgebraChoice → AlgebraName
name_of Shortest = names.Shortest
name_of Widest = names.Widest
name_of Reach = names.Reach
name_of Hops = names.Hops
name_of Reliable = names.Reliable
name_of (Within w) = names.Within

-- its number, as a caller in C names it
abbrev pub number_of : AlgebraChoice → ℕ
number_of Shortest = 0
number_of Widest = 1
number_of Reach = 2
number_of Hops = 3
number_of Reliable = 4
number_of (Within w) = 5

-- its limit, if it has one
abbrev pub limit_of : AlgebraChoice → Option ℕ
limit_of (Within w) = Some w.limit
limit_of _ = None

-- a limit goes with `within`, which needs one up to 2^63, and with no other algebra; none of a
-- caller's own is given
abbrev pub GoTogether : AlgebraName → Option ℕ → Type 0
GoTogether names.Within None = ⊥
GoTogether names.Within (Some limit) = limit ≤ 2 ^ 63
GoTogether names.Own limit = ⊥
GoTogether _ limit = limit ≡ None

-- the word is no algebra's name, or the limit does not go with that algebra
abbrev pub CannotBe : Option AlgebraName → Option ℕ → Type 0
CannotBe None limit = Unit {0}
CannotBe (Some name) limit = GoTogether name limit → ⊥

-- this is its limit, if it has one
abbrev pub HasLimit : AlgebraChoice → ℕ → Type 0
HasLimit (Within w) limit = w.limit ≡ limit
HasLimit _ limit = Unit {0}

-- the number names this algebra, with the limit if it has one
abbrev pub IsNumbered : ℕ → ℕ → AlgebraChoice → Type 0
IsNumbered number limit chosen = (number_of chosen ≡ number) × HasLimit chosen limit

-- the number names an algebra
abbrev pub IsAlgebra : ℕ → ℕ → Type 0
IsAlgebra number limit = (chosen : AlgebraChoice) × IsNumbered number limit chosen

-- this is so of the algebra that the number names, if it names one
abbrev pub OfAlgebra : ℕ → ℕ → ((V : Type 0) → Algebra V → Type 0) → Type 0
OfAlgebra number limit P = (chosen : AlgebraChoice) → IsNumbered number limit chosen → Under chosen P
