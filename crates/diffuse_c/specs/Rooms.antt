-- Which places of the lists that a caller lends are written, as the status says.
use Rattle.std.specs.Prelude.{◌≡◌, ℕ, ◌+◌, ◌<◌, ◌≤◌, ◌⊎◌, List, length, drop, ℤ, pos}
use Rattle.answer_lists.specs.Answers.{IsFound}
use Rattle.answer_lists.specs.Near.{AreLongOrNone, IsSameAfter}

-- the first n places of a room are written, if there are so many, and else none
pub record FillsRoom {A : Type 0} (n : ℕ) (old new : List A) (status : ℤ) : Type 0 where
  pub short : status ≡ pos 2 → length old < n
  pub long : status ≡ pos 0 → n ≤ length old
  pub kept : (status ≡ pos 0 → ⊥) → new ≡ old
  pub rest : status ≡ pos 0 → drop n new ≡ drop n old

-- the places of a caller for a route and its arcs, as they are at one moment
pub record RoutePlaces : Type 0 where
  pub code : ℕ
  pub hops : ℕ
  pub vertices : List ℕ
  pub arcs : List ℕ

abbrev pub route_places : ℕ → ℕ → List ℕ → List ℕ → RoutePlaces
route_places code hops vertices arcs = record { code = code; hops = hops; vertices = vertices; arcs = arcs }

-- the first hops + 1 of the vertices and the first hops of the arcs are written, if there are so
-- many of both, and else none; code and hops, if there is a route
pub record FillsRouteArcs (old new : RoutePlaces) (status : ℤ) : Type 0 where
  pub short : status ≡ pos 2 → (length old.vertices < new.hops + 1) ⊎ (length old.arcs < new.hops)
  pub long : status ≡ pos 0 → (new.hops + 1 ≤ length old.vertices) × (new.hops ≤ length old.arcs)
  pub kept : (status ≡ pos 0 → ⊥) → (new.vertices ≡ old.vertices) × (new.arcs ≡ old.arcs)
  pub rest : status ≡ pos 0 → (drop (new.hops + 1) new.vertices ≡ drop (new.hops + 1) old.vertices) × (drop new.hops new.arcs ≡ drop new.hops old.arcs)
  pub answer : (IsFound status → ⊥) → (new.code ≡ old.code) × (new.hops ≡ old.hops)

-- the places of a caller for the vertices that are reached, as they are at one moment
pub record NearPlaces : Type 0 where
  pub vertices : List ℕ
  pub codes : List ℕ
  pub hops : List ℕ
  pub parents : List ℕ
  pub count : ℕ

abbrev pub near_places : List ℕ → List ℕ → List ℕ → List ℕ → ℕ → NearPlaces
near_places vertices codes hops parents count = record { vertices = vertices; codes = codes; hops = hops; parents = parents; count = count }

-- of each list the first places are written, if all lists are long enough, and else none; and the
-- count, if there is one
pub record FillsNear (old new : NearPlaces) (status : ℤ) : Type 0 where
  pub short : status ≡ pos 2 → AreLongOrNone new.count old.vertices old.codes old.hops old.parents → ⊥
  pub long : status ≡ pos 0 → AreLongOrNone new.count old.vertices old.codes old.hops old.parents
  pub kept : (status ≡ pos 0 → ⊥) → (new.vertices ≡ old.vertices) × (new.codes ≡ old.codes) × (new.hops ≡ old.hops) × (new.parents ≡ old.parents)
  pub rest : status ≡ pos 0 → IsSameAfter new.count old.vertices new.vertices × IsSameAfter new.count old.codes new.codes
      × IsSameAfter new.count old.hops new.hops × IsSameAfter new.count old.parents new.parents
  pub place : (IsFound status → ⊥) → new.count ≡ old.count
