-- Simple walks, which pass no vertex twice, and the list of all of them from one vertex to another.
use Rattle.std.specs.Prelude.{◌↔◌, ℕ, zero, suc, Bool, false, cond, eqb, ◌||◌, List, [], ◌∷◌, ◌++◌, length, map, Contains}
use Rattle.road_graph.specs.GraphData.{GraphData, arc_of}
use Rattle.path_algebra.specs.Walks.{IsWalk}

-- the vertices that the arcs of p pass from u on, beginning with u
abbrev pub vertices_of : GraphData → ℕ → List ℕ → List ℕ
vertices_of g u [] = u ∷ []
vertices_of g u (a ∷ p) = u ∷ vertices_of g (arc_of g a).head p

-- no element occurs twice
abbrev pub AreDistinct : {X : Type 0} → List X → Type 0
AreDistinct [] = Unit {0}
AreDistinct (x ∷ xs) = (Contains xs x → ⊥) × AreDistinct xs

-- a simple walk: p leads from u to v, and passes no vertex twice
abbrev pub IsSimpleWalk : GraphData → ℕ → List ℕ → ℕ → Type 0
IsSimpleWalk g u p v = IsWalk g u p v × AreDistinct (vertices_of g u p)

-- the list has each simple walk from s to v
abbrev pub HasSimpleWalks : GraphData → ℕ → ℕ → List (List ℕ) → Type 0
HasSimpleWalks g s v walks = (p : List ℕ) → IsSimpleWalk g s p v → Contains walks p

-- whether u is among the numbers of a list
abbrev pub is_among : List ℕ → ℕ → Bool
is_among [] u = false
is_among (w ∷ ws) u = eqb w u || is_among ws u

-- each arc out of u among the first m, followed by each of the walks that go on from its head
abbrev pub onward : GraphData → ℕ → (ℕ → List (List ℕ)) → ℕ → List (List ℕ)
onward g u rest zero = []
onward g u rest (suc m) =
    let begun = map (λ p. suc m ∷ p) (rest (arc_of g (suc m)).head) in
    cond (eqb (arc_of g (suc m)).tail u) begun [] ++ onward g u rest m

-- the simple walks from u to v that pass at most n vertices and none of `before`
unfoldable pub walks_beyond : GraphData → ℕ → List ℕ → ℕ → ℕ → List (List ℕ)
walks_beyond g zero before u v = []
walks_beyond g (suc n) before u v =
    let further = onward g u (λ w. walks_beyond g n (u ∷ before) w v) (length g.arcs) in
    cond (is_among before u) [] (cond (eqb u v) ([] ∷ []) further)

-- the simple walks from s to v
abbrev pub simple_walks : GraphData → ℕ → ℕ → List (List ℕ)
simple_walks g s v = walks_beyond g g.vertices [] s v

-- the list has exactly the simple walks from s to v, each once
pub record ListsSimpleWalks (g : GraphData) (s v : ℕ) (walks : List (List ℕ)) : Type 0 where
  pub exact : (p : List ℕ) → Contains walks p ↔ IsSimpleWalk g s p v
  pub once : AreDistinct walks
