-- Best values by substitution in a factor: forward, from lesser to greater places, and back. Labels
-- are by place here.
use Rattle.std.specs.Prelude.{◌≡◌, ℕ, ◌<◌, ◌≤◌, ◌⊎◌, List, [], ◌∷◌, length, Contains, Option, Some, None, slice_set}
use Rattle.road_graph.specs.GraphData.{GraphData}
use Rattle.path_algebra.specs.Algebra.{Algebra}
use Rattle.path_algebra.specs.Composition.{Composition, applied}
use Rattle.path_algebra.specs.Walks.{IsWalkValue, better_label}
use Rattle.path_factors.specs.declared.link.Link.{Link}
use Rattle.path_factors.specs.Factors.{FactorData, Rises, Falls, vertex_at, place_of}
pub use Rattle.path_factors.specs.Factors.{at, HasNoWorse, Passes}

-- the labels after x, extended by a link, was offered to the link's place, or refused
abbrev pub offered_link : {V W : Type 0} → Algebra V → Composition V W → V → List (Option V) → Link W → List (Option V)
offered_link A C x labels k =
    slice_set labels k.place (better_label A.no_worse (at labels k.place) (C.apply x k.walk))

-- the labels after x was extended by each link of a row
abbrev pub offered_along : {V W : Type 0} → Algebra V → Composition V W → V → List (Option V) → List (Link W) → List (Option V)
offered_along A C x labels [] = labels
offered_along A C x labels (k ∷ row) = offered_along A C x (offered_link A C x labels k) row

-- the same from a label, if there is one
abbrev pub offered_from : {V W : Type 0} → Algebra V → Composition V W → Option V → List (Option V) → List (Link W) → List (Option V)
offered_from A C None labels row = labels
offered_from A C (Some x) labels row = offered_along A C x labels row

-- the best of a label and of what each link of a row makes of the label at its place
abbrev pub best_along : {V W : Type 0} → Algebra V → Composition V W → List (Option V) → Option V → List (Link W) → Option V
best_along A C labels l [] = l
best_along A C labels l (k ∷ row) =
    best_along A C labels (better_label A.no_worse l (applied C (at labels k.place) k.walk)) row

-- z is what some link into place i from a greater one makes of the label there
pub record ComesFromAbove {V W : Type 0} (C : Composition V W) (F : FactorData W) (labels : List (Option V)) (i : ℕ) (z : V) : Type 0 where
  pub place : ℕ
  pub walk : W
  pub falls : Falls F place i walk
  pub value : V
  pub label : at labels place ≡ Some value
  pub extends : C.apply value walk ≡ Some z

-- labels after forward substitution: values of walks, the origin or better at the sources, and no
-- link to a greater place improves one
pub record IsForward {V W : Type 0} (A : Algebra V) (C : Composition V W) (g : GraphData) (F : FactorData W)
    (sources : List ℕ) (labels : List (Option V)) : Type 0 where
  pub count : length labels ≡ g.vertices
  pub values : (i : ℕ) (x : V) → i < g.vertices → at labels i ≡ Some x → IsWalkValue A g sources (vertex_at F i) x
  pub at_sources : (s : ℕ) → Contains sources s → HasNoWorse A (at labels (place_of F s)) A.origin
  pub up : (x y : ℕ) (a : W) → Rises F x y a → Passes A C (at labels x) a (at labels y)

-- label l at place i is the best of the label before and of what the links from greater places
-- bring
pub record IsBestDown {V W : Type 0} (A : Algebra V) (C : Composition V W) (F : FactorData W)
    (before : Option V) (labels : List (Option V)) (i : ℕ) (l : Option V) : Type 0 where
  pub kept : (x : V) → before ≡ Some x → HasNoWorse A l x
  pub down : (x : ℕ) (a : W) → Falls F x i a → Passes A C (at labels x) a l
  pub given : (z : V) → l ≡ Some z → (before ≡ Some z) ⊎ ComesFromAbove C F labels i z

-- labels after back substitution of these
pub record IsBackward {V W : Type 0} (A : Algebra V) (C : Composition V W) (g : GraphData) (F : FactorData W)
    (before labels : List (Option V)) : Type 0 where
  pub count : length labels ≡ g.vertices
  pub best : (i : ℕ) → i < g.vertices → IsBestDown A C F (at before i) labels i (at labels i)

-- labels after both
abbrev pub AreSubstituted : {V W : Type 0} → Algebra V → Composition V W → GraphData → FactorData W → List ℕ →
    List (Option V) → Type 0
AreSubstituted {V} A C g F sources labels =
    (before : List (Option V)) × IsForward A C g F sources before × IsBackward A C g F before labels

-- labels before forward substitution: the origin at each source, and none elsewhere
pub record AreOrigins {V W : Type 0} (A : Algebra V) (g : GraphData) (F : FactorData W) (sources : List ℕ)
    (labels : List (Option V)) : Type 0 where
  pub count : length labels ≡ g.vertices
  pub at_sources : (s : ℕ) → Contains sources s → at labels (place_of F s) ≡ Some A.origin
  pub only_there : (i : ℕ) (x : V) → at labels i ≡ Some x → (A.origin ≡ x) × ((s : ℕ) × Contains sources s × (place_of F s ≡ i))

-- labels in the course of forward substitution, when the places below k are done
pub record IsForwardTo {V W : Type 0} (A : Algebra V) (C : Composition V W) (g : GraphData) (F : FactorData W)
    (sources : List ℕ) (k : ℕ) (labels : List (Option V)) : Type 0 where
  pub count : length labels ≡ g.vertices
  pub values : (i : ℕ) (x : V) → i < g.vertices → at labels i ≡ Some x → IsWalkValue A g sources (vertex_at F i) x
  pub at_sources : (s : ℕ) → Contains sources s → HasNoWorse A (at labels (place_of F s)) A.origin
  pub up : (x y : ℕ) (a : W) → x < k → Rises F x y a → Passes A C (at labels x) a (at labels y)

-- labels in the course of back substitution, when the places from k on are done
pub record IsBackwardFrom {V W : Type 0} (A : Algebra V) (C : Composition V W) (g : GraphData) (F : FactorData W)
    (before : List (Option V)) (k : ℕ) (labels : List (Option V)) : Type 0 where
  pub count : length labels ≡ g.vertices
  pub below : (i : ℕ) → i < k → at labels i ≡ at before i
  pub best : (i : ℕ) → k ≤ i → i < g.vertices → IsBestDown A C F (at before i) labels i (at labels i)
