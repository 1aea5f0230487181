-- In a graph whose arcs are in another order each step has a like one.
use Rattle.arc_numbers.proofs.Words.{◌≡◌, ℕ, ◌<◌, ◌∙◌, List, length, get_or, refl, ap, sym, subst, arith, OutRoad, Algebra, LeadsTo, road_at, HasSameRoads, IsStep}
use Rattle.std.specs.Prelude.{map, Contains}
use Rattle.std.proofs.lemmas.List.{get_or-map, length-map}
use Rattle.std.proofs.lemmas.List.Elements.{Contains-get_or}
use Rattle.road_graph.specs.GraphData.{GraphData, HasArc, ListsArcsFrom, ListsRoadsFrom, arc_of, road_of, roads_of}
use Rattle.road_graph.proofs.Lists.{element_place, same_rising}

-- the roads out of a vertex are one list
pub one_list : (g : GraphData) (v : ℕ) (xs ys : List OutRoad) → ListsRoadsFrom g v xs → ListsRoadsFrom g v ys → xs ≡ ys
one_list g v xs ys h k =
    let same : h.0 ≡ k.0 = same_rising 0 h.0 k.0 h.1.ascending k.1.ascending
    (λ a m. (k.1.complete a).1 ((h.1.complete a).0 m)) (λ a m. (h.1.complete a).1 ((k.1.complete a).0 m)) in
    h.2 ∙ ap (roads_of g) same ∙ sym k.2

-- and so are the numbers of its arcs
pub one_row : (g : GraphData) (v : ℕ) (xs ys : List ℕ) → ListsArcsFrom g v xs → ListsArcsFrom g v ys → xs ≡ ys
one_row g v xs ys h k = same_rising 0 xs ys h.ascending k.ascending
    (λ a m. (k.complete a).1 ((h.complete a).0 m)) (λ a m. (h.complete a).1 ((k.complete a).0 m))

module _ {V : Type 0} (A : Algebra V) (g : GraphData) (x : V) (u v : ℕ) (row : List ℕ) (roads : List OutRoad)
    (lists : ListsArcsFrom g u row) (are : roads ≡ roads_of g row) where
  pub count : length roads ≡ length row
  count = ap length are ∙ length-map row (λ a. road_of (arc_of g a))

  there : (k : ℕ) → k < length roads → road_at roads k ≡ road_of (arc_of g (get_or row k 0))
  there k lt = ap (λ rs. road_at rs k) are ∙ get_or-map (λ a. road_of (arc_of g a)) row k 0 (record { head = 0; weight = 0 }) (let n = count in omega (arith, lt, n))

  -- a road of the list is a step
  pub step_at : (k : ℕ) (y : V) → k < length roads → LeadsTo A x v (road_at roads k) y → IsStep A g x u v (get_or row k 0) y
  step_at k y lt leads =
      let is = there k lt in
      let of_row = (lists.complete (get_or row k 0)).0 (Contains-get_or row k 0 (let n = count in omega (arith, lt, n))) in
      let to = subst (λ (r : OutRoad). LeadsTo A x v r y) is leads in
      record { arc = of_row.0; tail = of_row.1; head = to.0; extends = to.1 }

  -- and each step is a road of the list
  pub index_of : (b : ℕ) (z : V) → IsStep A g x u v b z → (k : ℕ) × (k < length roads) × (get_or row k 0 ≡ b) × LeadsTo A x v (road_at roads k) z
  index_of b z s =
      let (k, lt, is) = element_place 0 b row ((lists.complete b).1 (s.arc, s.tail)) in
      let inside : k < length roads = let n = count in omega (arith, lt, n) in
      let road = there k inside ∙ ap (λ (a : ℕ). road_of (arc_of g a)) is in
      (k, inside, is, subst (λ (r : OutRoad). LeadsTo A x v r z) (sym road) (s.head, s.extends))

module _ {V : Type 0} (A : Algebra V) (g h : GraphData) (x : V) (u v : ℕ) where
  pub like : HasSameRoads g h u → (a : ℕ) (y : V) → IsStep A g x u v a y → (b : ℕ) × IsStep A h x u v b y
  like (out, from, to) a y s =
      let (k, lt, is, leads) = index_of A g x u v from.0 out from.1 from.2 a y s in
      (get_or to.0 k 0, step_at A h x u v to.0 out to.1 to.2 k y lt leads)
