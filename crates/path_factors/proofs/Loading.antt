-- A link for each arc.
use Rattle.path_factors.proofs.Words.{◌≡◌, ℕ, ◌+◌, ◌-◌, ◌<◌, ◌≤◌, ◌⊎◌, inl, inr, Bool, true, is_on, List, length, get_or, ap, sym, ◌∙◌, subst, arith, Contains, cases_lt, get_or-map, length-map, get_or_default, GraphData, IsGraph, HasArc, HasVertex, arc_of, road_of, ListsRoadsFrom, OutRoad, Algebra, IsOrder, Composition, IsComposition, FactorData, IsUnder, IsWorthUnder, LeadsOn, CoversArcsFrom, CoversArcsOn, KeepsRest, Improves}
use Rattle.path_factors.proofs.Connecting.{still_leads, improves_more, rest_more, worth_of_arc}

-- the arc of a road
pub road_at : (g : GraphData) (v : ℕ) (roads : List OutRoad) → ListsRoadsFrom g v roads → (i : ℕ) (r : OutRoad) → i < length roads →
    r ≡ get_or roads i r → (a : ℕ) × HasArc g a × ((arc_of g a).tail ≡ v) × (r ≡ road_of (arc_of g a))
road_at g v roads lists i r lt is =
    let n : length roads ≡ length lists.0 = rw (lists.2) (length-map lists.0 (λ a. road_of (arc_of g a))) in
    let low : i < length lists.0 = omega (arith, n, lt) in
    let a = get_or lists.0 i 0 in
    let at : get_or roads i r ≡ road_of (arc_of g a) =
    ap (λ (o : List OutRoad). get_or o i r) lists.2 ∙ get_or-map (λ a. road_of (arc_of g a)) lists.0 i 0 r low in
    let has = (lists.1.complete a).0 (i, low, get_or_default lists.0 i a 0 low) in
    (a, has.0, has.1, is ∙ at)

-- the road of an arc
pub arc_listed : (g : GraphData) (v : ℕ) (roads : List OutRoad) → ListsRoadsFrom g v roads → (a : ℕ) → HasArc g a →
    (arc_of g a).tail ≡ v → Contains roads (road_of (arc_of g a))
arc_listed g v roads lists a has from =
    let at = (lists.1.complete a).1 (has, from) in
    let n : length roads ≡ length lists.0 = rw (lists.2) (length-map lists.0 (λ a. road_of (arc_of g a))) in
    let low = at.1 in
    let read : get_or roads at.0 (road_of (arc_of g a)) ≡ road_of (arc_of g a) =
    ap (λ (o : List OutRoad). get_or o at.0 (road_of (arc_of g a))) lists.2
    ∙ get_or-map (λ a. road_of (arc_of g a)) lists.0 at.0 a (road_of (arc_of g a)) low
    ∙ ap (λ (b : ℕ). road_of (arc_of g b)) at.2 in
    (at.0, omega (arith, n, low), read)

-- a road leads to a vertex
pub road_inside : (g : GraphData) → IsGraph g → (v : ℕ) (roads : List OutRoad) → ListsRoadsFrom g v roads → (i : ℕ) (r : OutRoad) →
    i < length roads → r ≡ get_or roads i r → HasVertex g r.head
road_inside g is_graph v roads lists i r lt is =
    let a = road_at g v roads lists i r lt is in
    subst (λ (q : OutRoad). HasVertex g q.head) (sym a.3) ((is_graph.ends a.0 a.1).1)

-- the worth of a road, under the place of either end
pub road_worth : {V W : Type 0} (A : Algebra V) (C : Composition V W) → IsComposition A C → (g : GraphData) → IsGraph g →
    (heads : List (List ℕ)) (places : List ℕ) (v : ℕ) (roads : List OutRoad) → ListsRoadsFrom g v roads → (i : ℕ) (r : OutRoad) →
    i < length roads → r ≡ get_or roads i r → (x : ℕ) → (x ≡ get_or places (v - 1) 0) ⊎ (x ≡ get_or places (r.head - 1) 0) →
    IsWorthUnder A C g heads places x v r.head (C.of_arc r.weight)
road_worth A C composes g is_graph heads places v roads lists i r lt is x at =
    let a = road_at g v roads lists i r lt is in
    let under : IsUnder g heads places x a.0 = elim at [
      | inl tail ↦ inl (0, ap (λ (u : ℕ). get_or places (u - 1) 0) a.2 ∙ sym tail)
      | inr head ↦ inr (0, ap (λ (q : OutRoad). get_or places (q.head - 1) 0) (sym a.3) ∙ sym head)
    ] in
    subst (λ (q : OutRoad). IsWorthUnder A C g heads places x v q.head (C.of_arc q.weight)) (sym a.3)
    (subst (λ (u : ℕ). IsWorthUnder A C g heads places x u (arc_of g a.0).head (C.of_arc (arc_of g a.0).weight)) a.2
    (worth_of_arc A C g heads places composes is_graph x a.0 a.1 under))

-- the first j roads from a vertex have links, if the lesser place is marked
pub record Loaded {V W : Type 0} (C : Composition V W) (marks : List Bool) (tail : ℕ) (roads : List OutRoad) (F G : FactorData W) (j : ℕ) : Type 0 where
  pub improves : Improves C 0 F G
  pub rest : KeepsRest (λ z. is_on marks z ≡ true) F G
  pub linked : (r : OutRoad) (i : ℕ) → i < j → get_or roads i r ≡ r → (tail ≡ r.head → ⊥) →
      LeadsOn C marks F.places G tail r.head (C.of_arc r.weight)

-- the arcs from the vertices up to k have links, if the lesser place is marked
pub record LoadedTo {V W : Type 0} (C : Composition V W) (marks : List Bool) (g : GraphData) (F G : FactorData W) (k : ℕ) : Type 0 where
  pub improves : Improves C 0 F G
  pub rest : KeepsRest (λ z. is_on marks z ≡ true) F G
  pub covers : (a : ℕ) → HasArc g a → (arc_of g a).tail ≤ k → ((arc_of g a).tail ≡ (arc_of g a).head → ⊥) →
      LeadsOn C marks F.places G (arc_of g a).tail (arc_of g a).head (C.of_arc (arc_of g a).weight)

module _ {V W : Type 0} (C : Composition V W) (ordered : IsOrder C.no_worse) (marks : List Bool) where
  -- a link that leads on still does once links are better
  still_on : (places : List ℕ) (F G : FactorData W) → Improves C 0 F G → (u v : ℕ) (a : W) → LeadsOn C marks places F u v a → LeadsOn C marks places G u v a
  still_on places F G improves u v a leads = λ on. still_leads C ordered 0 F G improves (get_or places (u - 1) 0) (get_or places (v - 1) 0) a (leads on)

  pub loaded_more : (tail : ℕ) (roads : List OutRoad) (F G H : FactorData W) (j : ℕ) (road : OutRoad) → Loaded C marks tail roads F G j →
      j < length roads → road ≡ get_or roads j road → Improves C 0 G H → KeepsRest (λ z. is_on marks z ≡ true) G H →
      ((tail ≡ road.head → ⊥) → LeadsOn C marks G.places H tail road.head (C.of_arc road.weight)) → Loaded C marks tail roads F H (j + 1)
  loaded_more tail roads F G H j road done lt is improves rest leads = record {
    improves = improves_more C ordered 0 F G H done.improves improves;
    rest = rest_more (λ z. is_on marks z ≡ true) F G H done.rest rest;
    linked = λ r i low e other. elim (cases_lt i j) [
      | inl before ↦ still_on F.places G H improves tail r.head (C.of_arc r.weight) (done.linked r i before e other)
      | inr not_before ↦
          let at_j : i ≡ j = omega (arith, not_before, low) in
          let one : road ≡ r =
          is ∙ get_or_default roads j road r lt ∙ ap (λ (m : ℕ). get_or roads m r) (sym at_j) ∙ e in
          subst (λ (p : List ℕ). LeadsOn C marks p H tail r.head (C.of_arc r.weight)) done.improves.places
          (subst (λ (q : OutRoad). (tail ≡ q.head → ⊥) → LeadsOn C marks G.places H tail q.head (C.of_arc q.weight)) one leads other)
    ];
  }

  pub loaded_all : (g : GraphData) (tail : ℕ) (roads : List OutRoad) → ListsRoadsFrom g tail roads → (F G : FactorData W) (j : ℕ) →
      Loaded C marks tail roads F G j → length roads ≤ j → CoversArcsFrom C marks g F.places G tail
  loaded_all g tail roads lists F G j done all = λ a has from other.
      let at = arc_listed g tail roads lists a has from in
      subst (λ (t : ℕ). LeadsOn C marks F.places G t (arc_of g a).head (C.of_arc (arc_of g a).weight)) (sym from)
      (done.linked (road_of (arc_of g a)) at.0 (omega (arith, at.1, all)) at.2 (λ e. other (from ∙ e)))

  pub loaded_to_more : (g : GraphData) (F G H : FactorData W) (k : ℕ) → LoadedTo C marks g F G k → Improves C 0 G H →
      KeepsRest (λ z. is_on marks z ≡ true) G H → CoversArcsFrom C marks g G.places H (k + 1) → LoadedTo C marks g F H (k + 1)
  loaded_to_more g F G H k done improves rest more = record {
    improves = improves_more C ordered 0 F G H done.improves improves;
    rest = rest_more (λ z. is_on marks z ≡ true) F G H done.rest rest;
    covers = λ a has low other. let r = arc_of g a in elim (cases_lt k r.tail) [
      | inr before ↦ still_on F.places G H improves r.tail r.head (C.of_arc r.weight) (done.covers a has before other)
      | inl above ↦ subst (λ (p : List ℕ). LeadsOn C marks p H r.tail r.head (C.of_arc r.weight)) done.improves.places (more a has (omega (arith, above, low)) other)
    ];
  }

  pub loaded_to_all : (g : GraphData) → IsGraph g → (F G : FactorData W) (k : ℕ) → LoadedTo C marks g F G k → g.vertices ≤ k → CoversArcsOn C marks g G
  loaded_to_all g roads F G k done all = λ a has other.
      subst (λ (p : List ℕ). LeadsOn C marks p G (arc_of g a).tail (arc_of g a).head (C.of_arc (arc_of g a).weight)) (sym done.improves.places)
      (done.covers a has (omega (arith, (roads.ends a has).0.1, all)) other)

  -- what was covered stays covered
  pub still_covers : (g : GraphData) (F G : FactorData W) → Improves C 0 F G → CoversArcsOn C marks g F → CoversArcsOn C marks g G
  still_covers g F G improves covers = λ a has other. let r = arc_of g a in
      subst (λ (p : List ℕ). LeadsOn C marks p G r.tail r.head (C.of_arc r.weight)) (sym improves.places)
      (still_on F.places F G improves r.tail r.head (C.of_arc r.weight) (covers a has other))
