-- The least tail from which an arc adds up, found along a row.
use Rattle.std.proofs.Common.{◌≡◌, ℕ, suc, ◌+◌, ◌-◌, ◌<◌, ◌≤◌, ◌^◌, ◌⊎◌, inl, inr, Bool, true, false, List, [], ◌∷◌, length, get_or, drop, refl, ap, sym, ◌∙◌, subst, arith, eqb-true, leb-true, Option, Some, None}
use Rattle.factor_routes.proofs.Words.{mul-le-mul_right, mul-le-mul_left, pow_mono, nat_tests, All-nil, All-cons, All-contains, OutRoad, GraphData, IsGraph, HasArc, HasVertex, ListsRoadsInto, arc_of, reversed_arc, road_of, IsBest, IsBestLabel, cost_of, counted, counted_cost, AreBestInto, IsCountedStepOf, Cost, counted_laws, best_is_one, Branches, hops_of, parent_of, AreHopsAt, IsParentAt, IsTree, adding_up, lesser, IsLeastTail}
use Rattle.std.specs.Prelude.{All, Contains, IfSome, MatchOption, map, nat_le, ◌==◌, if◌then◌else◌}
use Rattle.std.proofs.Math.ListN.{get_or-map}
use Rattle.std.proofs.lemmas.List.{at_drop_all, at_drop_more, get_or_default, length-map}
use Rattle.path_algebra.specs.Algebra.{Algebra, IsLawful}
use Rattle.path_algebra.specs.declared.counted_sums.Cost.TheVariants.{Weight, One}
use Rattle.path_algebra.specs.Laws.{coded_below}
use Rattle.path_algebra.proofs.Walks.{walk_value_is_value}

-- a vertex has one best label
pub one_label : {V : Type 0} (A : Algebra V) → IsLawful A → (g : GraphData) → IsGraph g → (sources : List ℕ) (v : ℕ) (l m : Option V) →
    IsBestLabel A g sources v l → IsBestLabel A g sources v m → l ≡ m
one_label A lawful g roads sources v None None h k = refl
one_label A lawful g roads sources v None (Some y) h k = absurd (h y k.attained)
one_label A lawful g roads sources v (Some x) None h k = absurd (k x h.attained)
one_label A lawful g roads sources v (Some x) (Some y) h k = ap (λ z. Some z) (best_is_one A lawful g roads sources v x y h k)

absent : {X : Type 0} (o : Option X) (x : X) → o ≡ None → o ≡ Some x → ⊥
absent None x e f = cc
absent (Some y) x e f = cc

-- best numbers are below 2^63
pub number_is_small : (g : GraphData) → IsGraph g → (cost : ℕ → ℕ) (k : ℕ) (sources : List ℕ) (v x : ℕ) →
    IsBest (counted cost k) g sources v x → x < 2 ^ 63
number_is_small g roads cost k sources v x best =
    omega (arith, leb-true x (2 ^ 63 - 1) (walk_value_is_value (counted cost k) (counted_laws cost k) g roads sources v x best.attained))

-- and so is what an arc adds, or 2^63 at most
pub added_is_small : (c : Cost) (k w : ℕ) → k < 32 → w < 2 ^ 32 → counted_cost (cost_of c) k w ≤ 2 ^ 63
added_is_small c k w few light =
    let le : cost_of c w ≤ 2 ^ 32 - 1 = cheap c in
    let low : k ≤ 31 = omega (arith, few) in
    omega (arith, mul-le-mul_right (2 ^ k) le, mul-le-mul_left (2 ^ 32 - 1) (pow_mono low))
  where
    cheap : (c : Cost) → cost_of c w ≤ 2 ^ 32 - 1
    cheap Weight = omega (arith, light)
    cheap One = omega arith

lesser_none : (o p : Option (ℕ × ℕ)) → lesser o p ≡ None → (o ≡ None) × (p ≡ None)
lesser_none None p e = (refl, e)
lesser_none (Some a) None e = let bad : Some a ≡ None = e in cc
lesser_none (Some a) (Some b) e = let bad : Some (if nat_le a.0 b.0 then a else b) ≡ None = e in cc

lesser_some : (o p : Option (ℕ × ℕ)) (t : ℕ × ℕ) → lesser o p ≡ Some t → (o ≡ Some t) ⊎ (p ≡ Some t)
lesser_some None p t e = inr e
lesser_some (Some a) None t e = inl e
lesser_some (Some a) (Some b) t e = both (nat_le a.0 b.0) e
  where
    both : (c : Bool) → Some (if c then a else b) ≡ Some t → (Some a ≡ Some t) ⊎ (Some b ≡ Some t)
    both true e = inl e
    both false e = inr e

-- no greater than either
lesser_left : (s : ℕ × ℕ) (p : Option (ℕ × ℕ)) → (t : ℕ × ℕ) × (lesser (Some s) p ≡ Some t) × (t.0 ≤ s.0)
lesser_left s None = (s, refl, omega arith)
lesser_left s (Some b) = both (nat_le s.0 b.0) refl
  where
    both : (c : Bool) → nat_le s.0 b.0 ≡ c → (t : ℕ × ℕ) × (Some (if c then s else b) ≡ Some t) × (t.0 ≤ s.0)
    both true e = (s, refl, omega arith)
    both false e = (b, refl, grind (arith, nat_tests))

lesser_right : (o : Option (ℕ × ℕ)) (s : ℕ × ℕ) → (t : ℕ × ℕ) × (lesser o (Some s) ≡ Some t) × (t.0 ≤ s.0)
lesser_right None s = (s, refl, omega arith)
lesser_right (Some a) s = both (nat_le a.0 s.0) refl
  where
    both : (c : Bool) → nat_le a.0 s.0 ≡ c → (t : ℕ × ℕ) × (Some (if c then a else s) ≡ Some t) × (t.0 ≤ s.0)
    both true e = (a, refl, leb-true a.0 s.0 e)
    both false e = (s, refl, omega arith)

-- a vertex of a row is one of the graph, and the tail of an arc into its vertex
pub row_tail : (g : GraphData) (v : ℕ) (roads : List OutRoad) → ListsRoadsInto g v roads → (i : ℕ) (d : OutRoad) → i < length roads →
    (a : ℕ) × HasArc g a × ((arc_of g a).head ≡ v) × ((arc_of g a).tail ≡ (get_or roads i d).head)
row_tail g v roads lists i d lt =
    let f : ℕ → OutRoad = λ a. road_of (reversed_arc (arc_of g a)) in
    let count : length roads ≡ length lists.0 = ap length lists.2 ∙ length-map lists.0 f in
    let inside : i < length lists.0 = omega (arith, lt, count) in
    let a = get_or lists.0 i 0 in
    let there : Contains lists.0 a = (i, inside, get_or_default lists.0 i a 0 inside) in
    let arc = (lists.1 a).0 there in
    let at : get_or roads i d ≡ f a =
    get_or_default roads i d (f 0) lt ∙ ap (λ (rs : List OutRoad). get_or rs i (f 0)) lists.2 ∙ get_or-map f lists.0 i 0 in
    (a, arc.0, arc.1, ap (λ (r : OutRoad). r.head) (sym at))

-- what is found at a tail that adds up, and at one that does not
pub adding_up_is : (cost : ℕ → ℕ) (k y x : ℕ) (road : OutRoad) (number : Option ℕ) → Some x ≡ number →
    x + counted_cost cost k road.weight ≡ y → Some (road.head, x) ≡ adding_up cost k y road number
adding_up_is cost k y x road None e sum = let bad : Some x ≡ None = e in cc
adding_up_is cost k y x road (Some z) e sum =
    let same : x ≡ z = cc in
    let t : (z + counted_cost cost k road.weight == y) ≡ true = grind (arith, nat_tests) in
    rw t (ap (λ (n : ℕ). Some (road.head, n)) same)

pub adding_up_not : (cost : ℕ → ℕ) (k y x : ℕ) (road : OutRoad) (number : Option ℕ) → Some x ≡ number →
    (x + counted_cost cost k road.weight ≡ y → ⊥) → None ≡ adding_up cost k y road number
adding_up_not cost k y x road None e differs = refl
adding_up_not cost k y x road (Some z) e differs =
    let same : x ≡ z = cc in
    both (z + counted_cost cost k road.weight == y) refl (subst (λ (n : ℕ). n + counted_cost cost k road.weight ≡ y → ⊥) same differs)
  where
    both : (b : Bool) → (z + counted_cost cost k road.weight == y) ≡ b → (z + counted_cost cost k road.weight ≡ y → ⊥) →
        ◌≡◌ {A = Option (ℕ × ℕ)} None (if b then Some (road.head, z) else None)
    both true t differs = absurd (differs (eqb-true (z + counted_cost cost k road.weight) y t))
    both false t differs = refl

-- the least tail of a row, found so far, and of what is left
abbrev pub least_from : (ℕ → ℕ) → ℕ → ℕ → (ℕ → Option ℕ) → Option (ℕ × ℕ) → List OutRoad → Option (ℕ × ℕ)
least_from cost k y number least [] = least
least_from cost k y number least (road ∷ roads) =
    least_from cost k y number (lesser least (adding_up cost k y road (number road.head))) roads

pub least_step : (cost : ℕ → ℕ) (k y : ℕ) (number : ℕ → Option ℕ) (least found : Option (ℕ × ℕ)) (roads : List OutRoad) (i : ℕ) (road : OutRoad) →
    i < length roads → road ≡ get_or roads i road → found ≡ lesser least (adding_up cost k y road (number road.head)) →
    least_from cost k y number found (drop (i + 1) roads) ≡ least_from cost k y number least (drop i roads)
least_step cost k y number least found roads i road lt is e =
    let rest = drop (i + 1) roads in
    let here : least_from cost k y number found rest ≡ least_from cost k y number least (road ∷ rest) =
    ap (λ (l : Option (ℕ × ℕ)). least_from cost k y number l rest) e in
    let item : least_from cost k y number least (road ∷ rest) ≡ least_from cost k y number least (get_or roads i road ∷ rest) =
    ap (λ (r : OutRoad). least_from cost k y number least (r ∷ rest)) is in
    here ∙ item ∙ sym (at_drop_more (λ (rs : List OutRoad). least_from cost k y number least rs) roads i road lt)

-- an arc that was held back, and what is left after it
abbrev pub with_held : Option OutRoad → List OutRoad → List OutRoad
with_held None roads = roads
with_held (Some road) roads = road ∷ roads

lesser_nothing : (o : Option (ℕ × ℕ)) → lesser o None ≡ o
lesser_nothing None = refl
lesser_nothing (Some a) = refl

module _ (cost : ℕ → ℕ) (k y : ℕ) where
  -- no arc adds up from a number that is no less
  pub none_from : (road : OutRoad) (l : Option ℕ) → ((n : ℕ) → l ≡ Some n → y ≤ n) → adding_up cost k y road l ≡ None
  none_from road None low = refl
  none_from road (Some n) low =
      let le = low n refl in
      let not : (n + counted_cost cost k road.weight == y) ≡ false = grind (arith, nat_tests) in
      rw not refl

  -- what an arc that adds up leaves of the number
  pub left_of : (road : OutRoad) (l : Option ℕ) → (adding_up cost k y road l ≡ None → ⊥) →
      (counted_cost cost k road.weight ≤ y) × (adding_up cost k y road l ≡ Some (road.head, y - counted_cost cost k road.weight))
  left_of road None some = absurd (some refl)
  left_of road (Some x) some = both (x + counted_cost cost k road.weight == y) refl some
    where
      both : (b : Bool) → (x + counted_cost cost k road.weight == y) ≡ b →
          (◌≡◌ {A = Option (ℕ × ℕ)} (if b then Some (road.head, x) else None) None → ⊥) →
          (counted_cost cost k road.weight ≤ y)
          × (◌≡◌ {A = Option (ℕ × ℕ)} (if b then Some (road.head, x) else None) (Some (road.head, y - counted_cost cost k road.weight)))
      both true t some =
          let sum = eqb-true (x + counted_cost cost k road.weight) y t in
          let is : x ≡ y - counted_cost cost k road.weight = omega (arith, sum) in
          (omega (arith, sum), ap (λ (n : ℕ). Some (road.head, n)) is)
      both false t some = absurd (some refl)

  module _ (number : ℕ → Option ℕ) where
    abbrev from : Option (ℕ × ℕ) → List OutRoad → Option (ℕ × ℕ)
    from least roads = least_from cost k y number least roads

    -- an arc that does not add up is passed by
    pub passed : (least : Option (ℕ × ℕ)) (held : Option OutRoad) (road : OutRoad) (roads : List OutRoad) →
        adding_up cost k y road (number road.head) ≡ None → from least (with_held held roads) ≡ from least (with_held held (road ∷ roads))
    passed least None road roads none =
        ap (λ (o : Option (ℕ × ℕ)). from o roads) (sym (ap (λ (o : Option (ℕ × ℕ)). lesser least o) none ∙ lesser_nothing least))
    passed least (Some h) road roads none =
        let before = lesser least (adding_up cost k y h (number h.head)) in
        ap (λ (o : Option (ℕ × ℕ)). from o roads) (sym (ap (λ (o : Option (ℕ × ℕ)). lesser before o) none ∙ lesser_nothing before))

    -- the arc that was held back is looked at
    pub looked : (A : Algebra ℕ) (g : GraphData) (sources seen : List ℕ) (v : ℕ) → seen ≡ sources → AreBestInto A g sources number v →
        (least found : Option (ℕ × ℕ)) (held : Option OutRoad) →
        IfSome held (λ h. (a : ℕ) × HasArc g a × ((arc_of g a).head ≡ v) × ((arc_of g a).tail ≡ h.head)) →
        MatchOption held (found ≡ least)
        (λ h. (m : Option ℕ) → IsBestLabel A g seen h.head m → found ≡ lesser least (adding_up cost k y h m)) →
        (roads : List OutRoad) → from found roads ≡ from least (with_held held roads)
    looked A g sources seen v same into least found None there e roads = ap (λ (o : Option (ℕ × ℕ)). from o roads) e
    looked A g sources seen v same into least found (Some h) there e roads =
        let best = subst (λ (n : ℕ). IsBestLabel A g sources n (number n)) there.3 (into there.0 there.1 there.2) in
        ap (λ (o : Option (ℕ × ℕ)). from o roads) (e (number h.head) (subst (λ (s : List ℕ). IsBestLabel A g s h.head (number h.head)) (sym same) best))

    pub next_held : (least : Option (ℕ × ℕ)) (held : Option OutRoad) (roads : List OutRoad) (i : ℕ) (road : OutRoad) → i < length roads →
        road ≡ get_or roads i road →
        from least (with_held held (road ∷ drop (i + 1) roads)) ≡ from least (with_held held (drop i roads))
    next_held least held roads i road lt is =
        ap (λ (r : OutRoad). from least (with_held held (r ∷ drop (i + 1) roads))) is
        ∙ sym (at_drop_more (λ (rs : List OutRoad). from least (with_held held rs)) roads i road lt)

module _ (g : GraphData) (roads : IsGraph g) (cost : ℕ → ℕ) (k : ℕ) (sources : List ℕ) (v y : ℕ) (number : ℕ → Option ℕ) where
  -- an arc adds up to the best number of a vertex, unless that is 0
  pub step_into : (t : Branches) → IsTree (counted cost k) g sources t → HasVertex g v → IsBest (counted cost k) g sources v y → 0 < y →
      AreBestInto (counted cost k) g sources number v → (u : ℕ) × IsCountedStepOf g cost k number v y u
  step_into t tree in_v best some into = at (hops_of t v) (parent_of t v) (tree.hops v in_v) (tree.parents v in_v)
    where
      at : (m p : Option ℕ) → AreHopsAt (counted cost k) g sources v m → IsParentAt (counted cost k) g sources v m p →
          (u : ℕ) × IsCountedStepOf g cost k number v y u
      at None p h q = absurd (h y best.attained)
      at (Some j) None h q =
          let bad : ⊥ = omega (arith, leb-true y 0 (best.least 0 ([], (v, q, refl), refl)), some) in
          absurd bad
      at (Some j) (Some u) h q =
          let near = q.nearer in
          let a = near.0 in
          let tight = near.1 in
          let is = one_label (counted cost k) (counted_laws cost k) g roads sources (arc_of g a).tail (number (arc_of g a).tail) (Some tight.tail)
          (into a tight.arc near.3) tight.tail_best in
          let there = subst (λ (w : ℕ). IsBest (counted cost k) g sources w tight.head) near.3 tight.head_best in
          let same = best_is_one (counted cost k) (counted_laws cost k) g roads sources v tight.head y there best in
          let sum = (coded_below (2 ^ 63 - 1) (tight.tail + counted_cost cost k (arc_of g a).weight) tight.head tight.extends).1 in
          (u, (tight.tail, ap number (sym near.2) ∙ is, (a, tight.arc, near.2, near.3, omega (arith, sum, same))))

module _ (g : GraphData) (cost : ℕ → ℕ) (k y : ℕ) (number : ℕ → Option ℕ) where
  abbrev pub into : ℕ → OutRoad
  into a = road_of (reversed_arc (arc_of g a))

  -- the tail of an arc with its number, if it adds up
  abbrev add : ℕ → Option (ℕ × ℕ)
  add a = adding_up cost k y (into a) (number (arc_of g a).tail)

  record Found (least : Option (ℕ × ℕ)) (numbers : List ℕ) (found : Option (ℕ × ℕ)) : Type 0 where
    none : found ≡ None → (least ≡ None) × All (λ a. add a ≡ None) numbers
    some : (t : ℕ × ℕ) → found ≡ Some t → (least ≡ Some t) ⊎ ((a : ℕ) × Contains numbers a × (add a ≡ Some t))
    no_lesser : (t : ℕ × ℕ) → found ≡ Some t → (s : ℕ × ℕ) → least ≡ Some s → t.0 ≤ s.0
    all : (t : ℕ × ℕ) → found ≡ Some t → All (λ a. (s : ℕ × ℕ) → add a ≡ Some s → t.0 ≤ s.0) numbers

  later : (a b : ℕ) (numbers : List ℕ) → Contains numbers a → Contains (b ∷ numbers) a
  later a b numbers h = (suc h.0, (let lt = h.1 in omega (arith, lt)), h.2)

  found_from : (least : Option (ℕ × ℕ)) (numbers : List ℕ) → Found least numbers (least_from cost k y number least (map into numbers))
  found_from least [] = record {
    none = λ e. (e, All-nil (λ a. add a ≡ None));
    some = λ t e. inl e;
    no_lesser = λ t e s f. let same : Some t ≡ Some s = sym e ∙ f in let one : t ≡ s = cc in let first = ap (λ (p : ℕ × ℕ). p.0) one in omega (arith, first);
    all = λ t e. All-nil (λ a. (s : ℕ × ℕ) → add a ≡ Some s → t.0 ≤ s.0);
  }
  found_from least (a ∷ numbers) =
      let rest = found_from (lesser least (add a)) numbers in
      record {
        none = λ e.
            let r = rest.none e in
            let n = lesser_none least (add a) r.0 in
            (n.0, All-cons (λ b. add b ≡ None) a numbers n.1 r.1);
        some = λ t e. elim (rest.some t e) [
          | inl f ↦ elim (lesser_some least (add a) t f) [ inl h ↦ inl h | inr h ↦ inr (a, (0, omega arith, refl), h) ]
          | inr f ↦ inr (f.0, later f.0 a numbers f.1, f.2)
        ];
        no_lesser = λ t e s f.
            let low = lesser_left s (add a) in
            let is : lesser least (add a) ≡ Some low.0 = ap (λ (o : Option (ℕ × ℕ)). lesser o (add a)) f ∙ low.1 in
            omega (arith, rest.no_lesser t e low.0 is, low.2);
        all = λ t e. All-cons (λ b. (s : ℕ × ℕ) → add b ≡ Some s → t.0 ≤ s.0) a numbers
            (λ s f.
            let low = lesser_right least s in
            let is : lesser least (add a) ≡ Some low.0 = ap (λ (o : Option (ℕ × ℕ)). lesser least o) f ∙ low.1 in
            omega (arith, rest.no_lesser t e low.0 is, low.2))
            (rest.all t e);
      }

  adds : (a x : ℕ) (l : Option ℕ) → l ≡ Some x → x + counted_cost cost k (arc_of g a).weight ≡ y →
      adding_up cost k y (into a) l ≡ Some ((arc_of g a).tail, x)
  adds a x None e sum = let bad : None ≡ Some x = e in cc
  adds a x (Some z) e sum =
      let same : z ≡ x = cc in
      let t : (z + counted_cost cost k (arc_of g a).weight == y) ≡ true = grind (arith, nat_tests) in
      rw t (ap (λ (n : ℕ). Some ((arc_of g a).tail, n)) same)

  record Added (a : ℕ) (l : Option ℕ) (t : ℕ × ℕ) : Type 0 where
    tail : (arc_of g a).tail ≡ t.0
    is : l ≡ Some t.1
    sum : t.1 + counted_cost cost k (arc_of g a).weight ≡ y

  added : (a : ℕ) (l : Option ℕ) (t : ℕ × ℕ) → adding_up cost k y (into a) l ≡ Some t → Added a l t
  added a None t e = let bad : None ≡ Some t = e in cc
  added a (Some x) t e = both (x + counted_cost cost k (arc_of g a).weight == y) refl e
    where
      both : (b : Bool) → (x + counted_cost cost k (arc_of g a).weight == y) ≡ b →
          (if b then Some ((arc_of g a).tail, x) else None) ≡ Some t → Added a (Some x) t
      both true is f =
          let same : ((arc_of g a).tail, x) ≡ t = cc in
          let sum = eqb-true (x + counted_cost cost k (arc_of g a).weight) y is in
          record {
            tail = ap (λ (p : ℕ × ℕ). p.0) same;
            is = ap (λ (p : ℕ × ℕ). Some p.1) same;
            sum = ap (λ (p : ℕ × ℕ). p.1 + counted_cost cost k (arc_of g a).weight) (sym same) ∙ sum;
          }
      both false is f = let bad : None ≡ Some t = f in cc

  module _ (v : ℕ) (roads : List OutRoad) (lists : ListsRoadsInto g v roads) where
    step_adds : (u : ℕ) → (s : IsCountedStepOf g cost k number v y u) →
        Contains lists.0 s.2.0 × (add s.2.0 ≡ Some ((arc_of g s.2.0).tail, s.0)) × ((arc_of g s.2.0).tail ≡ u)
    step_adds u s =
        let at_tail : number (arc_of g s.2.0).tail ≡ Some s.0 = ap number s.2.2 ∙ s.1 in (
          (lists.1 s.2.0).1 (s.2.1, s.2.3),
          adds s.2.0 s.0 (number (arc_of g s.2.0).tail) at_tail s.2.4,
          s.2.2,
        )

    by_cases : (found : Option (ℕ × ℕ)) → Found None lists.0 found → IsLeastTail g cost k number v y found
    by_cases None f = λ u s.
        let a = step_adds u s in
        let none = All-contains (λ b. add b ≡ None) lists.0 s.2.0 (f.none refl).1 a.0 in
        absent (add s.2.0) ((arc_of g s.2.0).tail, s.0) none a.1
    by_cases (Some t) f = elim (f.some t refl) [
      | inl e ↦ let bad : None ≡ Some t = e in cc
      | inr h ↦
          let arc = (lists.1 h.0).0 h.1 in
          let is = added h.0 (number (arc_of g h.0).tail) t h.2 in
          let at : number t.0 ≡ Some t.1 = ap number (sym is.tail) ∙ is.is in (
            at,
            record {
              step = (t.1, at, (h.0, arc.0, is.tail, arc.1, is.sum));
              least = λ u s.
                  let a = step_adds u s in
                  let low = All-contains (λ b. (r : ℕ × ℕ) → add b ≡ Some r → t.0 ≤ r.0) lists.0 s.2.0 (f.all t refl) a.0
                  ((arc_of g s.2.0).tail, s.0) a.1 in
                  omega (arith, low, a.2);
            },
          )
    ]

    -- what a whole row gives
    pub least_of_row : IsLeastTail g cost k number v y (least_from cost k y number None roads)
    least_of_row =
        rw (lists.2) (by_cases (least_from cost k y number None (map into lists.0)) (found_from None lists.0))

    -- what a whole row gives, once all but an arc that was held back is looked at
    pub row_is : (least : Option (ℕ × ℕ)) (held : Option OutRoad) (i : ℕ) → length roads ≤ i →
        least_from cost k y number least (with_held held (drop i roads)) ≡ least_from cost k y number None roads →
        IsLeastTail g cost k number v y (least_from cost k y number least (with_held held []))
    row_is least held i end is =
        let all : least_from cost k y number least (with_held held []) ≡ least_from cost k y number None roads =
        sym (at_drop_all (λ (rs : List OutRoad). least_from cost k y number least (with_held held rs)) roads i end) ∙ is in
        subst (IsLeastTail g cost k number v y) (sym all) least_of_row

    -- the arc that was held back adds up, if no other does
    pub last_is : (road : OutRoad) (i : ℕ) → length roads ≤ i →
        least_from cost k y number None (road ∷ drop i roads) ≡ least_from cost k y number None roads →
        (u : ℕ) × IsCountedStepOf g cost k number v y u →
        (counted_cost cost k road.weight ≤ y) × IsLeastTail g cost k number v y (Some (road.head, y - counted_cost cost k road.weight))
    last_is road i end is step =
        let found = adding_up cost k y road (number road.head) in
        let least : IsLeastTail g cost k number v y found = row_is None (Some road) i end is in
        let some : found ≡ None → ⊥ = λ e. (subst (IsLeastTail g cost k number v y) e least) step.0 step.1 in
        let left = left_of cost k y road (number road.head) some in
        (left.0, subst (IsLeastTail g cost k number v y) left.1 least)
