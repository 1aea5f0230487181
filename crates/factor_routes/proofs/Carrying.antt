-- What best numbers say of the algebra whose values they carry.
use Rattle.factor_routes.proofs.Words.{◌≡◌, ℕ, ◌%◌, ◌<◌, ◌^◌, List, [], ◌∷◌, refl, ap, sym, ◌∙◌, subst, arith, Option, Some, None, GraphData, IsGraph, HasVertex, arc_of, Algebra, Branches, hops_of, parent_of, IsParentAt, IsTree, AreBestNumbers, IsCountedChain, IsCountedRoute, IsLeastTail}
use Rattle.std.specs.Prelude.{Contains, IfSome, IsSome, option_map}
use Rattle.road_graph.proofs.Lists.{same_some}
use Rattle.path_algebra.specs.Walks.{IsWalkValue, IsBest, IsBestLabel, AreHops, IsNearer, IsParent, IsParentChain, IsUnreached}
use Rattle.path_algebra.specs.Counted.{counted, AreBestInto, IsCountedParent, IsCountedStepOf}
use Rattle.path_algebra.specs.Carried.{carried_value, CarryValues}
use Rattle.route_tree.specs.Told.{IsParentRoute, IsToldOf}

pub told_as : {V : Type 0} (A : Algebra V) (g : GraphData) (sources : List ℕ) (v : ℕ) (l : Option V) (m n p q : Option ℕ) → m ≡ n → p ≡ q →
    IsToldOf A g sources v l n q → IsToldOf A g sources v l m p
told_as A g sources v l m n p q e f h =
    subst (λ (o : Option ℕ). IsToldOf A g sources v l o p) (sym e) (subst (λ (o : Option ℕ). IsToldOf A g sources v l n o) (sym f) h)

-- a vertex among few is below 2^32 - 1
pub tail_fits : (g : GraphData) → IsGraph g → (y : ℕ) (found : Option (ℕ × ℕ)) → IfSome found (λ tail. HasVertex g tail.0 × (tail.1 < y)) →
    IfSome found (λ tail. tail.0 < 4294967295)
tail_fits g roads y None h = h
tail_fits g roads y (Some tail) h =
    omega (arith, roads.few_vertices, h.0.1)

module _ {V : Type 0} (A : Algebra V) (g : GraphData) (roads : IsGraph g) (sources : List ℕ) (cost : ℕ → ℕ) (k : ℕ) (carry : CarryValues A g cost k sources)
    (number : ℕ → Option ℕ) (best : AreBestNumbers (counted cost k) g sources number) (t : Branches) (tree : IsTree A g sources t) where
  best_as : (v x : ℕ) → HasVertex g v → number v ≡ Some x → IsBest (counted cost k) g sources v x
  best_as v x in_v e = subst (λ (l : Option ℕ). IsBestLabel (counted cost k) g sources v l) e (best v in_v)

  pub known_into : (v : ℕ) → AreBestInto (counted cost k) g sources number v
  known_into v a has e = best (arc_of g a).tail (roads.ends a has).0

  pub best_if_carried : (v x : ℕ) (z : V) → HasVertex g v → number v ≡ Some x → carried_value A k (Some x) ≡ Some z → IsBest A g sources v z
  best_if_carried v x z in_v e is =
      subst (λ (l : Option V). IsBestLabel A g sources v l) is (carry.labels v (Some x) (best_as v x in_v e))

  pub unreached_if_none : (v : ℕ) → HasVertex g v → number v ≡ None → IsUnreached A g sources v
  unreached_if_none v in_v e = carry.labels v None (subst (λ (l : Option ℕ). IsBestLabel (counted cost k) g sources v l) e (best v in_v))

  pub unreached_if_carried : (v x : ℕ) → HasVertex g v → number v ≡ Some x → carried_value A k (Some x) ≡ None → IsUnreached A g sources v
  unreached_if_carried v x in_v e is =
      subst (λ (l : Option V). IsBestLabel A g sources v l) is (carry.labels v (Some x) (best_as v x in_v e))

  some_at : (v x : ℕ) (o : Option V) → carried_value A k (Some x) ≡ o → HasVertex g v → number v ≡ Some x → (z : V) → IsWalkValue A g sources v z → IsSome o
  some_at v x None is in_v e z w = absurd (unreached_if_carried v x in_v e is z w)
  some_at v x (Some y) is in_v e z w = refl

  number_at : (v : ℕ) (l : Option ℕ) → number v ≡ l → HasVertex g v → (z : V) → IsWalkValue A g sources v z →
      (x : ℕ) × (number v ≡ Some x) × IsSome (carried_value A k (Some x))
  number_at v None e in_v z w = absurd (unreached_if_none v in_v e z w)
  number_at v (Some x) e in_v z w = (x, e, some_at v x (carried_value A k (Some x)) refl in_v e z w)

  -- a vertex with a value has a number that carries it
  numbered : (v : ℕ) → HasVertex g v → (z : V) → IsWalkValue A g sources v z → (x : ℕ) × (number v ≡ Some x) × IsSome (carried_value A k (Some x))
  numbered v in_v z w = number_at v (number v) refl in_v z w

  module _ (v u : ℕ) (near : IsNearer A g sources v u) where
    tail_inside : HasVertex g u
    tail_inside = subst (λ (n : ℕ). HasVertex g n) near.2 (roads.ends near.0 near.1.arc).0

    tail_number : (x : ℕ) × (number u ≡ Some x) × IsSome (carried_value A k (Some x))
    tail_number = numbered u tail_inside near.1.tail (subst (λ (n : ℕ). IsWalkValue A g sources n near.1.tail) near.2 near.1.tail_best.attained)

    -- from a nearer vertex an arc adds up
    nearer_is_step : (y : ℕ) → IsBest (counted cost k) g sources v y → IsSome (carried_value A k (Some y)) → IsCountedStepOf g cost k number v y u
    nearer_is_step y best_v some =
        let x = tail_number in
        (x.0, x.1, (carry.steps u v x.0 y (best_as u x.0 tail_inside x.1) best_v some).1 near)

  module _ (v y : ℕ) (in_v : HasVertex g v) (is : number v ≡ Some y) (some : IsSome (carried_value A k (Some y))) where
    best_v : IsBest (counted cost k) g sources v y
    best_v = best_as v y in_v is

    reached : IsUnreached A g sources v → ⊥
    reached none = with_value (carried_value A k (Some y)) refl some
      where
        with_value : (o : Option V) → carried_value A k (Some y) ≡ o → IsSome o → ⊥
        with_value None e h = cc
        with_value (Some z) e h = let b = best_if_carried v y z in_v is e in none z b.attained

    -- a vertex with a value, to whose number no arc adds up, is a source
    pub source_if_none : IsLeastTail g cost k number v y None → Contains sources v
    source_if_none none = by_parent (hops_of t v) (parent_of t v) (tree.parents v in_v)
      where
        by_parent : (m p : Option ℕ) → IsParentAt A g sources v m p → Contains sources v
        by_parent None None h = absurd (reached h)
        by_parent None (Some u) h = absurd h
        by_parent (Some j) None h = h
        by_parent (Some j) (Some u) h = absurd (none u (nearer_is_step v u h.nearer y best_v some))

    pub parent_if_step : (u : ℕ) → IsCountedParent g cost k number v y u → IsParent A g sources v u
    parent_if_step u h = (carry.parents number v y u best_v some (known_into v)).0 h

    hops_at : AreHops A g sources v (y % 2 ^ k)
    hops_at = carry.hops v y best_v some

    pub told_by_tail : (z : V) (found : Option (ℕ × ℕ)) → carried_value A k (Some y) ≡ Some z → IsLeastTail g cost k number v y found →
        IsToldOf A g sources v (Some z) (Some (y % 2 ^ k)) (option_map (λ tail. tail.0) found)
    told_by_tail z None e none = (best_if_carried v y z in_v is e, hops_at, source_if_none none)
    told_by_tail z (Some tail) e least = (best_if_carried v y z in_v is e, hops_at, parent_if_step tail.0 least.1)

  -- what a chain that adds up is, from its first vertex on
  record Chained (u : ℕ) (rest : List ℕ) (v y : ℕ) : Type 0 where
    inside : HasVertex g u
    first : ℕ
    is : number u ≡ Some first
    some : IsSome (carried_value A k (Some first))
    chain : IsParentChain A g sources u rest v

  chained : (u : ℕ) (rest : List ℕ) (v y : ℕ) → HasVertex g v → number v ≡ Some y → IsSome (carried_value A k (Some y)) →
      IsCountedChain g cost k number u rest v → Chained u rest v y
  chained u [] v y in_v is some h = record {
    inside = subst (λ (n : ℕ). HasVertex g n) (sym h) in_v;
    first = y;
    is = ap number h ∙ is;
    some = some;
    chain = h;
  }
  chained u (w ∷ rest) v y in_v is some h =
      let on = chained w rest v y in_v is some h.1 in
      let same : h.0.0 ≡ on.first = same_some (number w) h.0.0 on.first h.0.1 on.is in
      let step = subst (λ (n : ℕ). IsCountedParent g cost k number w n u) same h.0.2 in
      let parent = parent_if_step w on.first on.inside on.is on.some u step in
      let x = tail_number w u parent.nearer in
      record {
        inside = (tail_inside w u parent.nearer);
        first = x.0;
        is = x.1;
        some = x.2;
        chain = (parent, on.chain);
      }

  module _ (v y : ℕ) (in_v : HasVertex g v) (is : number v ≡ Some y) (some : IsSome (carried_value A k (Some y))) (list : List ℕ)
      (route : IsCountedRoute g cost k number v list) where
    on_route : Chained route.first route.rest v y
    on_route = chained route.first route.rest v y in_v is some route.chain

    begins : Contains sources route.first
    begins =
        let c = on_route in
        let same : route.begins.0 ≡ c.first = same_some (number route.first) route.begins.0 c.first route.begins.1 c.is in
        source_if_none route.first c.first c.inside c.is c.some
        (subst (λ (n : ℕ). IsLeastTail g cost k number route.first n None) same route.begins.2)

    -- a route that adds up is the one of the tree
    route_is : IsParentRoute A g sources v list
    route_is = record {
      first = route.first;
      rest = route.rest;
      is = route.is;
      begins = begins;
      chain = on_route.chain;
    }

    pub route_told : (h : ℕ) → h ≡ y % 2 ^ k → AreHops A g sources v h × IsParentRoute A g sources v list
    route_told h e = (subst (λ (n : ℕ). AreHops A g sources v n) (sym e) (hops_at v y in_v is some), route_is)
