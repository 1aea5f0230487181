-- Along a route each best step leads to the best value, so the arcs of a route have the best value
-- of its target.
use Rattle.std.proofs.Common.{◌≡◌, ℕ, ◌+◌, ◌-◌, ◌<◌, ◌≤◌, ◌∙◌, List, [], ◌∷◌, ◌++◌, length, take, drop, get_or, set, Some, refl, ap, sym, subst, arith, add-one, drop-cons, length-set}
use Rattle.std.proofs.lemmas.List.{take_all, take_more, take_more_set}
use Rattle.std.proofs.Math.ListN.{drop_of_length-le}
use Rattle.road_graph.proofs.Lists.{here}
use Rattle.arc_numbers.proofs.Words.{IsTrue, HasSameRoads, IsReordered}
use Rattle.road_graph.specs.GraphData.{GraphData, HasVertex, IsGraph, arc_of}
use Rattle.path_algebra.specs.Algebra.{Algebra, IsLawful}
use Rattle.path_algebra.specs.Walks.{IsBest, IsBestCode, IsParent, IsParentChain, IsWalkValue}
use Rattle.path_algebra.proofs.Walks.{IsWalkValue-extend}
use Rattle.path_algebra.proofs.Tight.{best_is_one, never_better_along}
use Rattle.arc_numbers.specs.RouteArcs.{AreRouteArcs, AreStepsAlong, IsBestStep, IsStep}
use Rattle.arc_numbers.proofs.Reordered.{like}

module _ {V : Type 0} (A : Algebra V) (lawful : IsLawful A) (g h : GraphData) (roads : IsGraph g) (reordered : IsReordered g h) (sources : List ℕ) where
  swapped : (u : ℕ) → HasVertex g u → HasSameRoads h g u
  swapped u has = let (out, from, to) = reordered.roads u has in (out, to, from)

  -- the parent of a vertex is one
  pub parent_in : (v u : ℕ) → IsParent A g sources v u → HasVertex g u
  parent_in v u p = subst (HasVertex g) p.nearer.2 ((roads.ends p.nearer.0 p.nearer.1.arc).0)

  module _ (u v : ℕ) (x : V) (best : IsBest A g sources u x) (parent : IsParent A g sources v u) where
    -- from a parent some step leads to the best value
    tight_step : (y : V) × IsBest A g sources v y × ((b : ℕ) × IsStep A h x u v b y)
    tight_step =
        let (a, tight, tail, head, _) = parent.nearer in
        let value : tight.tail ≡ x = best_is_one A lawful g roads sources u tight.tail x (subst (λ (w : ℕ). IsBest A g sources w tight.tail) tail tight.tail_best) best in
        let step : IsStep A g x u v a tight.head = record {
          arc = tight.arc;
          tail = tail;
          head = head;
          extends = subst (λ (w : V). A.extend w (arc_of g a).weight ≡ Some tight.head) value tight.extends;
        } in
        (tight.head, subst (λ (w : ℕ). IsBest A g sources w tight.head) head tight.head_best, like A g h x u v (reordered.roads u (parent_in v u parent)) a tight.head step)

    -- each step leads to a value of a walk
    walk_after : (a : ℕ) (y : V) → IsStep A h x u v a y → IsWalkValue A g sources v y
    walk_after a y step =
        let (b, s) = like A h g x u v (swapped u (parent_in v u parent)) a y step in
        subst (λ (w : ℕ). IsWalkValue A g sources w y) s.head (IsWalkValue-extend A g sources u b x y best.attained s.arc s.tail s.extends)

    pub best_after : (a : ℕ) (y : V) → IsBestStep A h x u v a y → IsBest A g sources v y
    best_after a y step =
        let (z, is, (b, other)) = tight_step in
        let same : z ≡ y = lawful.ordered.antisymmetric z y (is.least y (walk_after a y step.step)) (step.best b z other) in
        subst (λ (w : V). IsBest A g sources v w) same is

    pub has_step : ((b : ℕ) (z : V) → IsStep A h x u v b z → ⊥) → ⊥
    has_step none = let (z, _, (b, step)) = tight_step in none b z step

-- steps from u with the value x along a list to v with the value y
abbrev pub AreStepsTo : {V : Type 0} → Algebra V → GraphData → ℕ → List ℕ → ℕ → V → List ℕ → V → Type 0
AreStepsTo A g u [] v x [] y = (u ≡ v) × (x ≡ y)
AreStepsTo {V} A g u (w ∷ rest) v x (a ∷ arcs) y = (z : V) × IsBestStep A g x u w (a + 1) z × AreStepsTo A g w rest v z arcs y
AreStepsTo A g u [] v x (a ∷ arcs) y = ⊥
AreStepsTo A g u (w ∷ rest) v x [] y = ⊥

module _ {V : Type 0} (A : Algebra V) (g : GraphData) where
  pub one_more_step : (u : ℕ) (vs : List ℕ) (v : ℕ) (x : V) (arcs : List ℕ) (y : V) (w a : ℕ) (z : V) → AreStepsTo A g u vs v x arcs y → IsBestStep A g y v w (a + 1) z →
      AreStepsTo A g u (vs ++ w ∷ []) w x (arcs ++ a ∷ []) z
  one_more_step u [] v x [] y w a z h s =
      (z, subst (λ (k : ℕ). IsBestStep A g x k w (a + 1) z) (sym h.0) (subst (λ (r : V). IsBestStep A g r v w (a + 1) z) (sym h.1) s), (refl, refl))
  one_more_step u [] v x (b ∷ arcs) y w a z h s = absurd h
  one_more_step u (t ∷ vs) v x [] y w a z h s = absurd h
  one_more_step u (t ∷ vs) v x (b ∷ arcs) y w a z h s = (h.0, h.1, one_more_step t vs v h.0 arcs y w a z h.2 s)

  pub steps_along : (u : ℕ) (vs : List ℕ) (v : ℕ) (x : V) (arcs : List ℕ) (y : V) → AreStepsTo A g u vs v x arcs y → AreStepsAlong A g u vs x arcs y
  steps_along u [] v x [] y h = h.1
  steps_along u [] v x (b ∷ arcs) y h = absurd h
  steps_along u (t ∷ vs) v x [] y h = absurd h
  steps_along u (t ∷ vs) v x (b ∷ arcs) y h = (h.0, h.1, steps_along t vs v h.0 arcs y h.2)

module _ {V : Type 0} (A : Algebra V) (g h : GraphData) (s : ℕ) (route : List ℕ) where
  -- after i steps of a route from s: the arcs of these are written, and at the vertex that is
  -- reached the value is best
  pub record Follows (i at : ℕ) (x : V) (arcs : List ℕ) : Type 0 where
    pub long : length arcs ≡ length route
    pub so_far : AreStepsTo A h s (take i route) at A.origin (take i arcs) x
    pub best : IsBest A g (s ∷ []) at x
    pub chain : (t : ℕ) → IsParentChain A g (s ∷ []) s route t → IsParentChain A g (s ∷ []) at (drop i route) t

  module _ (lawful : IsLawful A) (roads : IsGraph g) (reordered : IsReordered g h) where
    best_at_source : IsBest A g (s ∷ []) s A.origin
    best_at_source = record {
      attained = ([], (s, here s [], refl), refl);
      least = λ y w. never_better_along A lawful g roads w.1.0 w.0 s A.origin y w.1.2 lawful.origin_is_value w.2;
    }

    pub start : (x : V) (arcs : List ℕ) → x ≡ A.origin → length arcs ≡ length route → Follows 0 s x arcs
    start x arcs is long = record {
      long = long;
      so_far = (refl, sym is);
      best = subst (λ (y : V). IsBest A g (s ∷ []) s y) (sym is) best_at_source;
      chain = λ t chain. chain;
    }

    module _ (t : ℕ) (chain : IsParentChain A g (s ∷ []) s route t) (i at : ℕ) (x : V) (arcs : List ℕ) (follows : Follows i at x arcs) where
      module _ (lt : i < length route) where
        parent : IsParent A g (s ∷ []) (get_or route i 0) at
        parent = (subst (λ (vs : List ℕ). IsParentChain A g (s ∷ []) at vs t) (drop-cons route i 0 lt) (follows.chain t chain)).0

        pub tail_in : HasVertex g at
        tail_in = parent_in A lawful g h roads reordered (s ∷ []) (get_or route i 0) at parent

        pub some_step : ((b : ℕ) (z : V) → IsStep A h x at (get_or route i 0) b z → ⊥) → ⊥
        some_step none = has_step A lawful g h roads reordered (s ∷ []) at (get_or route i 0) x follows.best parent none

        pub follow : (a : ℕ) (y : V) → IsBestStep A h x at (get_or route i 0) a y → Follows (i + 1) (get_or route i 0) y (set arcs i (a - 1))
        follow a y step = let from_1 : a - 1 + 1 ≡ a = omega (arith, step.step.arc.0) in record {
          long = length-set arcs i (a - 1) ∙ follows.long;
          so_far = rw (take_more route i 0 lt, take_more_set arcs i (a - 1) (let n = follows.long in omega (arith, n, lt)))
              (one_more_step A h s (take i route) at A.origin (take i arcs) x (get_or route i 0) (a - 1) y follows.so_far
              (subst (λ (b : ℕ). IsBestStep A h x at (get_or route i 0) b y) (sym from_1) step));
          best = best_after A lawful g h roads reordered (s ∷ []) at (get_or route i 0) x follows.best parent a y step;
          chain = λ u all. subst (λ (k : ℕ). IsParentChain A g (s ∷ []) (get_or route i 0) (drop k route) u) (sym (add-one i))
              (subst (λ (vs : List ℕ). IsParentChain A g (s ∷ []) at vs u) (drop-cons route i 0 lt) (follows.chain u all)).1;
        }

      pub arrive : (code : ℕ) → length route ≤ i → IsBestCode A g (s ∷ []) t code → AreRouteArcs A h (s ∷ route) arcs code
      arrive code done best =
          let there : at ≡ t = subst (λ (vs : List ℕ). IsParentChain A g (s ∷ []) at vs t) (drop_of_length-le route done) (follows.chain t chain) in
          let same : best.0 ≡ x = best_is_one A lawful g roads (s ∷ []) t best.0 x best.1 (subst (λ (v : ℕ). IsBest A g (s ∷ []) v x) there follows.best) in
          let all : take i route ≡ route = take_all i route done in
          let whole : take i arcs ≡ arcs = take_all i arcs (let n = follows.long in omega (arith, n, done)) in
          record {
            source = s;
            rest = route;
            route_is = refl;
            value = x;
            along = steps_along A h s route at A.origin arcs x
                (subst (λ (vs : List ℕ). AreStepsTo A h s vs at A.origin arcs x) all (subst (λ (p : List ℕ). AreStepsTo A h s (take i route) at A.origin p x) whole follows.so_far));
            code_is = best.2 ∙ ap A.code same;
          }
