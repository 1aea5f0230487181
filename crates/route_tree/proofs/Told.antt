-- What labels and a tree tell, and what a route is, in the words of walks.
use Rattle.route_tree.proofs.Words.{◌≡◌, ℕ, zero, suc, ◌+◌, ◌≤◌, ◌⊎◌, inl, inr, List, [], ◌∷◌, ◌++◌, length, refl, ap, sym, ◌∙◌, subst, arith, Option, Some, None, length-append, All-nil, All-head, All-tail, Contains, All, ◌↔◌, GraphData, IsGraph, HasVertex, arc_of, Algebra, Branches, hops_of, parent_of, AreHopsAt, IsParentAt, IsTree, IsChain, IsRoute}
use Rattle.road_graph.proofs.Lists.{here, only_element}
use Rattle.path_algebra.specs.Walks.{IsWalk, IsWalkValue, IsTight, IsBestLabel, AreBest, AreHops, IsParent, IsUnreached, label_of, IsParentChain}
use Rattle.route_tree.specs.Told.{IsToldOf, IsParentRoute}
use Rattle.route_tree.specs.Found.{FoundData, IsFoundBetween}

module _ {V : Type 0} (A : Algebra V) (g : GraphData) (sources : List ℕ) where
  tight_end : (u : ℕ) (p : List ℕ) (v : ℕ) → IsWalk g u p v → All (IsTight A g sources) p → (u ≡ v) ⊎ ((x : V) × IsWalkValue A g sources v x)
  tight_end u [] v w all = inl w
  tight_end u (a ∷ p) v w all =
      let t = All-head (IsTight A g sources) a p all in
      elim (tight_end (arc_of g a).head p v w.2 (All-tail (IsTight A g sources) a p all)) [
        | inl same ↦ inr (t.head, subst (λ (n : ℕ). IsWalkValue A g sources n t.head) same t.head_best.attained)
        | inr r ↦ inr r
      ]

  -- a vertex with hops has a walk with a value
  pub hops_have_value : (v k : ℕ) → AreHops A g sources v k → (x : V) × IsWalkValue A g sources v x
  hops_have_value v k h =
      let w = h.attained in
      elim (tight_end w.1.0 w.0 v w.1.2 w.2) [ inl same ↦ (A.origin, ([], (w.1.0, w.1.1, same), refl)) | inr r ↦ r ]

  told_at : (v : ℕ) (l : Option V) (m p : Option ℕ) → IsBestLabel A g sources v l → AreHopsAt A g sources v m → IsParentAt A g sources v m p → IsToldOf A g sources v l m p
  told_at v None None None b h q = b
  told_at v None None (Some u) b h q = q
  told_at v None (Some k) p b h q = let w = hops_have_value v k h in absurd (b w.0 w.1)
  told_at v (Some x) None p b h q = absurd (h x b.attained)
  told_at v (Some x) (Some k) None b h q = (b, h, q)
  told_at v (Some x) (Some k) (Some u) b h q = (b, h, q)

  pub told : (labels : List (Option V)) (t : Branches) → AreBest A g sources labels → IsTree A g sources t → (v : ℕ) → HasVertex g v →
      IsToldOf A g sources v (label_of labels v) (hops_of t v) (parent_of t v)
  told labels t best is v in_v = told_at v (label_of labels v) (hops_of t v) (parent_of t v) (best.best v in_v) (is.hops v in_v) (is.parents v in_v)

  -- hops of 0 are those of a source
  source_at_none : (v k : ℕ) → AreHops A g sources v k → k ≡ 0 → Contains sources v
  source_at_none v k h e =
      let w = h.attained in
      let n = w.3 in
      empty w.1.0 w.0 v w.1.2 w.1.1 (omega (arith, n, e))
    where
      empty : (s : ℕ) (p : List ℕ) (v : ℕ) → IsWalk g s p v → Contains sources s → length p ≡ 0 → Contains sources v
      empty s [] v w in_s z = subst (λ (u : ℕ). Contains sources u) w in_s
      empty s (a ∷ p) v w in_s z = absurd (omega (arith, z))

  hops_at : (v : ℕ) (l : Option ℕ) (k : ℕ) → l ≡ Some k → AreHopsAt A g sources v l → AreHops A g sources v k
  hops_at v None k e h = let bad : None ≡ Some k = e in cc
  hops_at v (Some j) k e h = let same : j ≡ k = cc in subst (λ (i : ℕ). AreHops A g sources v i) same h

  module _ (roads : IsGraph g) (t : Branches) (tree : IsTree A g sources t) where
    parent_at : (v : ℕ) (m p : Option ℕ) (u : ℕ) → p ≡ Some u → IsParentAt A g sources v m p → IsParent A g sources v u
    parent_at v m None u e q = let bad : None ≡ Some u = e in cc
    parent_at v None (Some w) u e q = absurd q
    parent_at v (Some k) (Some w) u e q = let same : w ≡ u = cc in subst (λ (n : ℕ). IsParent A g sources v n) same q

    -- a chain of parents within the graph, from a vertex of the graph on
    chain_is : (u : ℕ) (rest : List ℕ) (v : ℕ) → HasVertex g v → IsChain t u rest v → HasVertex g u × IsParentChain A g sources u rest v
    chain_is u [] v in_v h = (subst (λ (n : ℕ). HasVertex g n) (sym h) in_v, h)
    chain_is u (w ∷ rest) v in_v h =
        let later = chain_is w rest v in_v h.1 in
        let p = parent_at w (hops_of t w) (parent_of t w) u h.0 (tree.parents w later.0) in
        (subst (λ (n : ℕ). HasVertex g n) p.nearer.2 ((roads.ends p.nearer.0 p.nearer.1.arc).0), (p, later.1))

    pub route_is : (v : ℕ) (list : List ℕ) → HasVertex g v → IsRoute t v list → IsParentRoute A g sources v list
    route_is v list in_v r =
        let c = chain_is r.first r.rest v in_v r.chain in
        record {
          first = r.first;
          rest = r.rest;
          is = r.is;
          begins = source_at_none r.first 0 (hops_at r.first (hops_of t r.first) 0 r.begins (tree.hops r.first c.0)) refl;
          chain = c.1;
        }

  -- the last step of a chain
  chain_last : (u : ℕ) (rest : List ℕ) (v : ℕ) → IsParentChain A g sources u rest v →
      ((rest ≡ []) × (u ≡ v)) ⊎ ((front : List ℕ) × (w : ℕ) × (rest ≡ front ++ v ∷ []) × IsParentChain A g sources u front w × IsParent A g sources v w)
  chain_last u [] v h = inl (refl, h)
  chain_last u (x ∷ rest) v h = elim (chain_last x rest v h.1) [
    | inl e ↦ let none = e.0 in let same = e.1 in inr ([], u, (cc), refl, subst (λ (n : ℕ). IsParent A g sources n u) same h.0)
    | inr r ↦ inr (x ∷ r.0, r.1, ap (λ (xs : List ℕ). x ∷ xs) r.2, (h.0, r.3), r.4)
  ]

  one_parent : (v u w : ℕ) → IsParent A g sources v u → IsParent A g sources v w → u ≡ w
  one_parent v u w p q = let low = p.least w q.nearer in let high = q.least u p.nearer in omega (arith, low, high)

  -- two chains from sources on to v are the same if those to the vertices before v are
  same_before : (n s u : ℕ) (l m : List ℕ) (v : ℕ) → length l ≤ n → Contains sources s → Contains sources u → IsParentChain A g sources s l v → IsParentChain A g sources u m v →
      ((front back : List ℕ) (w : ℕ) → length front + 1 ≤ n → IsParentChain A g sources s front w → IsParentChain A g sources u back w → s ∷ front ≡ u ∷ back) → s ∷ l ≡ u ∷ m
  same_before n s u l m v le in_s in_u h k before = elim (chain_last s l v h) [
    | inl e ↦ elim (chain_last u m v k) [
      | inl f ↦ let a = e.0 in let b = e.1 in let c = f.0 in let d = f.1 in cc
      | inr f ↦ absurd (f.4.no_source (subst (λ (y : ℕ). Contains sources y) e.1 in_s))
    ]
    | inr e ↦ elim (chain_last u m v k) [
      | inl f ↦ absurd (e.4.no_source (subst (λ (y : ℕ). Contains sources y) f.1 in_u))
      | inr f ↦
          let count = ap length e.2 in
          let more = length-append e.0 (v ∷ []) in
          let fronts = before e.0 f.0 e.1 (omega (arith, le, count, more)) e.3 (subst (λ (y : ℕ). IsParentChain A g sources u f.0 y) (one_parent v f.1 e.1 f.4 e.4) f.3) in
          let longer : s ∷ (e.0 ++ v ∷ []) ≡ u ∷ (f.0 ++ v ∷ []) = ap (λ (xs : List ℕ). xs ++ v ∷ []) fronts in
          ap (λ (xs : List ℕ). s ∷ xs) e.2 ∙ longer ∙ ap (λ (xs : List ℕ). u ∷ xs) (sym f.2)
    ]
  ]

  one_chain : (n s u : ℕ) (l m : List ℕ) (v : ℕ) → length l ≤ n → Contains sources s → Contains sources u →
      IsParentChain A g sources s l v → IsParentChain A g sources u m v → s ∷ l ≡ u ∷ m
  one_chain zero s u l m v le in_s in_u h k = same_before zero s u l m v le in_s in_u h k (λ front back w less _ _. absurd (omega (arith, less)))
  one_chain (suc n) s u l m v le in_s in_u h k =
      same_before (suc n) s u l m v le in_s in_u h k (λ front back w less f b. one_chain n s u front back w (omega (arith, less)) in_s in_u f b)

  -- there is one such list
  pub one_route : (v : ℕ) (list other : List ℕ) → IsParentRoute A g sources v list → IsParentRoute A g sources v other → list ≡ other
  one_route v list other h k = h.is ∙ one_chain (length h.rest) h.first k.first h.rest k.rest v (omega arith) h.begins k.begins h.chain k.chain ∙ sym k.is

  pub hops_some : (t : Branches) → IsTree A g sources t → (v k : ℕ) → HasVertex g v → hops_of t v ≡ Some k → (x : V) × IsWalkValue A g sources v x
  hops_some t tree v k in_v e = hops_have_value v k (hops_at v (hops_of t v) k e (tree.hops v in_v))

  pub hops_none : (t : Branches) → IsTree A g sources t → (v : ℕ) → HasVertex g v → hops_of t v ≡ None ↔ IsUnreached A g sources v
  hops_none t tree v in_v = none_at (hops_of t v) (tree.hops v in_v)
    where
      none_at : (l : Option ℕ) → AreHopsAt A g sources v l → l ≡ None ↔ IsUnreached A g sources v
      none_at None h = (λ _. h, λ _. refl)
      none_at (Some k) h = let w = hops_have_value v k h in (λ e. let bad : Some k ≡ None = e in absurd (cc), λ u. absurd (u w.0 w.1))

-- with one source the list begins there
pub from_one : {V : Type 0} (A : Algebra V) (g : GraphData) (s v : ℕ) (list : List ℕ) → IsParentRoute A g (s ∷ []) v list → (rest : List ℕ) × (list ≡ s ∷ rest) × IsParentChain A g (s ∷ []) s rest v
from_one A g s v list r =
    let same = only_element s r.first r.begins in
    (r.rest, r.is ∙ ap (λ (x : ℕ). x ∷ r.rest) (sym same), subst (λ (x : ℕ). IsParentChain A g (s ∷ []) x r.rest v) (sym same) r.chain)

module _ {V : Type 0} (A : Algebra V) (g : GraphData) (sources : List ℕ) where
  pub one_hops : (v j k : ℕ) → AreHops A g sources v j → AreHops A g sources v k → j ≡ k
  one_hops v j k p q = let low = p.least k q.attained in let high = q.least j p.attained in omega (arith, low, high)

  -- along parents each vertex has one hop more than the one before
  chain_hops : (u j : ℕ) (rest : List ℕ) (v k : ℕ) → AreHops A g sources u j → IsParentChain A g sources u rest v → AreHops A g sources v k → j + length rest ≡ k
  chain_hops u j [] v k at_u same at_v =
      let one = one_hops v j k (subst (λ (n : ℕ). AreHops A g sources n j) same at_u) at_v in omega (arith, one)
  chain_hops u j (w ∷ rest) v k at_u chain at_v =
      let near = chain.0.nearer in
      let one = one_hops u near.4.0 j near.4.1 at_u in
      let later = chain_hops w (near.4.0 + 1) rest v k near.4.2 chain.1 at_v in
      omega (arith, one, later)

-- a route has one vertex more than hops
pub route_count : {V : Type 0} (A : Algebra V) (g : GraphData) (s t : ℕ) (f : FoundData) → IsFoundBetween A g s t f → length f.route ≡ f.hops + 1
route_count A g s t f h =
    let none : AreHops A g (s ∷ []) s 0 = record {
      attained = ([], (s, here s [], refl), All-nil (IsTight A g (s ∷ [])), refl);
      least = λ j _. omega arith;
    } in
    let count = chain_hops A g (s ∷ []) s 0 h.route.0 t f.hops none h.route.2 h.hops in
    let whole = ap length h.route.1 in
    omega (arith, count, whole)
