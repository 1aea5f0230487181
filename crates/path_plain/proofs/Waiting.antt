-- The queue of open vertices.
use Rattle.path_plain.proofs.Words.{◌≡◌, ℕ, ◌+◌, ◌<◌, ◌≤◌, inl, inr, Bool, true, false, List, [], ◌∷◌, length, get_or, set, ap, sym, ◌∙◌, subst, arith, Option, Some, None, get_or-set_same, get_or-set_other, length-set, not, cases_eq, Contains-permutation, IsPermutation-sym, IsTrue, Contains, IsPermutation, IsUpperBound, head_or_tail, here, later, IsOrder, IsBestOpen, ranked_cmp, bound_is_ahead, IsQueue}
use Rattle.road_graph.specs.GraphData.{GraphData, IsAscendingFrom, ListsArcsFrom}
use Rattle.path_plain.specs.Ties.{IsFirstOfEquals}

module _ {K V : Type 0} (value : K → V) (place : K → ℕ) (no_worse : V → V → Bool) (ordered : IsOrder no_worse) (labels : List (Option V)) (settled : List Bool) (items : List K)
    (known : IsQueue value place no_worse labels settled items) where
  pub queue_offer : (i : ℕ) (z : V) (new : K) (next : List K) → i < length labels → ((y : V) → get_or labels i None ≡ Some y → IsTrue (no_worse z y)) →
      IsPermutation (new ∷ items) next → value new ≡ z → place new ≡ i → IsQueue value place no_worse (set labels i (Some z)) settled next
  queue_offer i z new next lt better moved is_z is_i = record {
    entries = λ e h. elim (head_or_tail new e items (Contains-permutation next (new ∷ items) e (IsPermutation-sym (new ∷ items) next moved) h)) [
      | inl fresh ↦
          let at : place e ≡ i = ap place (sym fresh) ∙ is_i in
          let worth : z ≡ value e = sym is_z ∙ ap value fresh in
          (simp length-set (omega arith), (z, rw at (get_or-set_same labels i (Some z) None lt), subst (λ (v : V). IsTrue (no_worse z v)) worth (elim (ordered.total z z) [ inl r ↦ r | inr r ↦ r ])))
      | inr old ↦
          let was = known.entries e old in (
            simp length-set was.0,
            elim (cases_eq (place e) i) [
              | inl same ↦ let read : get_or labels i None ≡ Some was.1.0 = ap (λ (k : ℕ). get_or labels k None) (sym same) ∙ was.1.1 in
                  (z, rw same (get_or-set_same labels i (Some z) None lt), ordered.transitive z was.1.0 (value e) (better was.1.0 read) was.1.2)
              | inr other ↦ (was.1.0, get_or-set_other labels i (place e) (Some z) None other ∙ was.1.1, was.1.2)
            ],
          )
    ];
    covers = λ k y k_lt o e. elim (cases_eq k i) [
      | inl same ↦
          let read : get_or (set labels i (Some z)) k None ≡ Some z = rw same (get_or-set_same labels i (Some z) None lt) in
          let worth : Some z ≡ Some y = sym read ∙ e in
          (new, Contains-permutation (new ∷ items) next new moved (here new items), is_z ∙ (cc), is_i ∙ sym same)
      | inr other ↦
          let was = known.covers k y (simp length-set at k_lt) o (sym (get_or-set_other labels i k (Some z) None other) ∙ e) in
          (was.0, Contains-permutation (new ∷ items) next was.0 moved (later new was.0 items was.1), was.2, was.3)
    ];
  }

  module _ (top : K) (rest : List K) (moved : IsPermutation items (top ∷ rest)) where
    in_items : (e : K) → Contains rest e → Contains items e
    in_items e h = Contains-permutation (top ∷ rest) items e (IsPermutation-sym items (top ∷ rest) moved) (later top e rest h)

    top_in : Contains items top
    top_in = Contains-permutation (top ∷ rest) items top (IsPermutation-sym items (top ∷ rest) moved) (here top rest)

    left : (k : ℕ) (y : V) (e : K) → Contains items e → value e ≡ y → place e ≡ k → (k ≡ place top → ⊥) → (f : K) × Contains rest f × (value f ≡ y) × (place f ≡ k)
    left k y e h v p ne = elim (head_or_tail top e rest (Contains-permutation items (top ∷ rest) e moved h)) [
      | inl same ↦ absurd (ne (sym p ∙ ap place (sym same)))
      | inr other ↦ (e, other, v, p)
    ]

    -- an entry of a settled place is dropped
    pub queue_skip : get_or settled (place top) false ≡ true → IsQueue value place no_worse labels settled rest
    queue_skip t = record {
      entries = λ e h. known.entries e (in_items e h);
      covers = λ k y lt o e. let was = known.covers k y lt o e in
          left k y was.0 was.1 was.2 was.3 (λ same. let bad : false ≡ true = sym o ∙ ap (λ (j : ℕ). get_or settled j false) same ∙ t in cc);
    }

    -- the place of the top entry is settled
    pub queue_settle : place top < length settled → IsQueue value place no_worse labels (set settled (place top) true) rest
    queue_settle in_settled = record {
      entries = λ e h. known.entries e (in_items e h);
      covers = λ k y lt o e. elim (cases_eq k (place top)) [
        | inl same ↦ let t : get_or (set settled (place top) true) k false ≡ true = rw same (get_or-set_same settled (place top) true false in_settled) in
            let bad : true ≡ false = sym t ∙ o in cc
        | inr other ↦ let was = known.covers k y lt (sym (get_or-set_other settled (place top) k true false other) ∙ o) e in
            left k y was.0 was.1 was.2 was.3 other
      ];
    }

    module _ (upper : IsUpperBound (ranked_cmp value place no_worse) top items) where
      ahead : (e : K) → Contains items e → IsTrue (no_worse (value top) (value e)) × (IsTrue (no_worse (value e) (value top)) → place top ≤ place e)
      ahead e h = bound_is_ahead value place no_worse items top upper e h

      -- the top entry is the best open vertex
      pub queue_best : get_or settled (place top) false ≡ false → IsBestOpen no_worse labels settled (length labels) (place top) (value top)
      queue_best o =
          let was = known.entries top top_in in
          let cover = known.covers (place top) was.1.0 was.0 o was.1.1 in
          let same : was.1.0 ≡ value top = ordered.antisymmetric was.1.0 (value top) was.1.2 (subst (λ (v : V). IsTrue (no_worse (value top) v)) cover.2 (ahead cover.0 cover.1).0) in
          record {
            below = was.0;
            is_open = o;
            label = was.1.1 ∙ ap (λ (v : V). Some v) same;
            least = λ j j_lt y j_open e. let c = known.covers j y j_lt j_open e in subst (λ (v : V). IsTrue (no_worse (value top) v)) c.2 (ahead c.0 c.1).0;
          }

      -- and the least of those with its value
      pub queue_first : IsFirstOfEquals labels settled (place top) (value top)
      queue_first j j_lt j_open e =
          let c = known.covers j (value top) j_lt j_open e in
          let self : IsTrue (no_worse (value top) (value top)) = elim (ordered.total (value top) (value top)) [ inl r ↦ r | inr r ↦ r ] in
          let back : IsTrue (no_worse (value c.0) (value top)) = subst (λ (v : V). IsTrue (no_worse v (value top))) (sym c.2) self in
          subst (λ (k : ℕ). place top ≤ k) c.3 ((ahead c.0 c.1).1 back)

pub worse_than_offered : {V : Type 0} (no_worse : V → V → Bool) (ordered : IsOrder no_worse) (old : Option V) (w z : V) (answer better : Bool) →
    old ≡ Some w → answer ≡ no_worse w z → better ≡ not answer → better ≡ true → (y : V) → old ≡ Some y → IsTrue (no_worse z y)
worse_than_offered {V} no_worse ordered old w z true better e a n t y f = let bad : true ≡ false = sym t ∙ n in cc
worse_than_offered {V} no_worse ordered old w z false better e a n t y f =
    let same : w ≡ y = cc in
    subst (λ (v : V). IsTrue (no_worse z v)) same (elim (ordered.total w z) [ inl h ↦ (let bad : false ≡ true = a ∙ h in cc) | inr h ↦ h ])

pub none_is_worse : {V : Type 0} (no_worse : V → V → Bool) (old : Option V) (z : V) → old ≡ None → (y : V) → old ≡ Some y → IsTrue (no_worse z y)
none_is_worse no_worse old z e y f = let bad : None ≡ Some y = sym e ∙ f in cc

-- numbers that rise to at most m are at most m
pub ascending_short : (low m : ℕ) (xs : List ℕ) → IsAscendingFrom low xs → ((c : ℕ) → Contains xs c → c ≤ m) → low ≤ m → length xs + low ≤ m
ascending_short low m [] h below l = omega arith
ascending_short low m (x ∷ xs) h below l =
    let ih : length xs + x ≤ m = ascending_short x m xs h.1 (λ c k. below c (later x c xs k)) (below x (here x xs)) in
    omega (arith, h.0)

pub out_short : (g : GraphData) (v : ℕ) (numbers : List ℕ) → ListsArcsFrom g v numbers → length numbers ≤ length g.arcs
out_short g v numbers h =
    let s = ascending_short 0 (length g.arcs) numbers h.ascending (λ c k. ((h.complete c).0 k).0.1) (omega arith) in omega (arith, s)
