-- One vertex that is visited, and one level.
use Rattle.route_tree.proofs.Words.{drop, drop-cons, add-one, ◌≡◌, ℕ, suc, ◌+◌, ◌<◌, ◌≤◌, inl, inr, Bool, false, cond, List, [], ◌∷◌, length, get_or, refl, ap, sym, ◌∙◌, arith, Option, drop_of_length-le, get_or-map, length-map, get_or_default, GraphData, IsGraph, HasArc, arc_of, ListsArcsFrom, road_of, roads_of, OutRoad, not_in_empty, head_or_tail, here, later, Algebra, label_of, is_tight_between, hops_if, parents_if, next_if, Visiting}
use Rattle.route_tree.specs.Regions.{in_region, is_tight_into}
use Rattle.route_tree.proofs.OneArc.{visit_arc}

module _ (g : GraphData) (v : ℕ) (numbers : List ℕ) (lists : ListsArcsFrom g v numbers) (out : List OutRoad) (are : out ≡ roads_of g numbers) where
  pub same_length : length out ≡ length numbers
  same_length = rw are (simp length-map)

  -- the road at a place of a row is that of the arc at this place, which leaves v
  pub road_at : (i : ℕ) (r : OutRoad) → i < length out → r ≡ get_or out i r → HasArc g (get_or numbers i 0) × ((arc_of g (get_or numbers i 0)).tail ≡ v) × (r ≡ road_of (arc_of g (get_or numbers i 0)))
  road_at i r lt is =
      let in_numbers : i < length numbers = omega (arith, same_length) in
      let at : get_or out i r ≡ road_of (arc_of g (get_or numbers i 0)) = ap (λ (o : List OutRoad). get_or o i r) are ∙ get_or-map (λ a. road_of (arc_of g a)) numbers i 0 r in_numbers in
      let has = (lists.complete (get_or numbers i 0)).0 (i, in_numbers, get_or_default numbers i (get_or numbers i 0) 0 in_numbers) in
      (has.0, has.1, is ∙ at)

-- whether an arc is tight and leads into a region, by its road
pub is_tight_by_road : {V : Type 0} (A : Algebra V) (g : GraphData) (labels : List (Option V)) (region : Option (List Bool)) (a v : ℕ) (r : OutRoad) (l : Option V) →
    (arc_of g a).tail ≡ v → r ≡ road_of (arc_of g a) → l ≡ label_of labels v →
    is_tight_into A g labels region a ≡ cond (in_region region r.head) (is_tight_between A l r.weight (label_of labels r.head)) false
is_tight_by_road A g labels region a v r l leaves is e = rw (is, leaves, e) refl

module _ (g : GraphData) (test : ℕ → Bool) (sources : List ℕ) (k : ℕ) (hops parents : List (Option ℕ)) where
  -- the first vertex that waits gives way to its arcs
  pub visit_open : (v : ℕ) (pending next out : List ℕ) → ListsArcsFrom g v out → Visiting g test sources k hops parents (v ∷ pending) [] next →
      Visiting g test sources k hops parents pending out next
  visit_open v pending next out lists known = record {
    count = known.count;
    parents_count = known.parents_count;
    attained = known.attained;
    at_sources = known.at_sources;
    few = known.few;
    adopted = known.adopted;
    pending_at = λ u h. known.pending_at u (later v u pending h);
    next_at = known.next_at;
    arcs_at = λ a h. let f = (lists.complete a).0 h in (f.0, ap (label_of hops) f.1 ∙ (known.pending_at v (here v pending)).1);
    closed = λ a j h t e. elim (known.closed a j h t e) [
      | inl none ↦ absurd (not_in_empty a none)
      | inr r ↦ elim r [
        | inl waits ↦ elim (head_or_tail v (arc_of g a).tail pending waits) [ inl same ↦ inl ((lists.complete a).1 (h, sym same)) | inr q ↦ inr (inl q) ]
        | inr s ↦ inr (inr s)
      ]
    ];
  }

  pub arcs_done : (pending next out : List ℕ) (i : ℕ) → length out ≤ i → Visiting g test sources k hops parents pending (drop i out) next → Visiting g test sources k hops parents pending [] next
  arcs_done pending next out i h known = rw (drop_of_length-le out h) at known

  -- the next level's turn
  pub visit_level : (next : List ℕ) → Visiting g test sources k hops parents [] [] next → Visiting g test sources (k + 1) hops parents next [] []
  visit_level next known = record {
    count = known.count;
    parents_count = known.parents_count;
    attained = known.attained;
    at_sources = known.at_sources;
    few = λ v j in_v e. let b = known.few v j in_v e in omega (arith, b);
    adopted = known.adopted;
    pending_at = known.next_at;
    next_at = λ v h. absurd (not_in_empty v h);
    arcs_at = λ a h. absurd (not_in_empty a h);
    closed = λ a j h t e. elim (known.closed a j h t e) [
      | inl none ↦ absurd (not_in_empty a none)
      | inr r ↦ elim r [ inl none ↦ absurd (not_in_empty _ none) | inr s ↦ elim s [ inl waits ↦ inr (inl waits) | inr done ↦ inr (inr (inr done)) ] ]
    ];
  }

  pub level_done : (level next : List ℕ) (i : ℕ) → length level ≤ i → Visiting g test sources k hops parents (drop i level) [] next → Visiting g test sources k hops parents [] [] next
  level_done level next i h known = rw (drop_of_length-le level h) at known

  -- the vertex at place i of a level
  pub level_once : (level next : List ℕ) (i v : ℕ) (hops' parents' : List (Option ℕ)) (next' : List ℕ) → i < length level → v ≡ get_or level i v →
      ((pending : List ℕ) → Visiting g test sources k hops parents (v ∷ pending) [] next → Visiting g test sources k hops' parents' pending [] next') →
      Visiting g test sources k hops parents (drop i level) [] next → Visiting g test sources k hops' parents' (drop (i + 1) level) [] next'
  level_once level next i v hops' parents' next' lt is goes known =
      let cut : drop i level ≡ v ∷ drop (i + 1) level = rw add-one (drop-cons level i v lt ∙ ap (λ (b : ℕ). b ∷ drop (suc i) level) (sym is)) in
      goes (drop (i + 1) level) (rw cut at known)

module _ (g : GraphData) (roads : IsGraph g) (test : ℕ → Bool) (sources : List ℕ) (k : ℕ) (hops parents : List (Option ℕ)) where
  -- the arc at place i of a row; `passes` tells whether it passes the test
  visit_once : (v : ℕ) (pending next numbers : List ℕ) (i a : ℕ) (passes : Bool) → i < length numbers → a ≡ get_or numbers i a → (arc_of g a).tail ≡ v → test a ≡ passes →
      Visiting g test sources k hops parents pending (drop i numbers) next →
      Visiting g test sources k (cond passes (hops_if (k + 1) hops (arc_of g a).head (label_of hops (arc_of g a).head)) hops)
      (cond passes (parents_if (k + 1) parents (arc_of g a).head v (label_of hops (arc_of g a).head)) parents)
      pending (drop (i + 1) numbers) (cond passes (next_if next (arc_of g a).head (label_of hops (arc_of g a).head)) next)
  visit_once v pending next numbers i a passes lt is leaves t known =
      let cut : drop i numbers ≡ a ∷ drop (i + 1) numbers = rw add-one (drop-cons numbers i a lt ∙ ap (λ (b : ℕ). b ∷ drop (suc i) numbers) (sym is)) in
      rw (← leaves) (visit_arc g roads test sources k hops parents pending next (drop (i + 1) numbers) a (rw cut at known) passes t (label_of hops (arc_of g a).head) refl)

  -- the road at place i
  pub visit_road : (v : ℕ) (pending next numbers : List ℕ) (i : ℕ) (r : OutRoad) (passes : Bool) (hops' parents' : List (Option ℕ)) (next' : List ℕ) → i < length numbers →
      (arc_of g (get_or numbers i 0)).tail ≡ v → r ≡ road_of (arc_of g (get_or numbers i 0)) → test (get_or numbers i 0) ≡ passes →
      hops' ≡ cond passes (hops_if (k + 1) hops r.head (label_of hops r.head)) hops →
      parents' ≡ cond passes (parents_if (k + 1) parents r.head v (label_of hops r.head)) parents →
      next' ≡ cond passes (next_if next r.head (label_of hops r.head)) next →
      Visiting g test sources k hops parents pending (drop i numbers) next → Visiting g test sources k hops' parents' pending (drop (i + 1) numbers) next'
  visit_road v pending next numbers i r passes hops' parents' next' lt leaves is t e f n known =
      rw (e, f, n, is) (visit_once v pending next numbers i (get_or numbers i 0) passes lt (sym (get_or_default numbers i (get_or numbers i 0) 0 lt)) leaves t known)
