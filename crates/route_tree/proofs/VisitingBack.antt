-- The search from a target back.
use Rattle.route_tree.proofs.Words.{add-one, ◌≡◌, ℕ, suc, ◌+◌, ◌-◌, ◌<◌, ◌≤◌, ◌⊎◌, inl, inr, Bool, true, false, cond, List, [], ◌∷◌, ◌++◌, length, get_or, set, replicate, drop, drop-cons, map, refl, ap, sym, ◌∙◌, subst, arith, get_or-set_same, get_or-set_other, length-set, drop_of_length-le, cases_eq, get_or-replicate, length-replicate, length-map, get_or-map, get_or_default, All-nil, All-cons, All-head, All-tail, Contains-append_left, Contains-append_right, Contains-append_cases, IsTrue, Contains, All, ◌↔◌, OutRoad, GraphData, IsGraph, HasArc, HasVertex, arc_of, road_of, reversed_arc, not_in_empty, head_or_tail, here, later, IsWalk, is_marked, IsWithinHops, Covers, VisitingBack}

module _ (g : GraphData) (roads : IsGraph g) (test : ℕ → Bool) (target : ℕ) where
  -- one arc further back
  pub within_back : (k a : ℕ) → HasArc g a → test a ≡ true → IsWithinHops g test target k (arc_of g a).head → IsWithinHops g test target (k + 1) (arc_of g a).tail
  within_back k a h t w = let n = w.3 in (a ∷ w.0, (h, refl, w.1), All-cons (λ b. IsTrue (test b)) a w.0 t w.2, omega (arith, n))

  pub back_start : (n : ℕ) (marks : List Bool) → n ≡ g.vertices → HasVertex g target → marks ≡ set (replicate n false) (target - 1) true → VisitingBack g test target 0 marks (target ∷ []) [] []
  back_start n marks is in_t e = rw e (record {
    count = simp length-set (length-replicate n false ∙ is);
    attained = λ v in_v m. elim (cases_eq v target) [
      | inl same ↦ inl (subst (λ (u : ℕ). IsWithinHops g test target 0 u) (sym same) at_target)
      | inr other ↦
          let none = get_or-replicate n (v - 1) false false (omega (arith, in_v.0, in_v.1, is)) in
          let kept = get_or-set_other (replicate n false) (target - 1) (v - 1) true false (λ q. other (omega (arith, in_v.0, in_t.0, q))) in
          let bad : true ≡ false = sym m ∙ kept ∙ none in absurd (cc)
    ];
    complete = λ v w. (nearest v w.0 w.1 w.3, not_in_empty v);
    pending_at = λ v h. elim (head_or_tail target v [] h) [
      | inl same ↦ subst (λ (u : ℕ). HasVertex g u × IsWithinHops g test target 0 u) same (in_t, at_target)
      | inr none ↦ absurd (not_in_empty v none)
    ];
    next_at = λ v h. absurd (not_in_empty v h);
    arcs_at = λ a h. absurd (not_in_empty a h);
    closed = λ a h t m. inr (inl (only (arc_of g a).head ((roads.ends a h).1) m));
  })
    where
      at_target : IsWithinHops g test target 0 target
      at_target = ([], refl, All-nil (λ a. IsTrue (test a)), omega arith)

      target_marked : is_marked (set (replicate n false) (target - 1) true) target ≡ true
      target_marked =
          let count = length-replicate n false in
          let lt : target - 1 < length (replicate n false) = omega (arith, in_t.0, in_t.1, is, count) in
          get_or-set_same (replicate n false) (target - 1) true false lt

      nearest : (v : ℕ) (p : List ℕ) → IsWalk g v p target → length p ≤ 0 → is_marked (set (replicate n false) (target - 1) true) v ≡ true
      nearest v [] w le = ap (is_marked (set (replicate n false) (target - 1) true)) w ∙ target_marked
      nearest v (a ∷ p) w le = absurd (omega (arith, le))

      only : (v : ℕ) → HasVertex g v → is_marked (set (replicate n false) (target - 1) true) v ≡ true → Contains (target ∷ []) v
      only v in_v m = elim (cases_eq v target) [
        | inl same ↦ subst (λ (u : ℕ). Contains (target ∷ []) u) (sym same) (here target [])
        | inr other ↦
            let none = get_or-replicate n (v - 1) false false (omega (arith, in_v.0, in_v.1, is)) in
            let kept = get_or-set_other (replicate n false) (target - 1) (v - 1) true false (λ q. other (omega (arith, in_v.0, in_t.0, q))) in
            let bad : true ≡ false = sym m ∙ kept ∙ none in absurd (cc)
      ]

  module _ (k : ℕ) (marks : List Bool) where
    -- the first vertex that waits gives way to its arcs
    pub back_open : (v : ℕ) (pending next arcs : List ℕ) → ((a : ℕ) → Contains arcs a ↔ (HasArc g a × ((arc_of g a).head ≡ v))) → VisitingBack g test target k marks (v ∷ pending) [] next →
        VisitingBack g test target k marks pending arcs next
    back_open v pending next arcs lists known = record {
      count = known.count;
      attained = known.attained;
      complete = known.complete;
      pending_at = λ u h. known.pending_at u (later v u pending h);
      next_at = known.next_at;
      arcs_at = λ a h. let f = (lists a).0 h in (f.0, subst (λ (u : ℕ). IsWithinHops g test target k u) (sym f.1) ((known.pending_at v (here v pending)).1));
      closed = λ a h t m. elim (known.closed a h t m) [
        | inl none ↦ absurd (not_in_empty a none)
        | inr r ↦ elim r [
          | inl waits ↦ elim (head_or_tail v (arc_of g a).head pending waits) [ inl same ↦ inl ((lists a).1 (h, sym same)) | inr q ↦ inr (inl q) ]
          | inr s ↦ inr (inr s)
        ]
      ];
    }

    module _ (pending next rest : List ℕ) (a : ℕ) (known : VisitingBack g test target k marks pending (a ∷ rest) next) where
      this : HasArc g a × IsWithinHops g test target k (arc_of g a).head
      this = known.arcs_at a (here a rest)

      tail_in : HasVertex g (arc_of g a).tail
      tail_in = (roads.ends a this.0).0

      -- an arc that does not pass, or whose tail is marked, is dropped
      back_drop : (test a ≡ true → is_marked marks (arc_of g a).tail ≡ true) → VisitingBack g test target k marks pending rest next
      back_drop done = record {
        count = known.count;
        attained = known.attained;
        complete = known.complete;
        pending_at = known.pending_at;
        next_at = known.next_at;
        arcs_at = λ b h. known.arcs_at b (later a b rest h);
        closed = λ b h t m. elim (known.closed b h t m) [
          | inl waits ↦ elim (head_or_tail a b rest waits) [
            | inl same ↦ inr (inr (inr (subst (λ (c : ℕ). is_marked marks (arc_of g c).tail ≡ true) same (done (ap test same ∙ t)))))
            | inr q ↦ inl q
          ]
          | inr r ↦ inr r
        ];
      }

      -- the tail was not marked
      module _ (t : test a ≡ true) (fresh : is_marked marks (arc_of g a).tail ≡ false) where
        abbrev after : List Bool
        after = set marks ((arc_of g a).tail - 1) true

        at_tail : is_marked after (arc_of g a).tail ≡ true
        at_tail =
            let lt : (arc_of g a).tail - 1 < length marks = omega (arith, tail_in.0, tail_in.1, known.count) in
            get_or-set_same marks ((arc_of g a).tail - 1) true false lt

        kept : (v : ℕ) → is_marked marks v ≡ true → is_marked after v ≡ true
        kept v m = elim (cases_eq (v - 1) ((arc_of g a).tail - 1)) [
          | inl same ↦ ap (λ (i : ℕ). get_or after i false) same ∙ at_tail
          | inr other ↦ get_or-set_other marks ((arc_of g a).tail - 1) (v - 1) true false other ∙ m
        ]

        old_or_new : (v : ℕ) → HasVertex g v → is_marked after v ≡ true → (is_marked marks v ≡ true) ⊎ (v ≡ (arc_of g a).tail)
        old_or_new v in_v m = elim (cases_eq v (arc_of g a).tail) [
          | inl same ↦ inr same
          | inr other ↦ inl (sym (get_or-set_other marks ((arc_of g a).tail - 1) (v - 1) true false (λ q. other (omega (arith, in_v.0, tail_in.0, q)))) ∙ m)
        ]

        new_in : (v : ℕ) → v ≡ (arc_of g a).tail → Contains (next ++ (arc_of g a).tail ∷ []) v
        new_in v same = Contains-append_right next ((arc_of g a).tail ∷ []) v (subst (λ (u : ℕ). Contains ((arc_of g a).tail ∷ []) u) (sym same) (here (arc_of g a).tail []))

        in_longer : (v : ℕ) → Contains (next ++ (arc_of g a).tail ∷ []) v → Contains next v ⊎ ((arc_of g a).tail ≡ v)
        in_longer v h = elim (Contains-append_cases next ((arc_of g a).tail ∷ []) v h) [
          | inl old ↦ inl old
          | inr new ↦ elim (head_or_tail (arc_of g a).tail v [] new) [ inl same ↦ inr same | inr none ↦ absurd (not_in_empty v none) ]
        ]

        closed_after : (b : ℕ) → HasArc g b → test b ≡ true → is_marked after (arc_of g b).head ≡ true →
            Contains rest b ⊎ (Contains pending (arc_of g b).head ⊎ (Contains (next ++ (arc_of g a).tail ∷ []) (arc_of g b).head ⊎ IsTrue (is_marked after (arc_of g b).tail)))
        closed_after b h tb m = elim (old_or_new (arc_of g b).head ((roads.ends b h).1) m) [
          | inl old ↦ elim (known.closed b h tb old) [
            | inl waits ↦ elim (head_or_tail a b rest waits) [
              | inl same ↦ inr (inr (inr (subst (λ (c : ℕ). is_marked after (arc_of g c).tail ≡ true) same at_tail)))
              | inr q ↦ inl q
            ]
            | inr r ↦ elim r [
              | inl p ↦ inr (inl p)
              | inr s ↦ elim s [
                | inl n ↦ inr (inr (inl (Contains-append_left next ((arc_of g a).tail ∷ []) (arc_of g b).head n)))
                | inr done ↦ inr (inr (inr (kept (arc_of g b).tail done)))
              ]
            ]
          ]
          | inr new ↦ inr (inr (inl (new_in (arc_of g b).head new)))
        ]

        back_new : VisitingBack g test target k after pending rest (next ++ (arc_of g a).tail ∷ [])
        back_new = record {
          count = simp length-set known.count;
          attained = λ v in_v m. elim (old_or_new v in_v m) [
            | inl old ↦ elim (known.attained v in_v old) [ inl w ↦ inl w | inr n ↦ inr (Contains-append_left next ((arc_of g a).tail ∷ []) v n) ]
            | inr new ↦ inr (new_in v new)
          ];
          complete = λ v w.
              let f = known.complete v w in (
                kept v f.0,
                λ n. elim (in_longer v n) [ inl old ↦ f.1 old | inr same ↦ let bad : true ≡ false = sym f.0 ∙ ap (is_marked marks) (sym same) ∙ fresh in cc ],
              );
          pending_at = known.pending_at;
          next_at = λ v h. elim (in_longer v h) [
            | inl old ↦ known.next_at v old
            | inr same ↦ subst (λ (u : ℕ). HasVertex g u × IsWithinHops g test target (k + 1) u) same (tail_in, within_back k a this.0 t this.1)
          ];
          arcs_at = λ b h. known.arcs_at b (later a b rest h);
          closed = closed_after;
        }

      by_test : (b : Bool) → test a ≡ b → is_marked marks (arc_of g a).tail ≡ false →
          VisitingBack g test target k (cond b (set marks ((arc_of g a).tail - 1) true) marks) pending rest (cond b (next ++ (arc_of g a).tail ∷ []) next)
      by_test true t fresh = back_new t fresh
      by_test false t fresh = back_drop (λ u. let bad : true ≡ false = sym u ∙ t in cc)

      back_arc : (m b : Bool) → is_marked marks (arc_of g a).tail ≡ m → test a ≡ b →
          VisitingBack g test target k (cond (cond m false b) (set marks ((arc_of g a).tail - 1) true) marks) pending rest (cond (cond m false b) (next ++ (arc_of g a).tail ∷ []) next)
      back_arc true b is t = back_drop (λ _. is)
      back_arc false b is t = by_test b t is

    -- the arc at a place of a row
    pub back_once : (pending next numbers : List ℕ) (i a : ℕ) (marks' : List Bool) (next' : List ℕ) → i < length numbers → a ≡ get_or numbers i a →
        marks' ≡ cond (cond (is_marked marks (arc_of g a).tail) false (test a)) (set marks ((arc_of g a).tail - 1) true) marks →
        next' ≡ cond (cond (is_marked marks (arc_of g a).tail) false (test a)) (next ++ (arc_of g a).tail ∷ []) next →
        VisitingBack g test target k marks pending (drop i numbers) next → VisitingBack g test target k marks' pending (drop (i + 1) numbers) next'
    back_once pending next numbers i a marks' next' lt is e f known =
        let cut : drop i numbers ≡ a ∷ drop (i + 1) numbers = rw add-one (drop-cons numbers i a lt ∙ ap (λ (b : ℕ). b ∷ drop (suc i) numbers) (sym is)) in
        rw (e, f) (back_arc pending next (drop (i + 1) numbers) a (rw cut at known) (is_marked marks (arc_of g a).tail) (test a) refl refl)

    pub row_done : (pending next numbers : List ℕ) (i : ℕ) → length numbers ≤ i → VisitingBack g test target k marks pending (drop i numbers) next → VisitingBack g test target k marks pending [] next
    row_done pending next numbers i h known = rw (drop_of_length-le numbers h) at known

    -- where the source was found, nothing is missing that is as near as it
    pub covers_near : (source : ℕ) (level : List ℕ) → VisitingBack g test target k marks level [] [] → HasVertex g source → is_marked marks source ≡ true → Covers g test source target marks
    covers_near source level known in_s m = λ v j w low. elim (known.attained source in_s m) [
      | inl walk ↦
          let shortest = low (length walk.0) (walk.0, (source, here source [], walk.1), walk.2, refl) in
          let n = walk.3 in let i = w.3 in
          (known.complete v (w.0, w.1, w.2, omega (arith, shortest, n, i))).0
      | inr none ↦ absurd (not_in_empty source none)
    ]

    -- where no vertex is left to go back from, all are found
    pub covers_all : (source : ℕ) → VisitingBack g test target k marks [] [] [] → Covers g test source target marks
    covers_all source known = λ v j w low. along v w.0 w.1 w.2
      where
        along : (v : ℕ) (p : List ℕ) → IsWalk g v p target → All (λ a. IsTrue (test a)) p → is_marked marks v ≡ true
        along v [] w all = (known.complete v ([], w, all, omega arith)).0
        along v (a ∷ p) w all =
            ap (is_marked marks) (sym w.1) ∙ elim (known.closed a w.0 (All-head (λ b. IsTrue (test b)) a p all) (along (arc_of g a).head p w.2 (All-tail (λ b. IsTrue (test b)) a p all))) [
              | inl none ↦ absurd (not_in_empty a none)
              | inr r ↦ elim r [ inl none ↦ absurd (not_in_empty _ none) | inr s ↦ elim s [ inl none ↦ absurd (not_in_empty _ none) | inr m ↦ m ] ]
            ]

module _ (g : GraphData) (test : ℕ → Bool) (target k : ℕ) (marks : List Bool) where
  within_more : (v : ℕ) → IsWithinHops g test target k v → IsWithinHops g test target (k + 1) v
  within_more v w = let n = w.3 in (w.0, w.1, w.2, omega (arith, n))

  -- the next level's turn
  pub back_level : (next : List ℕ) → VisitingBack g test target k marks [] [] next → VisitingBack g test target (k + 1) marks next [] []
  back_level next known = record {
    count = known.count;
    attained = λ v in_v m. elim (known.attained v in_v m) [ inl w ↦ inl (within_more v w) | inr n ↦ inl ((known.next_at v n).1) ];
    complete = λ v w. (further v w.0 w.1 w.2 w.3, not_in_empty v);
    pending_at = known.next_at;
    next_at = λ v h. absurd (not_in_empty v h);
    arcs_at = λ a h. absurd (not_in_empty a h);
    closed = λ a h t m. elim (known.closed a h t m) [
      | inl none ↦ absurd (not_in_empty a none)
      | inr r ↦ elim r [ inl none ↦ absurd (not_in_empty _ none) | inr s ↦ elim s [ inl waits ↦ inr (inl waits) | inr done ↦ inr (inr (inr done)) ] ]
    ];
  }
    where
      further : (v : ℕ) (p : List ℕ) → IsWalk g v p target → All (λ a. IsTrue (test a)) p → length p ≤ k + 1 → is_marked marks v ≡ true
      further v [] w all le = (known.complete v ([], w, all, omega arith)).0
      further v (a ∷ p) w all le =
          let rest = known.complete (arc_of g a).head (p, w.2, All-tail (λ b. IsTrue (test b)) a p all, omega (arith, le)) in
          ap (is_marked marks) (sym w.1) ∙ elim (known.closed a w.0 (All-head (λ b. IsTrue (test b)) a p all) rest.0) [
            | inl none ↦ absurd (not_in_empty a none)
            | inr r ↦ elim r [ inl none ↦ absurd (not_in_empty _ none) | inr s ↦ elim s [ inl n ↦ absurd (rest.1 n) | inr m ↦ m ] ]
          ]

  pub level_done : (level next : List ℕ) (i : ℕ) → length level ≤ i → VisitingBack g test target k marks (drop i level) [] next → VisitingBack g test target k marks [] [] next
  level_done level next i h known = rw (drop_of_length-le level h) at known

  -- the vertex at a place of a level
  pub level_once : (level next : List ℕ) (i v : ℕ) (marks' : List Bool) (next' : List ℕ) → i < length level → v ≡ get_or level i v →
      ((pending : List ℕ) → VisitingBack g test target k marks (v ∷ pending) [] next → VisitingBack g test target k marks' pending [] next') →
      VisitingBack g test target k marks (drop i level) [] next → VisitingBack g test target k marks' (drop (i + 1) level) [] next'
  level_once level next i v marks' next' lt is goes known =
      let cut : drop i level ≡ v ∷ drop (i + 1) level = rw add-one (drop-cons level i v lt ∙ ap (λ (b : ℕ). b ∷ drop (suc i) level) (sym is)) in
      goes (drop (i + 1) level) (rw cut at known)

-- the arc at a place of a row, when it is reversed
module _ (g : GraphData) (numbers : List ℕ) (row : List OutRoad) (v : ℕ) (lists : (a : ℕ) → Contains numbers a ↔ (HasArc g a × ((arc_of g a).head ≡ v)))
    (are : row ≡ map (λ a. road_of (reversed_arc (arc_of g a))) numbers) where
  pub as_long : length row ≡ length numbers
  as_long = rw are (simp length-map)

  pub turned_at : (i : ℕ) (r : OutRoad) → i < length row → r ≡ get_or row i r →
      HasArc g (get_or numbers i 0) × ((arc_of g (get_or numbers i 0)).head ≡ v) × (r ≡ road_of (reversed_arc (arc_of g (get_or numbers i 0))))
  turned_at i r lt is =
      let in_numbers : i < length numbers = omega (arith, as_long) in
      let at : get_or row i r ≡ road_of (reversed_arc (arc_of g (get_or numbers i 0))) =
      ap (λ (o : List OutRoad). get_or o i r) are ∙ get_or-map (λ a. road_of (reversed_arc (arc_of g a))) numbers i 0 r in_numbers in
      let has = (lists (get_or numbers i 0)).0 (i, in_numbers, get_or_default numbers i (get_or numbers i 0) 0 in_numbers) in
      (has.0, has.1, is ∙ at)
