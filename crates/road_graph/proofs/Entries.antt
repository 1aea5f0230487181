-- The entries of the index.
use Rattle.road_graph.proofs.Words.{◌≡◌, ℕ, ◌+◌, ◌-◌, ◌<◌, ◌≤◌, inl, inr, List, length, map, get_or, set, ap, sym, ◌∙◌, subst, arith, get_or-set_same, get_or-set_other, cases_eq, get_or-map, get_or_default, length-map, OutRoad, Tail, GraphData, IsGraph, HasArc, IsRank, ListsRoadsFrom, arc_of, road_of, roads_of, AreRows, IsEntry, IsIndex, end_of}
use Rattle.road_graph.specs.declared.index.IndexEntry.{IndexEntry}
use Rattle.road_graph.proofs.Places.{number_is_arc, stands, rank_is}
use Rattle.road_graph.proofs.Lists.{same_rising}

-- what is read of the tails, and of the roads in the order of the rows
tail_read : (g : GraphData) (tails : List ℕ) → tails ≡ map (end_of Tail) g.arcs → (a : ℕ) → HasArc g a → get_or tails (a - 1) 0 ≡ (arc_of g a).tail
tail_read g tails are a arc =
    ap (λ xs. get_or xs (a - 1) 0) are ∙ get_or-map (end_of Tail) g.arcs (a - 1) (record { tail = 0; head = 0; weight = 0 }) 0 (omega (arith, arc.0, arc.1))

pub road_read : (g : GraphData) (numbers : List ℕ) (roads : List OutRoad) → roads ≡ roads_of g numbers → (k : ℕ) → k < length numbers → (d : OutRoad) →
    get_or roads k d ≡ road_of (arc_of g (get_or numbers k 0))
road_read g numbers roads are k lt d = ap (λ xs. get_or xs k d) are ∙ get_or-map (λ a. road_of (arc_of g a)) numbers k 0 d lt

-- an arc has the place among those that leave its tail that its road has among theirs
road_at_rank : (g : GraphData) (a v rank : ℕ) (roads : List OutRoad) → v ≡ (arc_of g a).tail → IsRank g a rank → ListsRoadsFrom g v roads →
    (rank < length roads) × ((d : OutRoad) → get_or roads rank d ≡ road_of (arc_of g a))
road_at_rank g a v rank roads tail is listed =
    let lists : ListsRoadsFrom g (arc_of g a).tail roads = rw (← tail) listed in
    let same : is.numbers ≡ lists.0 = same_rising 0 is.numbers lists.0 is.lists.ascending lists.1.ascending
    (λ b x. (lists.1.complete b).1 ((is.lists.complete b).0 x)) (λ b x. (is.lists.complete b).1 ((lists.1.complete b).0 x)) in
    let inside : rank < length lists.0 = subst (λ (xs : List ℕ). rank < length xs) same is.inside in
    let found : get_or lists.0 rank 0 ≡ a = subst (λ (xs : List ℕ). get_or xs rank 0 ≡ a) same is.found in
    let long = simp length-map at (ap length lists.2) in
    (omega (arith, long, inside), λ d. road_read g lists.0 roads lists.2 rank inside d ∙ ap (λ b. road_of (arc_of g b)) found)

-- the entry that is read of the index is the place of the arc's road
module _ (g : GraphData) (entries : List IndexEntry) (known : IsIndex g entries) (a : ℕ) (arc : HasArc g a)
    (number : ℕ) (is : number ≡ a) (entry : IndexEntry) (read : entry ≡ get_or entries (number - 1) entry) where
  tells : IsEntry g a entry
  tells =
      let at : number - 1 ≡ a - 1 = ap (λ b. b - 1) is in
      let lt : number - 1 < length entries = (let count = known.count in omega (arith, arc.0, arc.1, is, count)) in
      rw (read ∙ get_or_default entries (number - 1) entry (record { tail = 0; rank = 0 }) lt ∙ ap (λ k. get_or entries k (record { tail = 0; rank = 0 })) at) (known.tells a arc)

  pub road_by_entry : (roads : List OutRoad) → ListsRoadsFrom g entry.tail roads → (entry.rank < length roads) × ((d : OutRoad) → get_or roads entry.rank d ≡ road_of (arc_of g a))
  road_by_entry roads lists = road_at_rank g a entry.tail entry.rank roads tells.tail tells.rank lists

-- the first k numbers have their entries
abbrev pub AreTold : GraphData → List ℕ → List IndexEntry → ℕ → Type 0
AreTold g numbers entries k = (x : ℕ) → x < k → IsEntry g (get_or numbers x 0) (get_or entries (get_or numbers x 0 - 1) (record { tail = 0; rank = 0 }))

module _ (g : GraphData) (roads : IsGraph g) (starts numbers tails : List ℕ) (known : AreRows Tail g.vertices g.arcs starts numbers) (are : tails ≡ map (end_of Tail) g.arcs) where
  pub all_told : (entries : List IndexEntry) (k : ℕ) → length numbers ≤ k → length entries ≡ length tails → AreTold g numbers entries k → IsIndex g entries
  all_told entries k all long told = record {
    count = long ∙ simp length-map at (ap length are);
    tells = λ a arc.
        let at = stands g starts numbers known roads a arc in
        subst (λ b. IsEntry g b (get_or entries (b - 1) (record { tail = 0; rank = 0 }))) at.1.1 (told at.0 (let inside = at.1.0 in omega (arith, inside, all)));
  }

  -- the number at k
  module _ (list : List ℕ) (same : list ≡ numbers) (k : ℕ) (in_list : k < length list) (number item : ℕ) (read : number ≡ get_or list k item) where
    lt : k < length numbers
    lt = rw (← same) in_list

    is : number ≡ get_or numbers k 0
    is = read ∙ get_or_default list k item 0 in_list ∙ ap (λ xs. get_or xs k 0) same

    arc : HasArc g number
    arc = rw is (number_is_arc g starts numbers known k lt)

    pub number_some : 1 ≤ number
    number_some = arc.0

    pub number_inside : number - 1 < length tails
    number_inside = let most = arc.1 in let long = simp length-map at (ap length are) in omega (arith, arc.0, most, long)

    pub told_more : (entries : List IndexEntry) (entry : IndexEntry) → length entries ≡ length tails → IsEntry g number entry →
        AreTold g numbers entries k → AreTold g numbers (set entries (number - 1) entry) (k + 1)
    told_more entries entry long new told = λ x x_lt. elim (cases_eq (get_or numbers x 0) number) [
      | inl this ↦ rw (this, get_or-set_same entries (number - 1) entry (record { tail = 0; rank = 0 }) (let l = number_inside in omega (arith, l, long))) new
      | inr other ↦
          let ne : x ≡ k → ⊥ = λ e. other (ap (λ y. get_or numbers y 0) e ∙ sym is) in
          let below = lt in
          let first : 1 ≤ get_or numbers x 0 = (number_is_arc g starts numbers known x (omega (arith, below))).0 in
          let some = number_some in
          rw (get_or-set_other entries (number - 1) (get_or numbers x 0 - 1) entry (record { tail = 0; rank = 0 }) (λ e. other (omega (arith, e, first, some)))) (told x (omega (arith, ne)))
    ]

    -- its tail, as the tails give it
    module _ (tail found : ℕ) (tail_at : tail ≡ get_or tails (number - 1) found) where
      tail_is : tail ≡ (arc_of g number).tail
      tail_is = tail_at ∙ get_or_default tails (number - 1) found 0 number_inside ∙ tail_read g tails are number arc

      pub tail_some : 1 ≤ tail
      tail_some = let low = (roads.ends number arc).0.0 in let e = tail_is in omega (arith, low, e)

      pub tail_inside : tail - 1 < length starts
      tail_inside = let high = (roads.ends number arc).0.1 in let e = tail_is in let count = known.count in omega (arith, high, e, count)

      -- and where its row starts
      module _ (start start_found : ℕ) (start_at : start ≡ get_or starts (tail - 1) start_found) where
        rank : (start ≤ k) × IsRank g number (k - start)
        rank = rank_is g starts numbers known number tail k start tail_is (lt, sym is) (start_at ∙ get_or_default starts (tail - 1) start_found 0 tail_inside)

        pub start_before : start ≤ k
        start_before = rank.0

        pub is_entry : IsEntry g number (record { tail = tail; rank = k - start })
        is_entry = record { tail = tail_is; rank = rank.1 }
