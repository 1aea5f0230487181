-- What is true of each road from each vertex is true of each arc.
use Rattle.path_factors.proofs.Words.{◌≡◌, ℕ, ◌+◌, ◌-◌, ◌<◌, ◌≤◌, inl, inr, List, length, get_or, ap, sym, ◌∙◌, subst, arith, cases_lt, get_or_default, GraphData, HasArc, arc_of, road_of, ListsRoadsFrom, OutRoad, IsJoined}
use Rattle.path_factors.proofs.Loading.{arc_listed, road_at}

-- the place of a vertex
abbrev pub at : List ℕ → ℕ → ℕ
at places v = get_or places (v - 1) 0

-- the ends of the first j roads from a vertex are joined
abbrev pub AreRoadsJoined : (ℕ → ℕ → Type 0) → List ℕ → ℕ → List OutRoad → ℕ → Type 0
AreRoadsJoined Has places tail roads j =
    (r : OutRoad) (i : ℕ) → i < j → get_or roads i r ≡ r → IsJoined Has (at places tail) (at places r.head)

module _ (Has : ℕ → ℕ → Type 0) (places : List ℕ) where
  pub roads_more : (tail : ℕ) (roads : List OutRoad) (j : ℕ) (road : OutRoad) → AreRoadsJoined Has places tail roads j → j < length roads →
      road ≡ get_or roads j road → IsJoined Has (at places tail) (at places road.head) → AreRoadsJoined Has places tail roads (j + 1)
  roads_more tail roads j road done lt is joined = λ r i low e. elim (cases_lt i j) [
    | inl before ↦ done r i before e
    | inr not_before ↦
        let at_j : i ≡ j = omega (arith, not_before, low) in
        let same : road ≡ r = is ∙ get_or_default roads j road r lt ∙ ap (λ (m : ℕ). get_or roads m r) (sym at_j) ∙ e in
        subst (λ (q : OutRoad). IsJoined Has (at places tail) (at places q.head)) same joined
  ]

  -- all roads from a vertex, and so its arcs
  pub roads_all : (g : GraphData) (tail : ℕ) (roads : List OutRoad) → ListsRoadsFrom g tail roads → (j : ℕ) → AreRoadsJoined Has places tail roads j →
      length roads ≤ j → (a : ℕ) → HasArc g a → (arc_of g a).tail ≡ tail → IsJoined Has (at places (arc_of g a).tail) (at places (arc_of g a).head)
  roads_all g tail roads lists j done all a has from =
      let h = arc_listed g tail roads lists a has from in
      subst (λ (t : ℕ). IsJoined Has (at places t) (at places (arc_of g a).head)) (sym from)
      (done (road_of (arc_of g a)) h.0 (omega (arith, h.1, all)) h.2)

  -- an arc's road
  pub road_joined : (g : GraphData) (tail : ℕ) (roads : List OutRoad) → ListsRoadsFrom g tail roads →
      ((a : ℕ) → HasArc g a → (arc_of g a).tail ≡ tail → IsJoined Has (at places (arc_of g a).tail) (at places (arc_of g a).head)) →
      (i : ℕ) (r : OutRoad) → i < length roads → r ≡ get_or roads i r → IsJoined Has (at places tail) (at places r.head)
  road_joined g tail roads lists joined i r lt is =
      let a = road_at g tail roads lists i r lt is in
      subst (λ (q : OutRoad). IsJoined Has (at places tail) (at places q.head)) (sym a.3)
      (subst (λ (t : ℕ). IsJoined Has (at places t) (at places (arc_of g a.0).head)) a.2 (joined a.0 a.1 a.2))

  -- the arcs that leave one of the first k vertices
  abbrev pub JoinedTo : GraphData → ℕ → Type 0
  JoinedTo g k = (a : ℕ) → HasArc g a → (arc_of g a).tail ≤ k → IsJoined Has (at places (arc_of g a).tail) (at places (arc_of g a).head)

  pub joined_more : (g : GraphData) (k : ℕ) → JoinedTo g k →
      ((a : ℕ) → HasArc g a → (arc_of g a).tail ≡ k + 1 → IsJoined Has (at places (arc_of g a).tail) (at places (arc_of g a).head)) → JoinedTo g (k + 1)
  joined_more g k done more = λ a has low. elim (cases_lt k (arc_of g a).tail) [
    | inr before ↦ done a has before
    | inl above ↦ more a has (omega (arith, above, low))
  ]

pub joined_weaker : (Has More : ℕ → ℕ → Type 0) → ((l x : ℕ) → Has l x → More l x) → (x y : ℕ) → IsJoined Has x y → IsJoined More x y
joined_weaker Has More kept x y joined = (λ less. kept x y (joined.0 less), λ less. kept y x (joined.1 less))
