-- The steps of a search: each keeps its queue, leads from one round to the next, and comes nearer
-- to the end.
use Rattle.path_plain.proofs.Words.{◌≡◌, ℕ, ◌+◌, ◌*◌, ◌<◌, ◌≤◌, inl, inr, Bool, true, false, cond, List, [], ◌∷◌, length, get_or, replicate, ◌-◌, ◌∙◌, set, refl, sym, arith, get_or_default, Option, Some, None, length-set, get_or-replicate, length-replicate, sum_by-set, not_in_empty, Contains-permutation, IsPermutation-sym, IsTrue, All, is_some, IsPermutation, IsUpperBound, GraphData, IsGraph, HasVertex, Algebra, IsOrder, IsLawful, AreBest, label_of, ranked_cmp, IsNoted, noted_if, noted_list}
use Rattle.path_plain.proofs.Rounds.{Between, unsettled, round, ending}
use Rattle.path_plain.specs.Searching.{SearchState, IsSearch, IsSameSearch, Relaxes, Advances}
use Rattle.path_plain.proofs.Noting.{IsOn, noted_blank, noted_more, noted_label, noted_mark, on_labelled}
use Rattle.path_plain.proofs.Waiting.{queue_offer, queue_skip, queue_settle, queue_best, queue_first}

-- a search in which nothing has a label
pub search_blank : {K V : Type 0} (value : K → V) (place : K → ℕ) (order : V → V → Bool) (g : GraphData) → IsGraph g → (touched : Option (List ℕ)) → noted_list touched ≡ [] →
    IsSearch value place order g (replicate g.vertices None) (replicate g.vertices false) [] touched
search_blank {K} {V} value place order g roads touched e = record {
  roads = roads;
  labels_count = length-replicate g.vertices None;
  settled_count = length-replicate g.vertices false;
  queue = record {
    entries = λ e h. absurd (not_in_empty e h);
    covers = λ k y lt o e.
        let none : get_or (replicate {A = Option V} g.vertices None) k None ≡ None = get_or-replicate {A = Option V} g.vertices k None None (omega (arith, lt, length-replicate {A = Option V} g.vertices None)) in
        let bad : None ≡ Some y = sym none ∙ e in cc;
  };
  noted = noted_blank V g.vertices touched e;
}

module _ {K V : Type 0} {value : K → V} {place : K → ℕ} {order : V → V → Bool} {g : GraphData} {labels : List (Option V)} {settled : List Bool} {items : List K}
    {touched : Option (List ℕ)} (known : IsSearch value place order g labels settled items touched) where
  -- a vertex is noted
  pub search_notes : (is_new : Bool) (v : ℕ) → 1 ≤ v → v ≤ g.vertices → IsSearch value place order g labels settled items (noted_if is_new touched v)
  search_notes is_new v low high = record {
    roads = known.roads;
    labels_count = known.labels_count;
    settled_count = known.settled_count;
    queue = known.queue;
    noted = noted_more g.vertices labels settled touched is_new v low high known.noted;
  }

  -- a better label of a noted vertex joins the queue
  pub search_offers : IsOrder order → (v : ℕ) (z : V) (new : K) (next : List K) → 1 ≤ v → v ≤ g.vertices → IsOn touched v → ((y : V) → label_of labels v ≡ Some y → IsTrue (order z y)) →
      IsPermutation (new ∷ items) next → value new ≡ z → place new ≡ v - 1 → IsSearch value place order g (set labels (v - 1) (Some z)) settled next touched
  search_offers ordered v z new next low high on better moved is_z is_i = record {
    roads = known.roads;
    labels_count = simp length-set known.labels_count;
    settled_count = known.settled_count;
    queue = queue_offer value place order ordered labels settled items known.queue (v - 1) z new next (omega (arith, low, high, known.labels_count)) better moved is_z is_i;
    noted = noted_label g.vertices labels settled touched v (Some z) low on known.noted;
  }

  module _ {top : K} {rest : List K} (moved : IsPermutation items (top ∷ rest)) where
    pub top_place : place top < g.vertices
    top_place =
        let at = (known.queue.entries top (Contains-permutation (top ∷ rest) items top (IsPermutation-sym items (top ∷ rest) moved) (0, omega arith, refl))).0 in
        omega (arith, at, known.labels_count)

    in_settled : place top < length settled
    in_settled = omega (arith, top_place, known.settled_count)

    -- whether it is settled, read as the code reads it
    pub top_settled : (b : Bool) → b ≡ get_or settled (place top) b → get_or settled (place top) false ≡ b
    top_settled b e = get_or_default settled (place top) false b in_settled ∙ sym e

    pub search_drops : IsOrder order → get_or settled (place top) false ≡ true → IsSearch value place order g labels settled rest touched
    search_drops ordered t = record {
      roads = known.roads;
      labels_count = known.labels_count;
      settled_count = known.settled_count;
      queue = queue_skip value place order ordered labels settled items known.queue top rest moved t;
      noted = known.noted;
    }

    -- the top entry is of a vertex with a label, which is noted
    top_noted : IsNoted g.vertices touched labels (set settled (place top) true)
    top_noted =
        let e : (place top + 1) - 1 ≡ place top = omega arith in
        let entry = known.queue.entries top (Contains-permutation (top ∷ rest) items top (IsPermutation-sym items (top ∷ rest) moved) (0, omega arith, refl)) in
        let low : 1 ≤ place top + 1 = omega arith in
        let high : place top + 1 ≤ g.vertices = omega (arith, top_place) in
        let on = on_labelled g.vertices labels settled touched known.noted (place top + 1) entry.1.0 low high (rw e entry.1.1) in
        rw e at (noted_mark g.vertices labels settled touched (place top + 1) low on known.noted)

    pub search_settles : IsOrder order → IsSearch value place order g labels (set settled (place top) true) rest touched
    search_settles ordered = record {
      roads = known.roads;
      labels_count = known.labels_count;
      settled_count = simp length-set known.settled_count;
      queue = queue_settle value place order ordered labels settled items known.queue top rest moved in_settled;
      noted = top_noted;
    }

    -- the top entry of an open vertex: this one is settled
    pub settles_one : IsOrder order → {C : Type 0} (algebra : C) (A : Algebra V) (now : SearchState C V) → get_or settled (place top) false ≡ false → IsUpperBound (ranked_cmp value place order) top items →
        IsSameSearch (record { algebra = algebra; roads = g; labels = labels; settled = set settled (place top) true; waiting = length rest; notes = is_some touched }) now →
        Relaxes A g (place top + 1) (value top) labels now.labels → now.waiting ≤ length rest + length g.arcs → length rest + 1 ≡ length items →
        Advances order A true (record { algebra = algebra; roads = g; labels = labels; settled = settled; waiting = length items; notes = is_some touched }) now
    settles_one ordered algebra A now o upper same pass few less = inl (record {
      index = place top;
      value = value top;
      best = queue_best value place order ordered labels settled items known.queue top rest moved upper o;
      first = queue_first value place order ordered labels settled items known.queue top rest moved upper;
      has_mark = in_settled;
      marks = same.settled;
      relaxes = pass;
      few = omega (arith, few, less);
    })

module _ {C V : Type 0} (A : Algebra V) (lawful : IsLawful A) (order : V → V → Bool) (same : A.no_worse ≡ order) (g : GraphData) (roads : IsGraph g)
    (old new : SearchState C V) (in_graph : old.roads ≡ g) where
  module _ (sources : List ℕ) (inside : All (HasVertex g) sources) (between : Between A g sources old.labels old.settled) where
    -- a step leads from one round to the next
    pub next_round : Advances order A true old new → Between A g sources new.labels new.settled
    next_round (inl s) =
        rw s.marks (round A lawful g roads sources inside order same old.labels old.settled between s.index s.value new.labels s.best (rw in_graph at s.relaxes))
    next_round (inr d) = rw (d.labels, d.settled) between

    -- if there is none, nothing changes, and the labels are best
    pub last_round : Advances order A false old new → Between A g sources new.labels new.settled
    last_round p = rw (p.0, p.1) between

    pub last_is_best : Advances order A false old new → AreBest A g sources new.labels
    last_is_best p = rw p.0 (ending A lawful g roads sources inside order same old.labels old.settled between p.2)

  -- one more settled vertex outweighs what its arcs put into the queue
  pub comes_nearer : Advances order A true old new →
      unsettled new.settled * (length g.arcs + 1) + new.waiting < unsettled old.settled * (length g.arcs + 1) + old.waiting
  comes_nearer (inl s) =
      let f = sum_by-set (λ b. cond b 0 1) old.settled s.index true false s.has_mark in
      let was : unsettled (set old.settled s.index true) + 1 ≡ unsettled old.settled + 0 = rw s.best.is_open at f in
      let is : unsettled old.settled ≡ unsettled (set old.settled s.index true) + 1 = omega arith in
      let few : new.waiting < old.waiting + length g.arcs + 1 = omega (arith, rw in_graph at s.few) in
      rw (s.marks, is) (omega (arith, few))
  comes_nearer (inr d) = rw d.settled (omega (arith, d.fewer))
