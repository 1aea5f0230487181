-- The first of the best roads out of a vertex is the best step, since its arcs rise.
use Rattle.std.proofs.Common.{◌≡◌, ◌≢◌, ℕ, ◌<◌, ◌≤◌, ◌∙◌, inl, inr, List, length, get_or, ap, sym, subst, arith, Some, None}
use Rattle.arc_numbers.proofs.Words.{IsTrue, eq-or-lt_of_le, OutRoad, GraphData, HasVertex, ListsArcsFrom, ListsRoadsFrom, roads_of, Algebra, IsBestRoad, IsBestRoadOrNone, IsReordered, IsBestStep, IsStep}
use Rattle.road_graph.proofs.Lists.{rises}
use Rattle.arc_numbers.proofs.Reordered.{count, index_of, one_list, one_row, step_at}

module _ {V : Type 0} (A : Algebra V) (g h : GraphData) (x : V) (u v : ℕ) (reordered : IsReordered g h) (has : HasVertex g u) (roads : List OutRoad) (row : List ℕ)
    (from : ListsRoadsFrom g u roads) (lists : ListsArcsFrom h u row) where
  are : roads ≡ roads_of h row
  are = let (out, first, second) = reordered.roads u has in
      one_list g u roads out from first ∙ second.2 ∙ ap (roads_of h) (one_row h u second.0 row second.1 lists)

  pub as_long : length roads ≡ length row
  as_long = count A h x u v row roads lists are

  module _ (k : ℕ) (y : V) (is : IsBestRoad A x v roads (length roads) k y) where
    no_lesser : (j : ℕ) → k ≤ j → j < length row → get_or row k 0 ≤ get_or row j 0
    no_lesser j le lt = elim (eq-or-lt_of_le le) [
      | inl same ↦ let e = ap (λ i. get_or row i 0) same in omega (arith, e)
      | inr less ↦ let up = rises 0 row k j lists.ascending less lt in omega (arith, up)
    ]

    pub best_step : (a : ℕ) → get_or row k 0 ≡ a → IsBestStep A h x u v a y
    best_step a at = subst (λ (b : ℕ). IsBestStep A h x u v b y) at record {
      step = step_at A h x u v row roads lists are k y is.below is.leads;
      best = λ b z step. let (j, lt, _, leads) = index_of A h x u v row roads lists are b z step in is.best j lt z leads;
      least = λ b step.
          let (j, lt, there, leads) = index_of A h x u v row roads lists are b y step in
          let no_less = no_lesser j (is.first j lt leads) (let n = as_long in omega (arith, lt, n)) in omega (arith, no_less, there);
    }

  pub no_step : IsBestRoadOrNone A x v roads (length roads) None → (b : ℕ) (z : V) → IsStep A h x u v b z → ⊥
  no_step none b z step = let (j, lt, _, leads) = index_of A h x u v row roads lists are b z step in none j lt z leads
