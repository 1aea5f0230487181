-- The steps of a search: each keeps its queue, leads from one round to the next, and comes nearer
-- to the end.
use Rattle.tree_search.proofs.Words.{◌≡◌, ℕ, zero, suc, ◌+◌, ◌-◌, ◌*◌, ◌<◌, ◌≤◌, inl, inr, Bool, true, false, cond, not, List, [], ◌∷◌, length, get_or, set, replicate, refl, ap, sym, ◌∙◌, subst, arith, Option, Some, None, length-set, get_or-set_same, get_or-set_other, cases_eq, get_or-map, IsTrue, All, option_map, IsUpperBound, GraphData, IsGraph, HasVertex, not_in_empty, Algebra, IsOrder, IsLawful, AreBest, IsBestOpen, other_no_worse, ranked_cmp, by_number, by_number_order, IsLinked, IsTree, key_of, values_in, keys_in, hops_in, parents_in, is_better, is_lesser, unsettled, Step, Settled, Dropped, Ended, Mark}
use Rattle.std.proofs.lemmas.List.{length-map, map-set, length-replicate, get_or_default}
use Rattle.std.proofs.Math.Seq.{map-set_same}
use Rattle.std.proofs.lemmas.List.Sums.{sum_by-set}
use Rattle.std.proofs.lemmas.List.Sorted.{Contains-permutation, IsPermutation-sym}
use Rattle.std.specs.List.Sorted.{IsPermutation}
use Rattle.path_plain.specs.Queue.{IsQueue}
use Rattle.path_plain.proofs.Waiting.{queue_offer, queue_skip, queue_settle, queue_best}
use Rattle.tree_search.specs.Searching.{SearchState, HaveFewHops, IsSearch, IsSameSearch, Relaxes, Settles, Drops, Proceeds, is_end}
use Rattle.tree_search.proofs.Reading.{found}
use Rattle.tree_search.proofs.Ranking.{first_of_key}
use Rattle.tree_search.proofs.Rounds.{Between, round, keys_count}
use Rattle.tree_search.proofs.Ending.{values_are_best, tree_is_found, linked_found}

pub none_there : {X : Type 0} (n i : ℕ) → get_or (replicate {A = Option X} n None) i None ≡ None
none_there zero i = refl
none_there (suc n) zero = refl
none_there (suc n) (suc i) = none_there n i

-- nothing is there yet
pub search_opens : {K V : Type 0} {key : K → V × ℕ} {place : K → ℕ} {order : V → V → Bool} (g : GraphData) → IsGraph g →
    IsSearch key place order g (replicate g.vertices None) (replicate g.vertices false) []
search_opens g roads = record {
  roads = roads;
  marks_count = simp length-replicate;
  settled_count = simp length-replicate;
  few_hops = λ i m e. let bad : None ≡ Some m = sym (none_there g.vertices i) ∙ e in cc;
  queue = record {
    entries = λ e w. absurd (not_in_empty e w);
    covers = λ k y lt o e.
        let bad : None ≡ Some y = sym (get_or-map (option_map key_of) (replicate g.vertices None) k None ∙ ap (option_map key_of) (none_there g.vertices k)) ∙ e in cc;
  };
}

module _ {K V : Type 0} {key : K → V × ℕ} {place : K → ℕ} {order : V → V → Bool} {g : GraphData} {marks : List (Option (Mark V))} {settled : List Bool} {items : List K}
    (known : IsSearch key place order g marks settled items) {top : K} {rest : List K} (moved : IsPermutation items (top ∷ rest)) where
  pub top_place : place top < g.vertices
  top_place =
      let at = (known.queue.entries top (Contains-permutation (top ∷ rest) items top (IsPermutation-sym items (top ∷ rest) moved) (0, omega arith, refl))).0 in
      omega (arith, at, length-map marks (option_map key_of), known.marks_count)

  in_settled : place top < length settled
  in_settled = omega (arith, top_place, known.settled_count)

  -- whether it is settled, read as the code reads it
  pub top_settled : (b : Bool) → b ≡ get_or settled (place top) b → get_or settled (place top) false ≡ b
  top_settled b e = get_or_default settled (place top) false b in_settled ∙ sym e

module _ {K V : Type 0} {key : K → V × ℕ} {place : K → ℕ} {order : V → V → Bool} (ordered : IsOrder order) {g : GraphData} {marks : List (Option (Mark V))} {settled : List Bool} {items : List K}
    (known : IsSearch key place order g marks settled items) where
  few_after : (i : ℕ) (new : Mark V) → i < length marks → new.hops + unsettled settled ≤ g.vertices → HaveFewHops g (set marks i (Some new)) settled
  few_after i new lt few j m e = elim (cases_eq j i) [
    | inl same ↦
        let both : Some new ≡ Some m = sym (ap (λ (k : ℕ). get_or (set marks i (Some new)) k None) same ∙ get_or-set_same marks i (Some new) None lt) ∙ e in
        let is : new ≡ m = cc in
        subst (λ (q : Mark V). q.hops + unsettled settled ≤ g.vertices) is few
    | inr other ↦ known.few_hops j m (sym (get_or-set_other marks i j (Some new) None other) ∙ e)
  ]

  key_at : (i : ℕ) → get_or (keys_in marks) i None ≡ option_map key_of (get_or marks i None)
  key_at i = get_or-map (option_map key_of) marks i None

  -- a better mark has a better key than what was there
  better_key : (o : Option (Mark V)) (new : Mark V) → is_better order o new ≡ true → (y : V × ℕ) → option_map key_of o ≡ Some y → IsTrue (by_number order (key_of new) y)
  better_key None new t y e = cc
  better_key (Some old) new t y e =
      let is : key_of old ≡ y = cc in
      let worse : by_number order (key_of old) (key_of new) ≡ false = not_true (by_number order (key_of old) (key_of new)) t in
      subst (λ (k : V × ℕ). IsTrue (by_number order (key_of new) k)) is (other_no_worse (by_number order) (by_number_order order ordered) (key_of old) (key_of new) worse)
    where
      not_true : (b : Bool) → not b ≡ true → b ≡ false
      not_true true t = cc
      not_true false t = refl

  pub search_offers : (i : ℕ) (new : Mark V) (entry : K) (next : List K) → i < length marks → is_better order (get_or marks i None) new ≡ true → new.hops + unsettled settled ≤ g.vertices →
      IsPermutation (entry ∷ items) next → key entry ≡ key_of new → place entry ≡ i → IsSearch key place order g (set marks i (Some new)) settled next
  search_offers i new entry next lt better few moved is_key is_place =
      let keys_lt : i < length (keys_in marks) = (omega (arith, lt, length-map marks (option_map key_of))) in
      let q = queue_offer key place (by_number order) (by_number_order order ordered) (keys_in marks) settled items known.queue i (key_of new) entry next keys_lt
      (λ y e. better_key (get_or marks i None) new better y (sym (key_at i) ∙ e)) moved is_key is_place in
      record {
        roads = known.roads;
        marks_count = simp length-set known.marks_count;
        settled_count = known.settled_count;
        few_hops = few_after i new lt few;
        queue = subst (λ (keys : List (Option (V × ℕ))). IsQueue key place (by_number order) keys settled next) (sym (map-set (option_map key_of) marks i (Some new))) q;
      }

  same_key : (o : Option (Mark V)) (new : Mark V) → is_better order o new ≡ false → is_lesser order o new ≡ true → Some (key_of new) ≡ option_map key_of o
  same_key None new b l = cc
  same_key (Some old) new b l =
      let fine : IsTrue (by_number order (key_of old) (key_of new)) = not_false (by_number order (key_of old) (key_of new)) b in
      let back : IsTrue (by_number order (key_of new) (key_of old)) = first_of (by_number order (key_of new) (key_of old)) _ l in
      ap (λ (k : V × ℕ). Some k) ((by_number_order order ordered).antisymmetric (key_of new) (key_of old) back fine)
    where
      not_false : (b : Bool) → not b ≡ false → b ≡ true
      not_false true t = refl
      not_false false t = cc

      first_of : (p q : Bool) → cond p q false ≡ true → p ≡ true
      first_of true q t = refl
      first_of false q t = cc

  -- a lesser parent changes no key
  pub search_lessens : (i : ℕ) (new : Mark V) → i < length marks → is_better order (get_or marks i None) new ≡ false → is_lesser order (get_or marks i None) new ≡ true →
      new.hops + unsettled settled ≤ g.vertices → IsSearch key place order g (set marks i (Some new)) settled items
  search_lessens i new lt better lesser few = record {
    roads = known.roads;
    marks_count = simp length-set known.marks_count;
    settled_count = known.settled_count;
    few_hops = few_after i new lt few;
    queue = subst (λ (keys : List (Option (V × ℕ))). IsQueue key place (by_number order) keys settled items)
        (sym (map-set_same (option_map key_of) marks i (Some new) None (same_key (get_or marks i None) new better lesser))) known.queue;
  }

  module _ {top : K} {rest : List K} (moved : IsPermutation items (top ∷ rest)) where
    there : place top < length settled
    there = in_settled known moved

    pub search_drops : get_or settled (place top) false ≡ true → IsSearch key place order g marks settled rest
    search_drops t = record {
      roads = known.roads;
      marks_count = known.marks_count;
      settled_count = known.settled_count;
      few_hops = known.few_hops;
      queue = queue_skip key place (by_number order) (by_number_order order ordered) (keys_in marks) settled items known.queue top rest moved t;
    }

    pub search_settles : IsSearch key place order g marks (set settled (place top) true) rest
    search_settles = record {
      roads = known.roads;
      marks_count = known.marks_count;
      settled_count = simp length-set known.settled_count;
      few_hops = λ i m e. omega (arith, known.few_hops i m e, sum_by-set (λ (b : Bool). cond b 0 1) settled (place top) true false there);
      queue = queue_settle key place (by_number order) (by_number_order order ordered) (keys_in marks) settled items known.queue top rest moved there;
    }

    module _ (o : get_or settled (place top) false ≡ false)
        (first : IsUpperBound (ranked_cmp (λ e. (key e).0) (λ e. (key e).1 * 4294967296 + place e) order) top items) where
      upper : IsUpperBound (ranked_cmp key place (by_number order)) top items
      upper = first_of_key key place order items top first (λ e h.
          omega (arith, (known.queue.entries e h).0, length-map marks (option_map key_of), known.marks_count, known.roads.few_vertices))

      best : IsBestOpen (by_number order) (keys_in marks) settled (length (keys_in marks)) (place top) (key top)
      best = queue_best key place (by_number order) (by_number_order order ordered) (keys_in marks) settled items known.queue top rest moved upper o

      -- one hop more is still few
      pub top_hops : (key top).1 + 1 + unsettled (set settled (place top) true) ≤ g.vertices
      unfolding best
      top_hops =
          let s : (place top + 1) - 1 ≡ place top = omega arith in
          let f = found key_of marks (place top + 1) (key top) (ap (λ (j : ℕ). get_or (keys_in marks) j None) s ∙ best.label) in
          let l = known.few_hops (place top) f.0 (ap (λ (j : ℕ). get_or marks j None) (sym s) ∙ f.1) in
          let n : f.0.hops ≡ (key top).1 = ap (λ (k : V × ℕ). k.1) f.2 in
          let d = sum_by-set (λ (b : Bool). cond b 0 1) settled (place top) true false there in
          let was : unsettled (set settled (place top) true) + 1 ≡ unsettled settled + 0 = rw o at d in
          omega (arith, l, n, was)

      -- the top entry of an open vertex: this one is settled
      pub settles_one : {C : Type 0} (algebra : C) (A : Algebra V) (now : SearchState C V) →
          IsSameSearch (record { algebra = algebra; roads = g; marks = marks; settled = set settled (place top) true; waiting = length rest }) now →
          Relaxes A g (place top + 1) (key top).0 (key top).1 marks now.marks → now.waiting ≤ length rest + length g.arcs → length rest + 1 ≡ length items →
          Proceeds order A (Settled (place top + 1)) (record { algebra = algebra; roads = g; marks = marks; settled = settled; waiting = length items }) now
      unfolding best
      settles_one algebra A now same pass few less = record {
        algebra = same.algebra;
        roads = same.roads;
        advances = record {
          index = place top;
          vertex = refl;
          value = (key top).0;
          hops = (key top).1;
          best = best;
          marks = same.settled;
          relaxes = pass;
          few = omega (arith, few, less);
        };
      }

-- a step by an algebra is one by its equal
pub by_equal : {C V : Type 0} (meaning : C → Algebra V) {order : V → V → Bool} {a b : C} {step : Step} {old new : SearchState C V} →
    a ≡ b → Proceeds order (meaning a) step old new → Proceeds order (meaning b) step old new
by_equal {C} {V} meaning {order} {a} {b} {step} {old} {new} e p = subst (λ (x : C). Proceeds order (meaning x) step old new) e p

module _ {C V : Type 0} (A : Algebra V) (lawful : IsLawful A) (order : V → V → Bool) (same : A.no_worse ≡ order) (g : GraphData) (roads : IsGraph g) (sources : List ℕ)
    (inside : All (HasVertex g) sources)
    (old new : SearchState C V) (in_graph : old.roads ≡ g) (between : Between A g sources old.marks old.settled) where
  pub next_settled : (v : ℕ) → Settles order A v old new → Between A g sources new.marks new.settled
  next_settled v s =
      rw s.marks (round A lawful g roads sources inside order same old.marks old.settled between s.index s.value s.hops new.marks s.best (rw in_graph at s.relaxes))

  pub next_dropped : Drops old new → Between A g sources new.marks new.settled
  next_dropped d = rw (d.marks, d.settled) between

  -- a step leads from one round to the next
  pub next_round : (step : Step) → is_end step ≡ false → Proceeds order A step old new → Between A g sources new.marks new.settled
  next_round (Settled v) more p = next_settled v p.advances
  next_round Dropped more p = next_dropped p.advances
  next_round Ended more p = let bad : true ≡ false = more in cc

  -- at the end the values are best, and hops and parents are their tree
  pub last_round : (step : Step) → is_end step ≡ true → Proceeds order A step old new →
      AreBest A g sources (values_in new.marks) × IsTree A g sources (record { hops = hops_in new.marks; parents = parents_in new.marks })
      × IsLinked (record { hops = hops_in new.marks; parents = parents_in new.marks })
  last_round Ended end p =
      let count = keys_count A lawful g roads sources inside order same old.marks old.settled between in
      rw p.advances.0 (
        values_are_best A lawful g roads sources inside old.marks old.settled between.level between.hops between.hopping (λ j lt. p.advances.2 j (rw count lt)),
        tree_is_found A lawful g roads sources inside old.marks old.settled between.level between.hops between.hopping (λ j lt. p.advances.2 j (rw count lt)),
        linked_found A lawful g roads sources inside old.marks old.settled between.level between.hops between.hopping (λ j lt. p.advances.2 j (rw count lt)),
      )
  last_round step end p = let bad : false ≡ true = end in cc

  -- one more settled vertex outweighs what its arcs put into the queue
  pub nearer_settled : (v : ℕ) → Settles order A v old new →
      unsettled new.settled * (length g.arcs + 1) + new.waiting < unsettled old.settled * (length g.arcs + 1) + old.waiting
  nearer_settled v s =
      let n = keys_count A lawful g roads sources inside order same old.marks old.settled between in
      let lt : s.index < length old.settled = (omega (arith, s.best.below, n, between.hopping.known.settled_count)) in
      let f = sum_by-set (λ (b : Bool). cond b 0 1) old.settled s.index true false lt in
      let was : unsettled (set old.settled s.index true) + 1 ≡ unsettled old.settled + 0 = rw s.best.is_open at f in
      let is : unsettled old.settled ≡ unsettled (set old.settled s.index true) + 1 = omega arith in
      let few : new.waiting < old.waiting + length g.arcs + 1 = omega (arith, rw in_graph at s.few) in
      rw (s.marks, is) (omega (arith, few))

  pub nearer_dropped : Drops old new → unsettled new.settled * (length g.arcs + 1) + new.waiting < unsettled old.settled * (length g.arcs + 1) + old.waiting
  nearer_dropped d = rw d.settled (omega (arith, d.fewer))

  pub comes_nearer : (step : Step) → is_end step ≡ false → Proceeds order A step old new →
      unsettled new.settled * (length g.arcs + 1) + new.waiting < unsettled old.settled * (length g.arcs + 1) + old.waiting
  comes_nearer (Settled v) more p = nearer_settled v p.advances
  comes_nearer Dropped more p = nearer_dropped p.advances
  comes_nearer Ended more p = let bad : true ≡ false = more in cc
