-- Rows after a change of weights are those of the arcs after it.
use Rattle.road_graph.proofs.Words.{◌≡◌, ℕ, ◌+◌, ◌-◌, ◌<◌, ◌≤◌, ◌⊎◌, inl, inr, List, [], ◌∷◌, length, map, take, get_or, refl, sym, ◌∙◌, ap, subst, arith, true, eqb, cases_lt, cases_eq, eq-eqb, ext_get_or, get_or-map, length-map, RoadArc, OutRoad, Tail, GraphData, HasArc, HasVertex, IsGraph, AreRows, AreRoadRows, arc_of, road_of, roads_of, numbers_at}
use Rattle.std.proofs.lemmas.Bool.{cases_Bool, eqb-true}
use Rattle.std.specs.Prelude.{cond, false}
use Rattle.std.proofs.Common.{◌++◌}
use Rattle.std.proofs.lemmas.List.{take_more}
use Rattle.road_graph.specs.Changing.{HasEnds, arc_after, graph_after, road_after, road_at, with_change}
use Rattle.road_graph.proofs.Numbers.{lists_from}
use Rattle.road_graph.proofs.Places.{number_at, stands, tail_row}

abbrev pub no_arc : RoadArc
no_arc = record { tail = 0; head = 0; weight = 0 }

module _ (c : RoadArc) where
  -- a change leaves the ends
  pub same_ends : (a : RoadArc) → ((with_change c a).tail ≡ a.tail) × ((with_change c a).head ≡ a.head)
  same_ends a = elim (cases_Bool (eqb a.tail c.tail)) [
    | inr off ↦ rw off (refl, refl)
    | inl on ↦ elim (cases_Bool (eqb a.head c.head)) [
      | inr off ↦ rw (on, off) (refl, refl)
      | inl here ↦ rw (on, here) (sym (eqb-true a.tail c.tail on), sym (eqb-true a.head c.head here))
    ]
  ]

  low_weight : (m : ℕ) (a : RoadArc) → c.weight < m → a.weight < m → (with_change c a).weight < m
  low_weight m a new old = elim (cases_Bool (eqb a.tail c.tail)) [
    | inr off ↦ rw off old
    | inl on ↦ elim (cases_Bool (eqb a.head c.head)) [
      | inr off ↦ rw (on, off) old
      | inl here ↦ rw (on, here) new
    ]
  ]

  same_numbers : (v start : ℕ) (arcs : List RoadArc) → numbers_at Tail v start (map (with_change c) arcs) ≡ numbers_at Tail v start arcs
  same_numbers v start [] = refl
  same_numbers v start (a ∷ arcs) = rw ((same_ends a).0, same_numbers v (start + 1) arcs) refl

  module _ (n : ℕ) (arcs : List RoadArc) where
    abbrev pub g : GraphData
    g = record { vertices = n; arcs = arcs }

    abbrev pub after : GraphData
    after = record { vertices = n; arcs = map (with_change c) arcs }

    arc_changed : (a : ℕ) → HasArc g a → arc_of after a ≡ with_change c (arc_of g a)
    arc_changed a has = get_or-map (with_change c) arcs (a - 1) no_arc no_arc (omega (arith, has.0, has.1))

    -- the graph after it
    pub still_graph : c.weight < 4294967296 → IsGraph g → IsGraph after
    still_graph low is = record {
      ends = λ a has.
          let old : HasArc g a = (has.0, omega (arith, has.1, length-map arcs (with_change c))) in
          let e = same_ends (arc_of g a) in
          rw (arc_changed a old, e.0, e.1) (is.ends a old);
      weights = λ a has.
          let old : HasArc g a = (has.0, omega (arith, has.1, length-map arcs (with_change c))) in
          rw (arc_changed a old) (low_weight 4294967296 (arc_of g a) low (is.weights a old));
      few_vertices = is.few_vertices;
      few_arcs = rw (length-map arcs (with_change c)) is.few_arcs;
    }

    module _ (starts numbers : List ℕ) (known : AreRows Tail n arcs starts numbers) where
      rows_after : AreRows Tail n (map (with_change c) arcs) starts numbers
      rows_after = record {
        count = known.count;
        first = known.first;
        last = known.last ∙ sym (length-map arcs (with_change c));
        all = known.all ∙ sym (length-map arcs (with_change c));
        rising = known.rising;
        inside = known.inside;
        rows = λ k lt. known.rows k lt ∙ sym (same_numbers (k + 1) 0 arcs);
      }

      -- an arc whose number is in the row of a vertex leaves it
      leaves : (v k : ℕ) → v < n → get_or starts v 0 ≤ k → k < get_or starts (v + 1) 0 → (arc_of g (get_or numbers k 0)).tail ≡ v + 1
      leaves v k lt low high = (((lists_from g (v + 1)).complete (get_or numbers k 0)).0 (number_at Tail n arcs starts numbers known v k lt low high)).1

      -- whether some arc has the ends of the change is seen in the row of its tail
      pub ends_in_row : IsGraph g → (roads : List OutRoad) → roads ≡ roads_of g numbers → (v : ℕ) → v < n → c.tail ≡ v + 1 → HasEnds g c →
          (k : ℕ) × (get_or starts v 0 ≤ k) × (k < get_or starts (v + 1) 0) × ((get_or roads k (road_of no_arc)).head ≡ c.head)
      ends_in_row is roads are v lt tail has =
          let a = has.0 in
          let at = stands g starts numbers known is a has.1 in
          let r = tail_row g starts numbers known at.0 at.1.0 in
          let same : r.1 ≡ v = (let e : (arc_of g (get_or numbers at.0 0)).tail ≡ (arc_of g a).tail = ap (λ x. (arc_of g x).tail) at.1.1 in omega (arith, e, r.2, has.2, tail)) in
          let read : get_or roads at.0 (road_of no_arc) ≡ road_of (arc_of g a) = rw are (get_or-map (λ x. road_of (arc_of g x)) numbers at.0 0 (road_of no_arc) at.1.0 ∙ ap (λ x. road_of (arc_of g x)) at.1.1) in
          (at.0, rw same at r.4, rw same at r.5, ap (λ (x : OutRoad). x.head) read ∙ has.3)

      pub row_has_ends : (roads : List OutRoad) → roads ≡ roads_of g numbers → (v : ℕ) → v < n → c.tail ≡ v + 1 →
          (k : ℕ) → get_or starts v 0 ≤ k → k < get_or starts (v + 1) 0 → (get_or roads k (road_of no_arc)).head ≡ c.head → HasEnds g c
      row_has_ends roads are v lt tail k low high head =
          let inside = known.inside v lt in
          let less : k < length numbers = omega (arith, inside, high) in
          let r = tail_row g starts numbers known k less in
          let read : get_or roads k (road_of no_arc) ≡ road_of (arc_of g (get_or numbers k 0)) = rw are (get_or-map (λ x. road_of (arc_of g x)) numbers k 0 (road_of no_arc) less) in
          (get_or numbers k 0, r.0, leaves v k lt low high ∙ sym tail, sym (ap (λ (x : OutRoad). x.head) read) ∙ head)

      road_there : (a : RoadArc) → a.tail ≡ c.tail → road_of (with_change c a) ≡ road_after c (road_of a)
      road_there a on = rw (eq-eqb a.tail c.tail on) (elim (eqb a.head c.head) as (λ t. road_of (cond t c a) ≡ cond t (road_of c) (road_of a)) [
        | true ↦ refl
        | false ↦ refl
      ])

      road_elsewhere : (a : RoadArc) → (a.tail ≡ c.tail → ⊥) → road_of (with_change c a) ≡ road_of a
      road_elsewhere a off = elim (cases_Bool (eqb a.tail c.tail)) [
        | inl on ↦ absurd (off (eqb-true a.tail c.tail on))
        | inr away ↦ rw away refl
      ]

      -- roads that are changed in the row of its tail alone are those of the arcs after it
      pub rows_changed : (roads more : List OutRoad) → roads ≡ roads_of g numbers → length more ≡ length roads → (v : ℕ) → v < n → c.tail ≡ v + 1 →
          ((k : ℕ) → get_or starts v 0 ≤ k → k < get_or starts (v + 1) 0 → get_or more k (road_of no_arc) ≡ road_after c (get_or roads k (road_of no_arc))) →
          ((k : ℕ) → (k < get_or starts v 0) ⊎ (get_or starts (v + 1) 0 ≤ k) → get_or more k (road_of no_arc) ≡ get_or roads k (road_of no_arc)) →
          AreRoadRows n (map (with_change c) arcs) starts more
      rows_changed roads more are count v lt tail there elsewhere =
          let long : length roads ≡ length numbers = rw are (length-map numbers (λ x. road_of (arc_of g x))) in
          record {
            numbers = numbers;
            rows = rows_after;
            roads_are = ext_get_or (road_of no_arc) more (roads_of after numbers) (count ∙ long ∙ sym (length-map numbers (λ x. road_of (arc_of after x)))) (λ k low.
                let less : k < length numbers = omega (arith, low, count, long) in
                let a = get_or numbers k 0 in
                let r = tail_row g starts numbers known k less in
                let old : get_or roads k (road_of no_arc) ≡ road_of (arc_of g a) = rw are (get_or-map (λ x. road_of (arc_of g x)) numbers k 0 (road_of no_arc) less) in
                let new : get_or (roads_of after numbers) k (road_of no_arc) ≡ road_of (with_change c (arc_of g a)) =
                get_or-map (λ x. road_of (arc_of after x)) numbers k 0 (road_of no_arc) less ∙ ap road_of (arc_changed a r.0) in
                elim (cases_eq r.1 v) [
                  | inl same ↦
                      let in_row = there k (rw same at r.4) (rw same at r.5) in
                      in_row ∙ ap (road_after c) old ∙ sym (new ∙ road_there (arc_of g a) (r.2 ∙ ap (λ x. x + 1) same ∙ sym tail))
                  | inr other ↦
                      let out : (k < get_or starts v 0) ⊎ (get_or starts (v + 1) 0 ≤ k) = elim (cases_lt k (get_or starts v 0)) [
                        | inl before ↦ inl before
                        | inr from ↦ elim (cases_lt k (get_or starts (v + 1) 0)) [
                          | inl within ↦ let e = leaves v k lt from within in absurd (other (omega (arith, e, r.2)))
                          | inr past ↦ inr past
                        ]
                      ] in
                      elsewhere k out ∙ old ∙ sym (new ∙ road_elsewhere (arc_of g a) (λ on. other (omega (arith, on, r.2, tail))))
                ]);
          }

-- where a row ends
pub row_inside : (n : ℕ) (arcs : List RoadArc) (starts : List ℕ) (roads : List OutRoad) → AreRoadRows n arcs starts roads → (v : ℕ) → v < n → get_or starts (v + 1) 0 ≤ length roads
row_inside n arcs starts roads known v lt =
    let inside = known.rows.inside v lt in
    let long : length roads ≡ length known.numbers = rw known.roads_are (length-map known.numbers (λ x. road_of (arc_of (record { vertices = n; arcs = arcs }) x))) in
    omega (arith, inside, long)

no_changes : (arcs : List RoadArc) → map (arc_after []) arcs ≡ arcs
no_changes [] = refl
no_changes (a ∷ arcs) = ap (λ (rest : List RoadArc). a ∷ rest) (no_changes arcs)

pub unchanged : (g : GraphData) → graph_after [] g ≡ g
unchanged g = ap (λ (arcs : List RoadArc). record { vertices = g.vertices; arcs = arcs }) (no_changes g.arcs)

after_more : (changes : List RoadArc) (c a : RoadArc) → arc_after (changes ++ c ∷ []) a ≡ with_change c (arc_after changes a)
after_more [] c a = refl
after_more (d ∷ changes) c a = after_more changes c (with_change d a)

arcs_more : (changes : List RoadArc) (c : RoadArc) (arcs : List RoadArc) → map (arc_after (changes ++ c ∷ [])) arcs ≡ map (with_change c) (map (arc_after changes) arcs)
arcs_more changes c [] = refl
arcs_more changes c (a ∷ arcs) = rw (after_more changes c a, arcs_more changes c arcs) refl

-- one more change
pub changed_more : (changes : List RoadArc) (c : RoadArc) (g : GraphData) →
    graph_after (changes ++ c ∷ []) g ≡ record { vertices = g.vertices; arcs = map (with_change c) (map (arc_after changes) g.arcs) }
changed_more changes c g = ap (λ (arcs : List RoadArc). record { vertices = g.vertices; arcs = arcs }) (arcs_more changes c g.arcs)

after_ends : (changes : List RoadArc) (a : RoadArc) → ((arc_after changes a).tail ≡ a.tail) × ((arc_after changes a).head ≡ a.head)
after_ends [] a = (refl, refl)
after_ends (c ∷ changes) a =
    let first = same_ends c a in
    let rest = after_ends changes (with_change c a) in
    (rest.0 ∙ first.0, rest.1 ∙ first.1)

module _ (changes : List RoadArc) (g : GraphData) where
  arc_then : (a : ℕ) → HasArc g a → arc_of (graph_after changes g) a ≡ arc_after changes (arc_of g a)
  arc_then a has = get_or-map (arc_after changes) g.arcs (a - 1) no_arc no_arc (omega (arith, has.0, has.1))

  -- changes leave which arcs there are
  pub ends_before : (c : RoadArc) → HasEnds (graph_after changes g) c → HasEnds g c
  ends_before c has =
      let old : HasArc g has.0 = (has.1.0, omega (arith, has.1.1, length-map g.arcs (arc_after changes))) in
      let e = after_ends changes (arc_of g has.0) in
      let is = arc_then has.0 old in
      (has.0, old, sym e.0 ∙ ap (λ (a : RoadArc). a.tail) (sym is) ∙ has.2, sym e.1 ∙ ap (λ (a : RoadArc). a.head) (sym is) ∙ has.3)

  pub ends_then : (c : RoadArc) → HasEnds g c → HasEnds (graph_after changes g) c
  ends_then c has =
      let e = after_ends changes (arc_of g has.0) in
      let is = arc_then has.0 has.1 in (
        has.0,
        (has.1.0, omega (arith, has.1.1, length-map g.arcs (arc_after changes))),
        ap (λ (a : RoadArc). a.tail) is ∙ e.0 ∙ has.2,
        ap (λ (a : RoadArc). a.head) is ∙ e.1 ∙ has.3,
      )

-- the step from k changes to the next one, c, whose row lies between start and past
module _ (g : GraphData) (changes : List RoadArc) (k : ℕ) (lt : k < length changes) (c : RoadArc) (is : c ≡ get_or changes k c) (starts : List ℕ) (roads : List OutRoad)
    (graph : IsGraph (graph_after (take k changes) g)) (rows : AreRoadRows g.vertices (graph_after (take k changes) g).arcs starts roads)
    (vertex : HasVertex g c.tail) (start past : ℕ) (from : start ≡ get_or starts (c.tail - 1) 0) (to : past ≡ get_or starts c.tail 0) where
  low : c.tail - 1 < g.vertices
  low = omega (arith, vertex.0, vertex.1)

  tail : c.tail ≡ c.tail - 1 + 1
  tail = omega (arith, vertex.0)

  ends_at : past ≡ get_or starts (c.tail - 1 + 1) 0
  ends_at = to ∙ ap (λ x. get_or starts x 0) tail

  pub past_inside : past ≤ length roads
  past_inside = rw ends_at (row_inside g.vertices (graph_after (take k changes) g).arcs starts roads rows (c.tail - 1) low)

  pub missing : ((j : ℕ) → start ≤ j → j < past → (road_at roads j).head ≡ c.head → ⊥) → HasEnds g c → ⊥
  missing none has =
      let found = ends_in_row c g.vertices (graph_after (take k changes) g).arcs starts rows.numbers rows.rows graph roads rows.roads_are (c.tail - 1) low tail (ends_then (take k changes) g c has) in
      none found.0 (omega (arith, from, found.1)) (omega (arith, ends_at, found.2)) found.3

  pub present : (j : ℕ) × (start ≤ j) × (j < past) × ((road_at roads j).head ≡ c.head) → HasEnds g c
  present found =
      ends_before (take k changes) g c
      (row_has_ends c g.vertices (graph_after (take k changes) g).arcs starts rows.numbers rows.rows roads rows.roads_are (c.tail - 1) low tail found.0 (omega (arith, from, found.1)) (omega (arith, ends_at, found.2)) found.3)

  now : graph_after (take (k + 1) changes) g ≡ record { vertices = g.vertices; arcs = map (with_change c) (graph_after (take k changes) g).arcs }
  now =
      ap (λ (cs : List RoadArc). graph_after cs g) (take_more changes k c lt ∙ ap (λ x. take k changes ++ x ∷ []) (sym is))
      ∙ changed_more (take k changes) c g

  pub graph_then : c.weight < 4294967296 → IsGraph (graph_after (take (k + 1) changes) g)
  graph_then weight = subst (λ (h : GraphData). IsGraph h) (sym now) (still_graph c g.vertices (graph_after (take k changes) g).arcs weight graph)

  pub rows_then : (more : List OutRoad) → length more ≡ length roads →
      ((j : ℕ) → start ≤ j → j < past → road_at more j ≡ road_after c (road_at roads j)) →
      ((j : ℕ) → (j < start) ⊎ (past ≤ j) → road_at more j ≡ road_at roads j) →
      AreRoadRows g.vertices (graph_after (take (k + 1) changes) g).arcs starts more
  rows_then more count there elsewhere =
      subst (λ (h : GraphData). AreRoadRows g.vertices h.arcs starts more) (sym now)
      (rows_changed c g.vertices (graph_after (take k changes) g).arcs starts rows.numbers rows.rows roads more rows.roads_are count (c.tail - 1) low tail
      (λ j from_start to_past. there j (rw from from_start) (rw ends_at to_past))
      (λ j out. elsewhere j (elim out [
        | inl before ↦ inl (rw from before)
        | inr after_it ↦ inr (rw ends_at after_it)
      ])))
