-- The lines of a graph: they are written one after the other, and read again.
use Rattle.std.proofs.Common.{◌≡◌, ℕ, ◌+◌, ◌<◌, ◌≤◌, List, [], ◌++◌, length, get_or, map, Result, ap, ◌∙◌, arith, subst, ◌-◌, ◌∷◌, Ok, refl, ◌*◌, ◌^◌, Some, None, lit<, codes, decimal, append_assoc, append-nil, length-append}
use Rattle.std.proofs.lemmas.List.{get_or_default}
use Rattle.std.specs.List.{AllByRecursion}
use Rattle.graph_text.proofs.Words.{le-ltb, ne_eqb, lt-ltb, RoadArc, text_read, word_of, gr_problem, one_arc, gr_line, gr_rules, gr_end}
use Rattle.std.proofs.lemmas.Fmt.{length-decimal-le}
use Rattle.std.proofs.lemmas.List.Elements.{recursion_from_All}
use Rattle.road_graph.specs.GraphData.{GraphData, arc_of, IsGraph, JoinsVertices}
use Rattle.text_lines.specs.Texts.{text_of, spelled, AreLines}
use Rattle.text_lines.specs.Streams.{Output}
use Rattle.text_lines.specs.Written.{WrotePrefix, FailedAfterPrefix, WritesText}
use Rattle.text_lines.proofs.WriteLaws.{wrote_then, fell_first}
use Rattle.text_lines.proofs.RoundTrip.{after, value_again, read_again, decimal_is_number, word_of_number, word_by_test}
use Rattle.graph_text.specs.WrittenGraphs.{graph_words, arc_words, gr_text, graph_lines}

-- arc number i + 1 is entry i of the arcs
pub arc_at : (g : GraphData) (i : ℕ) → arc_of g (i + 1) ≡ get_or g.arcs i (record { tail = 0; head = 0; weight = 0 })
arc_at g i = let same : (i + 1) - 1 ≡ i = omega arith in ap (λ k. get_or g.arcs k (record { tail = 0; head = 0; weight = 0 })) same

module _ {X : Type 0} (old mid new : Output X) (line : List ℕ) where
  -- a problem line, and then the lines of a graph
  pub graph_then : {B E : Type 0} (g : GraphData) (r : Result B E) → line ≡ spelled (graph_words g.vertices (length g.arcs)) → WrotePrefix old mid line [] →
      WritesText mid new (text_of (map arc_words g.arcs)) r → WritesText old new (gr_text g) r
  unfolding gr_text
  graph_then g r is was next = wrote_then old mid new (spelled (graph_words g.vertices (length g.arcs))) (text_of (map arc_words g.arcs)) r
      (subst (λ x. WrotePrefix old mid x []) is was) next

module _ {X : Type 0} (old new : Output X) (line : List ℕ) where
  pub graph_fell : (g : GraphData) → line ≡ spelled (graph_words g.vertices (length g.arcs)) → FailedAfterPrefix old new line → FailedAfterPrefix old new (gr_text g)
  unfolding gr_text
  graph_fell g is was = fell_first old new (spelled (graph_words g.vertices (length g.arcs))) (text_of (map arc_words g.arcs)) (subst (FailedAfterPrefix old new) is was)

-- an arc that a graph with n vertices may have
abbrev pub IsArcOf : ℕ → RoadArc → Type 0
IsArcOf n a = JoinsVertices n a × (a.weight < 2 ^ 32)

pub arcs_of_roads : (g : GraphData) → IsGraph g → AllByRecursion (IsArcOf g.vertices) g.arcs
arcs_of_roads g h = recursion_from_All (IsArcOf g.vertices) g.arcs (λ k d lt.
    let e = arc_at g k ∙ get_or_default g.arcs k (record { tail = 0; head = 0; weight = 0 }) d lt in
    subst (IsArcOf g.vertices) e (h.ends (k + 1) (omega arith, omega arith), h.weights (k + 1) (omega arith, omega arith)))

pub problem_step : (n m : ℕ) → n ≤ 33554432 → m ≤ 134217728 → gr_line None (map word_of (graph_words n m)) ≡ Ok (Some (record { vertices = n; announced = m; arcs = [] }))
unfolding gr_line gr_problem
problem_step n m p q = rw (decimal_is_number n (omega arith), decimal_is_number m (omega arith), le-ltb 33554432 n p, le-ltb 134217728 m q) refl

pub arc_step : (n m : ℕ) (done : List RoadArc) (a : RoadArc) → n ≤ 33554432 → length done < m → IsArcOf n a
    → gr_line (Some (record { vertices = n; announced = m; arcs = done })) (map word_of (arc_words a)) ≡ Ok (Some (record { vertices = n; announced = m; arcs = done ++ a ∷ [] }))
unfolding gr_line one_arc
arc_step n m done a small room h =
    let ends = h.0 in
    rw (
      lt-ltb (length done) m room,
      decimal_is_number a.tail (omega (arith, ends.0.1)),
      decimal_is_number a.head (omega (arith, ends.1.1)),
      decimal_is_number a.weight (omega (arith, h.1)),
      ne_eqb a.tail 0 (λ e. omega (arith, ends.0.0)),
      ne_eqb a.head 0 (λ e. omega (arith, ends.1.0)),
      le-ltb n a.tail ends.0.1,
      le-ltb n a.head ends.1.1,
      le-ltb 4294967295 a.weight (omega (arith, h.1)),
    ) refl

pub arcs_after : (n m : ℕ) (done arcs : List RoadArc) → n ≤ 33554432 → length done + length arcs ≤ m → AllByRecursion (IsArcOf n) arcs
    → after gr_rules (Some (record { vertices = n; announced = m; arcs = done })) (map arc_words arcs) ≡ Ok (Some (record { vertices = n; announced = m; arcs = done ++ arcs }))
arcs_after n m done [] small room h = rw (append-nil done) refl
arcs_after n m done (a ∷ arcs) small room h =
    rw (arc_step n m done a small (omega arith) h.0)
    (arcs_after n m (done ++ a ∷ []) arcs small (omega (arith, length-append done (a ∷ []))) h.1
    ∙ ap (λ xs. Ok (Some (record { vertices = n; announced = m; arcs = xs }))) (append_assoc done (a ∷ []) arcs))

pub graph_after : (g : GraphData) → IsGraph g → after gr_rules None (graph_lines g) ≡ Ok (Some (record { vertices = g.vertices; announced = length g.arcs; arcs = g.arcs }))
graph_after g h = rw (problem_step g.vertices (length g.arcs) h.few_vertices h.few_arcs) (arcs_after g.vertices (length g.arcs) [] g.arcs h.few_vertices (omega arith) (arcs_of_roads g h))

arcs_are_lines : (n : ℕ) (arcs : List RoadArc) → n ≤ 33554432 → AllByRecursion (IsArcOf n) arcs → AreLines (map arc_words arcs)
arcs_are_lines n [] small h = tt
arcs_are_lines n (a ∷ arcs) small h =
    let ends = h.0.0 in (
      (
        word_by_test (codes "a") refl,
        (
          word_of_number a.tail (omega (arith, ends.0.1)),
          (word_of_number a.head (omega (arith, ends.1.1)), (word_of_number a.weight (omega (arith, h.0.1)), tt)),
        ),
      ),
      arcs_are_lines n arcs small h.1,
    )

pub graph_are_lines : (g : GraphData) → IsGraph g → AreLines (graph_lines g)
graph_are_lines g h =
    let few = h.few_vertices in let many = h.few_arcs in (
      (word_by_test (codes "p") refl, (word_by_test (codes "sp") refl, (word_of_number g.vertices (omega arith), (word_of_number (length g.arcs) (omega arith), tt)))),
      arcs_are_lines g.vertices g.arcs few (arcs_of_roads g h),
    )

-- a line of an arc has at most 31 bytes
arc_length : (n : ℕ) (a : RoadArc) → n ≤ 33554432 → IsArcOf n a → length (spelled (arc_words a)) ≤ 31
unfolding spelled
arc_length n a small h =
    let ends = h.0 in
    let t : length (decimal a.tail) ≤ 8 = length-decimal-le 8 a.tail (lit< tt) (omega (arith, ends.0.1)) (omega (arith, ends.0.1)) in
    let u : length (decimal a.head) ≤ 8 = length-decimal-le 8 a.head (lit< tt) (omega (arith, ends.1.1)) (omega (arith, ends.1.1)) in
    let w : length (decimal a.weight) ≤ 10 = length-decimal-le 10 a.weight (lit< tt) (omega (arith, h.1)) (omega (arith, h.1)) in
    simp length-append (omega arith)

arcs_length : (n : ℕ) (arcs : List RoadArc) → n ≤ 33554432 → AllByRecursion (IsArcOf n) arcs → length (text_of (map arc_words arcs)) ≤ 31 * length arcs
arcs_length n [] small h = omega arith
arcs_length n (a ∷ arcs) small h =
    let here : length (spelled (arc_words a)) ≤ 31 = arc_length n a small h.0 in
    let rest : length (text_of (map arc_words arcs)) ≤ 31 * length arcs = arcs_length n arcs small h.1 in
    let both : length (spelled (arc_words a) ++ text_of (map arc_words arcs)) ≡ length (spelled (arc_words a)) + length (text_of (map arc_words arcs)) =
    length-append (spelled (arc_words a)) (text_of (map arc_words arcs)) in
    omega arith

problem_length : (n m : ℕ) → n ≤ 33554432 → m ≤ 134217728 → length (spelled (graph_words n m)) ≤ 24
unfolding spelled
problem_length n m p q =
    let t : length (decimal n) ≤ 8 = length-decimal-le 8 n (lit< tt) (omega arith) (omega arith) in
    let u : length (decimal m) ≤ 9 = length-decimal-le 9 m (lit< tt) (omega arith) (omega arith) in
    simp length-append (omega arith)

pub graph_length : (g : GraphData) → IsGraph g → length (gr_text g) ≤ 31 * 134217728 + 24
unfolding gr_text
graph_length g h =
    let few = h.few_vertices in let many = h.few_arcs in
    let first : length (spelled (graph_words g.vertices (length g.arcs))) ≤ 24 = problem_length g.vertices (length g.arcs) few many in
    let rest : length (text_of (map arc_words g.arcs)) ≤ 31 * length g.arcs = arcs_length g.vertices g.arcs few (arcs_of_roads g h) in
    let both : length (spelled (graph_words g.vertices (length g.arcs)) ++ text_of (map arc_words g.arcs)) ≡ length
    (spelled (graph_words g.vertices (length g.arcs))) + length (text_of (map arc_words g.arcs)) =
    length-append (spelled (graph_words g.vertices (length g.arcs))) (text_of (map arc_words g.arcs)) in
    omega arith

-- the text of a graph has its value
pub graph_again : (g : GraphData) → IsGraph g → text_read gr_rules (gr_text g) ≡ Ok g
unfolding gr_text
graph_again g h =
    let ended : gr_end (Some (record { vertices = g.vertices; announced = length g.arcs; arcs = g.arcs })) ≡ Ok g = rw (le-ltb (length g.arcs) (length g.arcs) (omega arith)) refl in
    let few : length (gr_text g) ≤ 31 * 134217728 + 24 = graph_length g h in
    read_again gr_rules g (text_of (graph_lines g)) (omega arith) (value_again gr_rules _ g (graph_lines g) (graph_are_lines g h) (graph_after g h) ended)
