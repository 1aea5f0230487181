-- Lent arcs are those of a graph if each joins two of its vertices.
use Rattle.std.proofs.Common.{◌≡◌, ℕ, ◌+◌, ◌-◌, ◌<◌, ◌≤◌, ◌^◌, List, length, get_or, sym, subst, arith}
use Rattle.diffuse_c.proofs.Words.{All, RoadArc, DiffuseArc, arc_from, lent}
use Rattle.std.proofs.lemmas.List.{get_or-map, length-map}
use Rattle.road_graph.specs.GraphData.{IsGraph, HasArc, JoinsVertices, arc_of}

-- both ends of the arc are among the vertices 1 to n, and its weight is below 2^32
abbrev pub FitsIn : ℕ → DiffuseArc → Type 0
FitsIn n a = JoinsVertices n (arc_from a) × (a.weight < 2 ^ 32)

-- a place in the list
inside : (n a : ℕ) (arcs : List DiffuseArc) → HasArc (lent n arcs) a → a - 1 < length arcs
inside n a arcs has = omega (arith, has.0, has.1, length-map arcs arc_from)

arc_at : (n a : ℕ) (arcs : List DiffuseArc) (d : DiffuseArc) → HasArc (lent n arcs) a → arc_of (lent n arcs) a ≡ arc_from (get_or arcs (a - 1) d)
arc_at n a arcs d has = get_or-map arc_from arcs (a - 1) d _ (inside n a arcs has)

abbrev none : DiffuseArc
none = record { tail = 0; head = 0; weight = 0 }

pub graph_if_all_fit : (n : ℕ) (arcs : List DiffuseArc) → n ≤ 33554432 → length arcs ≤ 134217728 → All (FitsIn n) arcs → IsGraph (lent n arcs)
graph_if_all_fit n arcs few long all = record {
  ends = λ (a : ℕ) has. subst (JoinsVertices n) (sym (arc_at n a arcs none has)) (all (a - 1) none (inside n a arcs has)).0;
  weights = λ (a : ℕ) has. subst (λ (r : RoadArc). r.weight < 2 ^ 32) (sym (arc_at n a arcs none has)) (all (a - 1) none (inside n a arcs has)).1;
  few_vertices = few;
  few_arcs = omega (arith, long, length-map arcs arc_from);
}

pub joins_in_graph : (n i : ℕ) (arcs : List DiffuseArc) (d : DiffuseArc) → i < length arcs → IsGraph (lent n arcs) → JoinsVertices n (arc_from (get_or arcs i d))
joins_in_graph n i arcs d lt is =
    let has : HasArc (lent n arcs) (i + 1) = (omega arith, omega (arith, lt, length-map arcs arc_from)) in
    let at : i + 1 - 1 ≡ i = omega arith in
    subst (λ (k : ℕ). JoinsVertices n (arc_from (get_or arcs k d))) at (subst (JoinsVertices n) (arc_at n (i + 1) arcs d has) (is.ends (i + 1) has))
