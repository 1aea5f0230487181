-- A graph after changes of weights differs from it where the changes have the ends of an arc.
use Rattle.path_factors.proofs.Words.{◌≡◌, ℕ, ◌-◌, ◌∙◌, ◌⊎◌, inl, inr, List, [], ◌∷◌, refl, ap, sym, arith, true, cases_Bool, GraphData, HasArc, arc_of, Contains, here, later}
use Rattle.std.proofs.lemmas.Bool.{eqb-true}
use Rattle.std.proofs.lemmas.List.{get_or-map, length-map}
use Rattle.std.specs.Prelude.{eqb}
use Rattle.road_graph.specs.declared.RoadArc.{RoadArc}
use Rattle.road_graph.specs.Changing.{arc_after, graph_after, with_change}
use Rattle.path_factors.specs.Reweighing.{DiffersAt}

-- a change leaves an arc, or has its ends and is what becomes of it
changes_once : (c a : RoadArc) → (with_change c a ≡ a) ⊎ ((c.tail ≡ a.tail) × (c.head ≡ a.head) × (with_change c a ≡ c))
changes_once c a = elim (cases_Bool (eqb a.tail c.tail)) [
  | inr off ↦ inl (rw off refl)
  | inl on ↦ elim (cases_Bool (eqb a.head c.head)) [
    | inr off ↦ inl (rw (on, off) refl)
    | inl both ↦ inr (sym (eqb-true a.tail c.tail on), sym (eqb-true a.head c.head both), rw (on, both) refl)
  ]
]

-- what changes make of an arc has its ends, and its weight unless a change has these ends
record Becomes (changes : List RoadArc) (a b : RoadArc) : Type 0 where
  tail : b.tail ≡ a.tail
  head : b.head ≡ a.head
  weight : (b.weight ≡ a.weight) ⊎ ((c : RoadArc) × Contains changes c × (c.tail ≡ a.tail) × (c.head ≡ a.head))

becomes : (changes : List RoadArc) (a : RoadArc) → Becomes changes a (arc_after changes a)
becomes [] a = record { tail = refl; head = refl; weight = inl refl }
becomes (c ∷ changes) a =
    let b = with_change c a in
    let rest = becomes changes b in
    elim (changes_once c a) [
      | inl same ↦ record {
        tail = rest.tail ∙ ap (λ (x : RoadArc). x.tail) same;
        head = rest.head ∙ ap (λ (x : RoadArc). x.head) same;
        weight = elim rest.weight [
          | inl kept ↦ inl (kept ∙ ap (λ (x : RoadArc). x.weight) same)
          | inr new ↦ inr (new.0, later c new.0 changes new.1, new.2 ∙ ap (λ (x : RoadArc). x.tail) same, new.3 ∙ ap (λ (x : RoadArc). x.head) same)
        ];
      }
      | inr is ↦ record {
        tail = rest.tail ∙ ap (λ (x : RoadArc). x.tail) is.2 ∙ is.0;
        head = rest.head ∙ ap (λ (x : RoadArc). x.head) is.2 ∙ is.1;
        weight = inr (c, here c changes, is.0, is.1);
      }
    ]

pub after_differs : (changes : List RoadArc) (g : GraphData) → DiffersAt changes (graph_after changes g) g
after_differs changes g =
    let no_arc : RoadArc = record { tail = 0; head = 0; weight = 0 } in
    let at : (a : ℕ) → HasArc g a → arc_of (graph_after changes g) a ≡ arc_after changes (arc_of g a) =
    λ a has. get_or-map (arc_after changes) g.arcs (a - 1) no_arc no_arc (omega (arith, has.0, has.1)) in
    record {
      vertices = refl;
      count = length-map g.arcs (arc_after changes);
      tails = λ a has. ap (λ (x : RoadArc). x.tail) (at a has) ∙ (becomes changes (arc_of g a)).tail;
      heads = λ a has. ap (λ (x : RoadArc). x.head) (at a has) ∙ (becomes changes (arc_of g a)).head;
      weights = λ a has. elim (becomes changes (arc_of g a)).weight [
        | inl kept ↦ inl (ap (λ (x : RoadArc). x.weight) (at a has) ∙ kept)
        | inr new ↦ inr new
      ];
    }
