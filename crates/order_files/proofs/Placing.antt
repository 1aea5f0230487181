-- The vertex at each place, once one vertex more has its place.
use Rattle.std.proofs.Common.{◌≡◌, ℕ, ◌+◌, ◌<◌, ◌≤◌, ◌≢◌, inl, inr, List, [], ◌∷◌, ◌++◌, length, set, get_or, if◌then◌else◌, Ok, Err, refl, ap, sym, ◌∙◌, arith, get_or-set_same, get_or-set_other}
use Rattle.std.proofs.lemmas.Bool.{cases_eq, ne_eqb}
use Rattle.std.proofs.lemmas.List.{length-append}
use Rattle.std.specs.Prelude.{◌==◌}
use Rattle.order_files.specs.declared.order_parser.OrderParser.{OrderParser}
use Rattle.order_files.specs.OrderFiles.{placed_from, vertex_placed, place_taken}
use Rattle.order_files.specs.OrderTakes.{HasNoted}

-- the other places are as they were
placed_before : (v p i : ℕ) (places : List ℕ) → i ≢ p → placed_from v (places ++ p ∷ []) i ≡ placed_from v places i
placed_before v p i [] h = rw (ne_eqb p i (λ e. h (sym e))) refl
placed_before v p i (q ∷ places) h = ap (λ u. if q == i then v else u) (placed_before (v + 1) p i places h)

-- the place that was free has the new vertex
placed_last : (v p : ℕ) (places : List ℕ) → 1 ≤ v → placed_from v places p ≡ 0 → placed_from v (places ++ p ∷ []) p ≡ v + length places
placed_last v p [] some free = grind arith
placed_last v p (q ∷ places) some free = elim (cases_eq q p) [
  | inl same ↦ absurd (grind arith)
  | inr other ↦
      let no = ne_eqb q p other in
      let rest : placed_from (v + 1) places p ≡ 0 = rw no at free in
      rw no (placed_last (v + 1) p places (omega arith) rest ∙ omega arith)
]

-- the rule of a free place, and of one that a vertex has
pub takes_free : (places : List ℕ) (p : ℕ) → vertex_placed places p ≡ 0 → place_taken places p ≡ Ok (places ++ p ∷ [])
unfolding place_taken
takes_free places p free = rw free refl

pub refuses_taken : (places : List ℕ) (p : ℕ) → vertex_placed places p ≢ 0 → place_taken places p ≡ Err 20
unfolding place_taken
refuses_taken places p taken = rw (ne_eqb (vertex_placed places p) 0 taken) refl

-- what the parser has noted after the next vertex
module _ (s new : OrderParser) (places : List ℕ) (was : HasNoted s places) (p : ℕ) (inside : p < length s.order.vertices.items) (free : get_or s.order.vertices.items p 0 ≡ 0)
    (counted : new.order.count ≡ s.order.count + 1) (put : new.order.vertices.items ≡ set s.order.vertices.items p (s.order.count + 1)) where
  at_place : get_or new.order.vertices.items p 0 ≡ s.order.count + 1
  at_place = ap (λ vertices. get_or vertices p 0) put ∙ get_or-set_same s.order.vertices.items p (s.order.count + 1) 0 inside

  elsewhere : (i : ℕ) → i ≢ p → get_or new.order.vertices.items i 0 ≡ get_or s.order.vertices.items i 0
  elsewhere i other = ap (λ vertices. get_or vertices i 0) put ∙ get_or-set_other s.order.vertices.items p i (s.order.count + 1) 0 other

  pub noted_more : HasNoted new (places ++ p ∷ [])
  noted_more = record {
    count = length-append places (p ∷ []) ∙ omega (arith, was.count, counted);
    placed = λ i. elim (cases_eq i p) [
      | inl same ↦ ap (λ j. get_or new.order.vertices.items j 0) same ∙ at_place ∙ sym (ap (vertex_placed (places ++ p ∷ [])) same
          ∙ placed_last 1 p places (omega arith) (sym (was.placed p) ∙ free) ∙ omega (arith, was.count))
      | inr other ↦ elsewhere i other ∙ was.placed i ∙ sym (placed_before 1 p i places other)
    ];
  }
