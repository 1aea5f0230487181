-- One more row at the end of the rows.
use Rattle.arc_numbers.proofs.Words.{◌≡◌, ℕ, ◌+◌, ◌-◌, ◌<◌, ◌≤◌, ◌∙◌, inl, inr, List, [], ◌∷◌, ◌++◌, length, drop, get_or, ap, sym, subst, arith, refl, eq-or-lt_of_le, GraphData, ListsArcsFrom}
use Rattle.std.specs.Prelude.{slice_range}
use Rattle.std.proofs.lemmas.List.{get_or_append_left, length-append, take-append-le}
use Rattle.std.proofs.lemmas.Slice.{between_is, between_to_end}
use Rattle.std.proofs.Math.Seq.{drop-append_seam, get_or-append_seam}
use Rattle.road_graph.specs.Making.{HasRow}
use Rattle.arc_numbers.specs.Rows.{AreRowsFrom, IsRowFrom}

module _ (g : GraphData) (n : ℕ) (starts numbers row : List ℕ) (end : ℕ) (ends : end ≡ length numbers + length row) where
  abbrev longer : List ℕ
  longer = starts ++ end ∷ []

  before : (k : ℕ) → k < length starts → get_or longer k 0 ≡ get_or starts k 0
  before k lt = get_or_append_left starts (end ∷ []) 0 k lt

  module _ (known : AreRowsFrom g n starts numbers) where
    kept : (v : ℕ) → IsRowFrom g starts numbers v → IsRowFrom g longer (numbers ++ row) v
    kept v is =
        let first = before (v - 1) (omega (arith, is.row.low, is.row.high)) in let past = before v is.row.high in
        let size = length-append starts (end ∷ []) in let more = length-append numbers row in
        record {
          row = record {
            low = is.row.low;
            high = omega (arith, is.row.high, size);
            rising = omega (arith, is.row.rising, first, past);
            inside = omega (arith, is.row.inside, past, more);
          };
          arcs = rw (first, past) (subst (ListsArcsFrom g v)
              (between_is numbers _ _ ∙ ap (drop _) (sym (take-append-le _ numbers row is.row.inside)) ∙ sym (between_is (numbers ++ row) _ _)) is.arcs);
        }

    added : ListsArcsFrom g (n + 1) row → IsRowFrom g longer (numbers ++ row) (n + 1)
    added lists =
        let at : n + 1 - 1 ≡ n = omega arith in
        let first : get_or longer n 0 ≡ length numbers = before n (omega (arith, known.count)) ∙ known.last in
        let past : get_or longer (n + 1) 0 ≡ end = subst (λ (k : ℕ). get_or longer k 0 ≡ end) known.count (get_or-append_seam starts end [] 0) in
        let size = length-append starts (end ∷ []) in let more = length-append numbers row in
        record {
          row = record {
            low = omega arith;
            high = omega (arith, size, known.count);
            rising = rw (at, first, past) (omega (arith, ends));
            inside = rw past (omega (arith, ends, more));
          };
          arcs = rw (at, first, past) (subst (ListsArcsFrom g (n + 1))
              (sym (between_to_end (numbers ++ row) (length numbers) end (omega (arith, ends, more)) ∙ drop-append_seam numbers row)) lists);
        }

    pub one_more_row : ListsArcsFrom g (n + 1) row → AreRowsFrom g (n + 1) longer (numbers ++ row)
    one_more_row lists = record {
      count = length-append starts (end ∷ []) ∙ ap (λ (k : ℕ). k + 1) known.count;
      last = subst (λ (k : ℕ). get_or longer k 0 ≡ end) known.count (get_or-append_seam starts end [] 0) ∙ ends ∙ sym (length-append numbers row);
      rows = λ v low high. elim (eq-or-lt_of_le high) [
        | inr less ↦ kept v (known.rows v low (omega (arith, less)))
        | inl here ↦ subst (λ (k : ℕ). IsRowFrom g longer (numbers ++ row) k) (sym here) (added lists)
      ];
    }
