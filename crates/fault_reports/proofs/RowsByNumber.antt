-- Rows that were asked for by their numbers.
use Rattle.std.proofs.Common.{◌≡◌, ℕ, ◌+◌, ◌<◌, List, [], ◌∷◌, ◌++◌, length, map, take, get_or, ap, sym, ◌∙◌}
use Rattle.std.proofs.lemmas.List.{map-append, take_more}
use Rattle.fault_reports.specs.declared.rows.FaultRow.{FaultRow}

-- the row of one number more
pub row_more : (numbers : List ℕ) (rows : List FaultRow) (i : ℕ) (row : FaultRow) → i < length numbers → row.number ≡ get_or numbers i 0 →
    map (λ row. row.number) rows ≡ take i numbers → map (λ row. row.number) (rows ++ row ∷ []) ≡ take (i + 1) numbers
row_more numbers rows i row lt is same =
    map-append (λ row. row.number) rows (row ∷ []) ∙ ap (λ ns. ns ++ row.number ∷ []) same ∙ ap (λ n. take i numbers ++ n ∷ []) is ∙ sym (take_more numbers i 0 lt)
