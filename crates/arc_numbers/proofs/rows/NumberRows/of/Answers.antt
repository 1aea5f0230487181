use Rattle.arc_numbers.proofs.Words.{◌+◌, ◌++◌, [], ◌∷◌, List, ℕ, length, refl, sym, subst, AreRowsFrom}
use Rattle.arc_numbers.proofs.MoreRows.{one_more_row}
use Rattle.arc_numbers.proofs.rows.NumberRows.of.Goals as goal

pub loop-i-preserved : goal.loop-i-preserved
loop-i-preserved c =
    let g = c.args.numbered.now in let starts = c.loop-i.starts.items in let numbers = c.loop-i.numbers.items in let row = c.out.result.now in let i = c.loop-i.i in
    let more = one_more_row g i starts numbers row (length numbers + length row) refl c.loop-i.invariant c.out.ensures in
    subst (λ (xs : List ℕ). AreRowsFrom g (i + 1) xs c.push_row.new.numbers.items) (sym c.in_ok-push_row.ensures.starts)
    (subst (λ (xs : List ℕ). AreRowsFrom g (i + 1) (starts ++ (length numbers + length row) ∷ []) xs) (sym c.in_ok-push_row.ensures.numbers) more)
