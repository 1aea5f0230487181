use Rattle.std.proofs.Common.{sym, ap, ◌∙◌, length, List, ℕ}
use Rattle.answer_lists.proofs.Tabling.{table_long}
use Rattle.answer_lists.proofs.table.answer.Goals as goal

pub copy_from_slice-requires : goal.copy_from_slice-requires
copy_from_slice-requires g c =
    c.requires.places ∙ sym (ap (λ (xs : List ℕ). length xs) c.deref.ensures.value
    ∙ table_long (g.A.PathAlgebra.meaning c.args.algebra) c.args.shared.now.roads c.args.ends.now.targets.now c.args.ends.now.sources.now c.in-Ok-Some.list.items (rw c.in-Ok-Some.field-0-is at c.in-Ok-Some.ensures.table))
