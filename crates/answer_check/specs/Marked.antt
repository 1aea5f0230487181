-- What holds of the line of a vertex, given a mark that says whether it is a source.
use Rattle.std.specs.Prelude.{◌≢◌, ◌≡◌, ℕ, List, Bool, true, false, Option}
use Rattle.road_graph.specs.GraphData.{GraphData}
use Rattle.path_algebra.specs.Algebra.{Algebra}
use Rattle.path_algebra.specs.Walks.{label_of, is_marked}
use Rattle.answer_text.specs.declared.answers.Reached.{Reached}
use Rattle.answer_check.specs.declared.verdict.Reason.{Reason}
use Rattle.answer_check.specs.declared.verdict.Reason.TheVariants.{Mismatch}
use Rattle.answer_check.specs.Certificates.{IsRightLine}
use Rattle.answer_check.specs.Reasons.{source_line, IsRefuted}

-- the reasons against the line of a vertex with this mark
abbrev pub IsMarkedRefused : {V : Type 0} → Algebra V → GraphData → List (Option Reached) → ℕ → Bool → Reason → Type 0
IsMarkedRefused A g lines v true Mismatch = label_of lines v ≢ source_line A
IsMarkedRefused A g lines v true _ = ⊥
IsMarkedRefused A g lines v false reason = IsRefuted A g lines v (label_of lines v) reason

-- what makes the line of a vertex with this mark right
abbrev pub IsMarkedRight : {V : Type 0} → Algebra V → GraphData → List (Option Reached) → ℕ → Bool → Type 0
IsMarkedRight A g lines v true = label_of lines v ≡ source_line A
IsMarkedRight A g lines v false = IsRightLine A g lines v (label_of lines v)

-- whether there is a reason against the line of a vertex: if not, it is right
abbrev pub TellsRefused : {V : Type 0} → Algebra V → GraphData → List (Option Reached) → List Bool → ℕ → Bool → Type 0
TellsRefused A g lines marks v true = (r : Reason) × IsMarkedRefused A g lines v (is_marked marks v) r
TellsRefused A g lines marks v false = IsMarkedRight A g lines v (is_marked marks v)
