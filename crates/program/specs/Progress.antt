-- The lines that show how far a batch is.
use Rattle.std.specs.Prelude.{ℕ, ◌-◌, ◌*◌, ◌/◌, List, [], ◌∷◌, ◌++◌, Bool, codes, decimal, leb, nat_eq, nat_lt, if◌then◌else◌, ◌&&◌, ◌||◌}
use Rattle.elimination_order.specs.declared.counts.Counts.{Counts}
use Rattle.question_solvers.specs.declared.factor_solver.Factoring.{Factoring}
use Rattle.question_solvers.specs.declared.factor_solver.Factoring.TheVariants.{Untried, Made, Refused}
use Rattle.question_solvers.specs.declared.factor_solver.NoFactors.TheVariants.{Dense, Heavy}
use Rattle.batch_run.specs.declared.watcher.Progress.{Progress}
use Rattle.batch_run.specs.declared.watcher.Progress.TheVariants.{Begun, Ordered, Factored, Gathered, Answered}

-- how many whole hundredths of all questions so many are
abbrev pub hundredths : ℕ → ℕ → ℕ
hundredths answered all = answered * 100 / all

-- a line is due when all questions are answered, and when another hundredth of them is
abbrev pub is_due : ℕ → ℕ → Bool
is_due answered all = nat_eq answered all || nat_lt (hundredths (answered - 1) all) (hundredths answered all)

-- the line that says how many questions are answered
abbrev pub line_of_progress : ℕ → ℕ → List ℕ
line_of_progress answered all = codes "diffuse: " ++ decimal answered ++ codes " of " ++ decimal all ++ codes " questions answered" ++ 10 ∷ []

-- that line, if it is due
abbrev pub due_line : ℕ → ℕ → List ℕ
due_line answered all = if is_due answered all then line_of_progress answered all else []

-- the links and triangles that an order counted
abbrev pub links_text : Counts → List ℕ
links_text c = decimal c.links ++ codes " links, " ++ decimal c.triangles ++ codes " triangles"

-- the line that says that an order was found, and what it makes
abbrev pub line_of_order : Counts → List ℕ
line_of_order c = codes "diffuse: an order was found (" ++ links_text c ++ codes ")" ++ 10 ∷ []

-- the line that says that the graph is too dense, and what its order had counted when it was given
-- up
abbrev pub line_of_dense : Counts → List ℕ
line_of_dense c = codes "diffuse: the graph is too dense to factor (" ++ links_text c ++ codes "); searches answer" ++ 10 ∷ []

-- the line that says what became of factoring the graph
abbrev pub line_of_factoring : Factoring → List ℕ
line_of_factoring Untried = codes "diffuse: the graph is not factored; searches answer" ++ 10 ∷ []
line_of_factoring Made = codes "diffuse: the graph is factored" ++ 10 ∷ []
line_of_factoring (Refused (Dense counts)) = line_of_dense counts
line_of_factoring (Refused Heavy) = codes "diffuse: the graph's sums are too large to factor; searches answer" ++ 10 ∷ []

-- how many questions there are, after a report
abbrev pub all_after : ℕ → Progress → ℕ
all_after all (Begun questions diffusions) = questions
all_after all _ = all

-- how many messages are left after a report until faster solvers are named
abbrev pub left_after : ℕ → Progress → ℕ
left_after left (Gathered question source tally) = left - tally.sent
left_after left _ = left

-- after so many messages faster solvers are named
abbrev pub patience : ℕ
patience = 10000000

-- the line that names faster solvers, if so many messages are those that were left until then
abbrev pub hint : ℕ → ℕ → List ℕ
hint left sent = if nat_lt 0 left && leb left sent then codes "diffuse: ten million messages sent; --plain or --factors writes the same bytes sooner" ++ 10 ∷ [] else []

-- what is shown at a report of a batch with so many questions, and so many messages left
abbrev pub shown_at : ℕ → ℕ → Progress → List ℕ
shown_at all left (Begun questions diffusions) = due_line 0 questions
shown_at all left (Ordered counts) = line_of_order counts
shown_at all left (Factored became) = line_of_factoring became
shown_at all left (Gathered question source tally) = hint left tally.sent
shown_at all left (Answered questions) = due_line questions all

-- what is shown of all that is reported
abbrev pub progress_text : ℕ → ℕ → List Progress → List ℕ
progress_text all left [] = []
progress_text all left (r ∷ rs) = shown_at all left r ++ progress_text (all_after all r) (left_after left r) rs
