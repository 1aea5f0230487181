-- What a batch reports while it runs. Of two questions, from 1 and from 4 and 5, by diffusions: it
-- begins (2 questions, 3 diffusions), question 1 from 1 was gathered, 1 is answered, question 2
-- from 4 was gathered, question 2 from 5 was, 2 are answered. With the plain solver: it begins (2
-- questions, 0 diffusions), 1 is answered, 2 are. With factors: it begins (2 questions, 0
-- diffusions), an order is found, the graph is factored, 1 is answered, 2 are.
use Rattle.std.specs.Prelude.{◌≡◌, ◌≢◌, ℕ, ◌+◌, Bool, true, false, List, [], ◌∷◌, ◌++◌, length, map, Option, None, Some, IfSome, is_some, Result, Ok, Err, OnOk, IfErr}
use Rattle.std.specs.List.{AllByRecursion, AllZip, flat_map}
use Rattle.text_lines.specs.Streams.{Output}
use Rattle.road_graph.specs.GraphData.{GraphData}
use Rattle.road_files.specs.Asked.{Question, Asked, sources_of}
use Rattle.path_algebra.specs.Algebra.{Algebra}
use Rattle.shard_store.specs.declared.tally.Tally.{Tally}
use Rattle.shard_store.specs.Plans.{PlanData}
use Rattle.shard_store.specs.Setup.{setup_of}
use Rattle.station.specs.Gather.{IsGathered}
use Rattle.elimination_order.specs.Bounds.{AreWithinBounds}
use Rattle.elimination_order.specs.declared.counts.Counts.{Counts}
use Rattle.question_solvers.specs.declared.factor_solver.Factoring.{Factoring}
use Rattle.question_solvers.specs.declared.factor_solver.Factoring.TheVariants.{Untried}
use Rattle.question_solvers.specs.Solvers.{IsToldRightly}
use Rattle.batch_inputs.specs.declared.faults.File.TheVariants.{NoFile}
use Rattle.batch_inputs.specs.declared.faults.RunFault.{RunFault}
use Rattle.batch_settings.specs.declared.settings.Settings.{Settings}
use Rattle.batch_run.specs.Answered.{WroteAtLeast}
use Rattle.batch_settings.specs.Choice.{without_diffusions}
use Rattle.batch_run.specs.Cut.{IsCut, order_of}
use Rattle.batch_run.specs.declared.watcher.Progress.{Progress}
use Rattle.batch_run.specs.declared.watcher.Progress.TheVariants.{Begun, Ordered, Factored, Gathered, Answered}

-- The counts of a diffusion over a graph from a source are those that `gather` reports with some
-- labels, in the shards and the order that the settings choose: some events, counted in full, lead
-- from its opening to a state that has ended and is quiet; each counter is the lesser of its total
-- and its top, full exactly where a total reaches that, and all totals are the same.
pub record IsAccount {V : Type 0} (A : Algebra V) (how : Settings) (g : GraphData) (source : ℕ) (tally : Tally) : Type 0 where
  pub plan : PlanData
  pub cut : IsCut how g plan
  pub labels : List (Option V)
  pub gathered : IsGathered (λ (B : Algebra V). B) (setup_of A g source plan (order_of how)) (record { labels = labels; tally = tally })

-- what is told of factoring a graph: what the order counted that was sought, if one was found; and
-- what became of factoring it, if factors are to answer
pub record Preparation : Type 0 where
  pub found : Option Counts
  pub became : Option Factoring

-- what is due to be reported: that the batch begins, with so many questions and diffusions; what an
-- order for its graph counted; what became of factoring it; that a question's diffusion from a
-- source was gathered; or that so many questions are answered
pub data Due : Type 0 where
  Beginning : (questions diffusions : ℕ) → Due
  Ordering : (counts : Counts) → Due
  Attempt : (became : Factoring) → Due
  Account : (question source : ℕ) → Due
  Answering : (questions : ℕ) → Due

-- the report is the one that is due; one of a diffusion that was gathered has its counts
abbrev pub IsReportOf : {V : Type 0} → Algebra V → Settings → GraphData → Due → Progress → Type 0
IsReportOf A how g (Beginning n d) r = r ≡ Begun n d
IsReportOf A how g (Ordering counts) r = r ≡ Ordered counts
IsReportOf A how g (Attempt became) r = r ≡ Factored became
IsReportOf A how g (Account k s) r = (tally : Tally) × IsAccount A how g s tally × (r ≡ Gathered k s tally)
IsReportOf A how g (Answering n) r = r ≡ Answered n

-- the sources from which a question is answered by diffusions: none if it is answered without them
abbrev pub diffused : Bool → Question → List ℕ
diffused true q = []
diffused false q = sources_of q

-- how many diffusions the questions are answered by
abbrev pub count_diffusions : Bool → List Question → ℕ
count_diffusions undiffused qs = length (flat_map (diffused undiffused) qs)

-- due of a question of this number: an account of the diffusion from each of its sources, in order
abbrev pub accounts_due : Bool → ℕ → Question → List Due
accounts_due undiffused k q = map (Account k) (diffused undiffused q)

-- due of a question of this number: its accounts, and that it is answered
abbrev pub question_due : Bool → ℕ → Question → List Due
question_due undiffused k q = accounts_due undiffused k q ++ Answering k ∷ []

-- due of questions, in order, when so many are answered: for each its accounts, and that it is
-- answered
abbrev pub questions_due : Bool → ℕ → List Question → List Due
questions_due undiffused n [] = []
questions_due undiffused n (q ∷ qs) = accounts_due undiffused (n + 1) q ++ Answering (n + 1) ∷ [] ++ questions_due undiffused (n + 1) qs

-- due of what there is, if there is any
abbrev pub due_if : {X : Type 0} → (X → Due) → Option X → List Due
due_if due None = []
due_if due (Some x) = due x ∷ []

-- due before the first question: that the batch begins, and what is told of factoring its graph
abbrev pub start_due : Bool → Preparation → List Question → List Due
start_due undiffused made qs = Beginning (length qs) (count_diffusions undiffused qs) ∷ due_if Ordering made.found ++ due_if Attempt made.became

-- due of a batch: that, and then what is due of each question
abbrev pub batch_due : Bool → Preparation → List Question → List Due
batch_due undiffused made qs = start_due undiffused made qs ++ questions_due undiffused 0 qs

-- what is told of an order for this graph: that one was found, if it was, with counts within the
-- bounds; nothing if the settings choose no factors
abbrev pub IsOrderTold : GraphData → (factors : Bool) → Option Counts → Type 0
IsOrderTold g true found = IfSome found (AreWithinBounds g.vertices (length g.arcs))
IsOrderTold g false found = found ≡ None

-- what is told of factoring this graph: such an order; and what became of it, exactly if the settings
-- choose factors
abbrev pub IsTold : GraphData → (factors : Bool) → Preparation → Type 0
IsTold g factors made = IsOrderTold g factors made.found × (is_some made.became ≡ factors)

-- what became of it is told once it was tried, and if it is too dense, with counts above a bound
abbrev pub IsFactoringTold : GraphData → Factoring → Type 0
IsFactoringTold g became = IsToldRightly g became × (became ≢ Untried)

-- given these reports, one after the other, a watcher went from the one state to the other
abbrev pub FollowsReports : {S : Type 0} → (S → Progress → S → Type 0) → S → List Progress → S → Type 0
FollowsReports may_become old [] new = new ≡ old
FollowsReports {S} may_become old (r ∷ rs) new = (next : S) × may_become old r next × FollowsReports may_become next rs new

-- what is due was reported to a watcher, in order, and nothing else
pub record Reported {V S : Type 0} (A : Algebra V) (how : Settings) (g : GraphData) (may_become : S → Progress → S → Type 0) (due : List Due) (old new : S) : Type 0 where
  pub reports : List Progress
  pub are_due : AllZip (IsReportOf A how g) due reports
  pub told : FollowsReports may_become old reports new

-- a prefix of what is due was
abbrev pub ReportedPrefix : {V S : Type 0} → Algebra V → Settings → GraphData → (S → Progress → S → Type 0) → (due : List Due) → (old new : S) → Type 0
ReportedPrefix A how g may_become due old new =
    (prefix : List Due) × (rest : List Due) × (due ≡ prefix ++ rest) × Reported A how g may_become prefix old new

-- all that is due was reported, or before a fault a prefix of it
abbrev pub ReportedAllOrPrefix : {V S T E : Type 0} (A : Algebra V) (how : Settings) (g : GraphData) (may_become : S → Progress → S → Type 0) (due : List Due) (old new : S) → Result T E → Type 0
ReportedAllOrPrefix A how g may_become due old new (Ok _) = Reported A how g may_become due old new
ReportedAllOrPrefix A how g may_become due old new (Err _) = ReportedPrefix A how g may_become due old new

-- what a report says is so: that a batch begins, and the header was written before; of factoring,
-- what may be told of it; that so many questions are answered, and their answers were written too,
-- each whole
abbrev pub IsSo : {V W : Type 0} → Algebra V → GraphData → Asked → (Factoring → Type 0) → (out out_after : Output W) → Due → Type 0
IsSo A g asked MayTell out out_after (Beginning n d) = WroteAtLeast A g asked 0 out out_after
IsSo A g asked MayTell out out_after (Ordering counts) = Unit {0}
IsSo A g asked MayTell out out_after (Attempt became) = MayTell became
IsSo A g asked MayTell out out_after (Account k s) = Unit {0}
IsSo A g asked MayTell out out_after (Answering n) = WroteAtLeast A g asked n out out_after

-- these reports are the first that are due of a batch, in order, with what is told of factoring, and
-- what each says is so; if the batch is whole they are all, and no others
pub record FirstReports {V W : Type 0} (A : Algebra V) (how : Settings) (g : GraphData) (asked : Asked) (undiffused : Bool) (Told : Preparation → Type 0) (MayTell : Factoring → Type 0)
    (out out_after : Output W) (whole : Bool) (reports : List Progress) : Type 0 where
  pub made : Preparation
  pub told : Told made
  pub prefix : List Due
  pub rest : List Due
  pub due_is : batch_due undiffused made asked.questions ≡ prefix ++ rest
  pub all : whole ≡ true → rest ≡ []
  pub are_due : AllZip (IsReportOf A how g) prefix reports
  pub so : AllByRecursion (IsSo A g asked MayTell out out_after) prefix

-- such reports were made to a watcher, and no others
abbrev pub ReportedFirst : {V S W : Type 0} → Algebra V → Settings → GraphData → Asked → (undiffused : Bool) → (Preparation → Type 0) → (Factoring → Type 0) → (S → Progress → S → Type 0) →
    (old new : S) → (out out_after : Output W) → (whole : Bool) → Type 0
ReportedFirst A how g asked undiffused Told MayTell may_become old new out out_after whole =
    (reports : List Progress) × FirstReports A how g asked undiffused Told MayTell out out_after whole reports × FollowsReports may_become old reports new

-- so they are of a batch over what was read, and what they tell of factoring is right
abbrev pub AreFirstReports : {V W : Type 0} → Algebra V → Settings → (GraphData → Asked → Type 0) → (out out_after : Output W) → (whole : Bool) → List Progress → Type 0
AreFirstReports A how IsRead out out_after whole reports = (g : GraphData) × (asked : Asked) × IsRead g asked
    × FirstReports A how g asked (without_diffusions how) (IsTold g how.factors) (IsFactoringTold g) out out_after whole reports

-- these are the reports of a batch over what was read, which ended with this outcome, while the
-- output took bytes
pub record AreReports {V W : Type 0} (A : Algebra V) (how : Settings) (IsRead : GraphData → Asked → Type 0) (out out_after : Output W) (outcome : Result (Unit {0}) RunFault) (reports : List Progress) : Type 0 where
  -- on success they are all that are due, in order, and no others
  pub all : OnOk outcome (AreFirstReports A how IsRead out out_after true reports)
  -- before a fault of the run they are the first of these, and each question that they report as
  -- answered has its answer in the output, whole
  pub first : IfErr outcome (λ f. f.file ≡ NoFile → f.number ≢ 43 → AreFirstReports A how IsRead out out_after false reports)
  -- before a fault of an input there are none
  pub nothing : IfErr outcome (λ f. f.file ≢ NoFile → reports ≡ [])
  -- nor before one of a setting
  pub untouched : IfErr outcome (λ f. f.number ≡ 43 → reports ≡ [])

-- a batch over what was read made its reports to a watcher, and no others: given them, one after
-- the other, the watcher went from the one state to the other
pub record Watched {V S W : Type 0} (A : Algebra V) (how : Settings) (IsRead : GraphData → Asked → Type 0) (may_become : S → Progress → S → Type 0) (old new : S) (out out_after : Output W) (outcome : Result (Unit {0}) RunFault) : Type 0 where
  pub reports : List Progress
  pub are : AreReports A how IsRead out out_after outcome reports
  pub told : FollowsReports may_become old reports new
