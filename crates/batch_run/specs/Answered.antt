-- What a batch leaves: the text of the right answers, whole or a prefix of it.
use Rattle.std.specs.Prelude.{◌≡◌, ◌≢◌, ℕ, ◌+◌, ◌<◌, ◌≤◌, ◌⊎◌, List, [], ◌++◌, length, take, All, Result, Ok, Err, OnOk, IfErr}
use Rattle.std.specs.Io.KnownBytes.{Appends}
use Rattle.road_graph.specs.GraphData.{GraphData, HasVertex}
use Rattle.road_files.specs.Asked.{Question, FromSource, BetweenPair, FromSources, Asked}
use Rattle.path_algebra.specs.Algebra.{Algebra}
use Rattle.answer_text.specs.AnswerData.{AnswerData, AnswerList}
use Rattle.answer_text.specs.IsAnswer.{IsAnswer, AreAnswers, IsAnswerList}
use Rattle.answer_text.specs.AnswerText.{answer_text, header_text, blocks_text, answers_text}
use Rattle.text_lines.specs.Streams.{Output}
use Rattle.text_lines.specs.Written.{WritesText, WrotePrefix, FailedAfterPrefix}
use Rattle.batch_run.specs.declared.cause.Cause.{Cause}
use Rattle.worker_fleet.specs.declared.group.GroupFault.TheVariants.{Memory}
use Rattle.batch_run.specs.declared.cause.Cause.TheVariants.{Unsolved, Write}

-- the right answer to a question was written, whole; or a prefix of it, and then a write failed
abbrev pub WroteAnswer : {V X E : Type 0} → Algebra V → GraphData → Question → (old new : Output X) → Result (Unit {0}) E → Type 0
WroteAnswer A g q old new result = (answer : AnswerData) × IsAnswer A g q answer × WritesText old new (answer_text answer) result

-- so it was, or a cause stopped it: a failed write after a prefix of the answer, another cause
-- before the output was touched
abbrev pub WroteNext : {V X : Type 0} → Algebra V → GraphData → Question → (old new : Output X) → Result (Unit {0}) Cause → Type 0
WroteNext A g q old new (Ok _) = (answer : AnswerData) × IsAnswer A g q answer × WrotePrefix old new (answer_text answer) []
WroteNext A g q old new (Err cause) =
    (cause ≡ Write → (answer : AnswerData) × IsAnswer A g q answer × FailedAfterPrefix old new (answer_text answer))
    × (cause ≢ Write → new ≡ old)

-- the text of the answer list was written, whole
pub record WroteAnswers {V X : Type 0} (A : Algebra V) (g : GraphData) (asked : Asked) (old new : Output X) : Type 0 where
  pub answers : AnswerList
  pub right : IsAnswerList A g asked answers
  pub bytes : Appends old.written new.written (answers_text answers)

-- a prefix of the text of the answer list was written
pub record WroteAnswersPrefix {V X : Type 0} (A : Algebra V) (g : GraphData) (asked : Asked) (old new : Output X) : Type 0 where
  pub answers : AnswerList
  pub right : IsAnswerList A g asked answers
  pub prefix : List ℕ
  pub rest : List ℕ
  pub text_is : answers_text answers ≡ prefix ++ rest
  pub bytes : Appends old.written new.written prefix

-- all of the text, or a prefix of it after a fault
abbrev pub WroteAllOrPrefix : {V X E : Type 0} → Algebra V → GraphData → Asked → Output X → Output X → Result (Unit {0}) E → Type 0
WroteAllOrPrefix A g asked old new (Ok _) = WroteAnswers A g asked old new
WroteAllOrPrefix A g asked old new (Err _) = WroteAnswersPrefix A g asked old new

-- the header, and the answers to the first questions
abbrev pub begun_text : {V : Type 0} → Algebra V → Asked → List AnswerData → List ℕ
begun_text A asked answers = header_text asked.kind (length asked.questions) A.name ++ blocks_text answers

-- a prefix was written of the header and the right answers to the first questions
pub record WroteFirst {V X : Type 0} (A : Algebra V) (g : GraphData) (asked : Asked) (old new : Output X) : Type 0 where
  pub count : ℕ
  pub answers : List AnswerData
  pub right : AreAnswers A g (take count asked.questions) answers
  pub prefix : List ℕ
  pub rest : List ℕ
  pub text_is : begun_text A asked answers ≡ prefix ++ rest
  pub bytes : Appends old.written new.written prefix

-- the header was written, and the right answers to the first questions, each of them whole: fewer
-- than were asked, if any were
pub record WroteWhole {V X : Type 0} (A : Algebra V) (g : GraphData) (asked : Asked) (old new : Output X) : Type 0 where
  pub count : ℕ
  pub answers : List AnswerData
  pub fewer : (asked.questions ≡ []) ⊎ (count < length asked.questions)
  pub right : AreAnswers A g (take count asked.questions) answers
  pub bytes : Appends old.written new.written (begun_text A asked answers)

-- all of the text, or of the first answers after a fault
abbrev pub WroteAllOrFirst : {V X E : Type 0} → Algebra V → GraphData → Asked → Output X → Output X → Result (Unit {0}) E → Type 0
WroteAllOrFirst A g asked old new (Ok _) = WroteAnswers A g asked old new
WroteAllOrFirst A g asked old new (Err _) = WroteFirst A g asked old new

-- the header was written, and the right answers to the first questions, so many of them, each
-- whole; and then maybe more
pub record WroteAtLeast {V X : Type 0} (A : Algebra V) (g : GraphData) (asked : Asked) (count : ℕ) (old new : Output X) : Type 0 where
  pub answers : List AnswerData
  pub right : AreAnswers A g (take count asked.questions) answers
  pub more : List ℕ
  pub bytes : Appends old.written new.written (begun_text A asked answers ++ more)

-- all questions were answered, or one of these causes stopped it
pub record AnsweredAll {V X : Type 0} (A : Algebra V) (g : GraphData) (asked : Asked) (MayStop : Cause → Type 0) (old new : Output X) (outcome : Result (Unit {0}) Cause) : Type 0 where
  -- all of the text was written, or after a fault a prefix of the header and the first answers
  pub text : WroteAllOrFirst A g asked old new outcome
  -- without a fault no write failed
  pub sound : OnOk outcome (new.failures ≡ old.failures)
  -- the cause is one of these
  pub kind : IfErr outcome MayStop
  -- if it is a failed write, one write failed
  pub failed : IfErr outcome (λ cause. cause ≡ Write → new.failures ≡ old.failures + 1)
  -- if it is another, none did
  pub unfailed : IfErr outcome (λ cause. cause ≢ Write → new.failures ≡ old.failures)
  -- and the header and the first answers are whole, fewer than were asked
  pub whole : IfErr outcome (λ cause. cause ≢ Write → WroteWhole A g asked old new)
  -- if it is not memory either, some question was asked
  pub some : IfErr outcome (λ cause. cause ≢ Write → cause ≢ Unsolved Memory → asked.questions ≢ [])

-- nothing is held back: all was passed on, or passing it on failed
abbrev pub IsPassedOn : List ℕ → ℕ → ℕ → Type 0
IsPassedOn held before after = (held ≡ []) ⊎ (before < after)

-- all questions were answered and all was passed on, or one of these causes stopped it
pub record PassedOnAll {V X : Type 0} (A : Algebra V) (g : GraphData) (asked : Asked) (MayStop : Cause → Type 0) (old new : Output X) (outcome : Result (Unit {0}) Cause) : Type 0 where
  -- all of the text was written, or after a fault a prefix of it
  pub text : WroteAllOrPrefix A g asked old new outcome
  -- without a fault nothing is held back
  pub passed_on : OnOk outcome (new.held ≡ [])
  -- and no write failed
  pub sound : OnOk outcome (new.failures ≡ old.failures)
  -- the cause is one of these
  pub kind : IfErr outcome MayStop
  -- if it is a failed write, some write failed
  pub failed : IfErr outcome (λ cause. cause ≡ Write → old.failures < new.failures)
  -- if it is another, at most one did
  pub once : IfErr outcome (λ cause. cause ≢ Write → new.failures ≤ old.failures + 1)
  -- nothing is held back, or passing it on failed
  pub flushed : IfErr outcome (λ cause. cause ≢ Write → IsPassedOn new.held old.failures new.failures)
  -- and the header and the first answers are whole, fewer than were asked
  pub whole : IfErr outcome (λ cause. cause ≢ Write → WroteWhole A g asked old new)
  -- if it is not memory either, some question was asked
  pub some : IfErr outcome (λ cause. cause ≢ Write → cause ≢ Unsolved Memory → asked.questions ≢ [])

-- the question asks of vertices of the graph alone
abbrev pub AsksWithin : GraphData → Question → Type 0
AsksWithin g (FromSource s) = HasVertex g s
AsksWithin g (BetweenPair s t) = HasVertex g s × HasVertex g t
AsksWithin g (FromSources ss) = All (HasVertex g) ss
