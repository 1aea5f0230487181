-- How the answer to a pair differs from the right code, hops and route, and which answers have yet
-- to be judged.
use Rattle.std.specs.Prelude.{◌≡◌, ◌≢◌, ℕ, ◌<◌, ◌≤◌, Bool, true, false, ⊤, Some, slice_get}
use Rattle.road_graph.specs.GraphData.{GraphData}
use Rattle.path_algebra.specs.Algebra.{Algebra}
use Rattle.road_files.specs.Asked.{Question, Asked}
use Rattle.answer_text.specs.AnswerData.{AnswerData, FoundData, AnswerList}
use Rattle.answer_text.specs.IsAnswer.{IsAnswer}
use Rattle.answer_check.specs.declared.verdict.Reason.{Reason}
use Rattle.answer_check.specs.declared.verdict.Reason.TheVariants.{NotBest, OtherHops, OtherRoute}

-- code, hops or route are not the right ones
abbrev pub IsOther : FoundData → FoundData → Reason → Type 0
IsOther right f NotBest = f.code ≢ right.code
IsOther right f OtherHops = f.hops ≢ right.hops
IsOther right f OtherRoute = f.route ≢ right.route
IsOther right f _ = ⊥

-- whether the answer to question i has yet to be judged: if not, it is right
abbrev pub TellsSuspect : {V : Type 0} → Algebra V → GraphData → Asked → AnswerList → ℕ → Bool → Type 0
TellsSuspect A g asked told i true = ⊤
TellsSuspect A g asked told i false = (q : Question) (t : AnswerData) → slice_get asked.questions i ≡ Some q → slice_get told.list i ≡ Some t → IsAnswer A g q t

-- whether some of the answers to the questions from `start` up to `end` has yet to be judged: if
-- not, they are right
abbrev pub TellsSuspectIn : {V : Type 0} → Algebra V → GraphData → Asked → AnswerList → ℕ → ℕ → Bool → Type 0
TellsSuspectIn A g asked told start end true = ⊤
TellsSuspectIn A g asked told start end false = (i : ℕ) → start ≤ i → i < end → TellsSuspect A g asked told i false
