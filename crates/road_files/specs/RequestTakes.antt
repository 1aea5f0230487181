-- The state of the parser of requests, in the terms of the rules.
use Rattle.std.specs.Prelude.{◌≡◌, ℕ, false, List, [], ◌∷◌, if◌then◌else◌, Option, None, Some, Result, Ok, Err, ⊤}
use Rattle.road_files.specs.declared.request_parser.Ended.{Ended}
use Rattle.road_files.specs.declared.request_parser.Ended.TheVariants as ends
use Rattle.road_files.specs.declared.request_parser.LineDone.{LineDone}
use Rattle.road_files.specs.declared.request_parser.RequestParser.{RequestParser}
use Rattle.road_files.specs.Asked.{Asked, asked_of, AreQuestionsOf}
use Rattle.road_files.specs.QuestionTakes.{ListSoFar, questions_begun}
use Rattle.road_files.specs.ServiceText.{ServiceState, Gives, Passes}

-- the result of a request that has ended
abbrev pub request_of : Ended → Result Asked ℕ
request_of (ends.Asked q) = Ok (asked_of q)
request_of (ends.Fault number) = Err number

-- the same, if one has ended
abbrev pub ended_list : Option Ended → List (Result Asked ℕ)
ended_list None = []
ended_list (Some e) = request_of e ∷ []

-- the requests that have ended with a line
abbrev pub ended_of : LineDone → List (Result Asked ℕ)
ended_of d = if d.early then Err 19 ∷ ended_list d.ended else ended_list d.ended

-- the state of the parser
abbrev pub parser_state : RequestParser → ServiceState
parser_state p = if p.passing then Passes else Gives (questions_begun p.questions)

-- these are the fields of the present line so far, unless memory ran out at one
abbrev pub RequestSoFar : RequestParser → List (List ℕ) → Type 0
RequestSoFar p fs = p.refused ≡ false → ListSoFar p.questions.list fs

-- what taking a field leaves unchanged
abbrev pub KeepsState : RequestParser → RequestParser → Type 0
KeepsState p q = (parser_state q ≡ parser_state p) × (q.questions.list.vertices ≡ p.questions.list.vertices) × (q.questions.only ≡ p.questions.only)

-- the questions of a request are about vertices of the graph
abbrev pub EndFits : ℕ → Option Ended → Type 0
EndFits n None = ⊤
EndFits n (Some (ends.Asked q)) = AreQuestionsOf n q
EndFits n (Some (ends.Fault number)) = ⊤
