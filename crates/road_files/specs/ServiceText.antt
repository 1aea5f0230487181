-- The text of a service: requests one after the other, each a question text.
use Rattle.std.specs.Prelude.{◌≡◌, ℕ, ◌+◌, ◌⊎◌, Bool, false, List, [], ◌∷◌, ◌++◌, map, if◌then◌else◌, Option, None, Some, Result, Ok, Err, codes, bytes_eq}
use Rattle.text_lines.specs.declared.faults.ReadFault.{ReadFault}
use Rattle.text_lines.specs.Lines.{lines, fields}
use Rattle.text_lines.specs.Rules.{at_line}
use Rattle.road_files.specs.Asked.{Asked}
use Rattle.road_files.specs.QuestionFiles.{AskedSoFar, question_rules, question_end}

-- the result of a request: what it asks, or its first fault
abbrev pub Request : Type 0
Request = Result Asked ReadFault

-- A service between two lines. It gives lines to a request, with what was read of it so far
-- (nothing before its problem line), or skips them, up to the next problem line.
pub data ServiceState : Type 0 where
  Gives : (so_far : Option AskedSoFar) → ServiceState
  Passes : ServiceState

-- what a line does: the requests that end with it, each with what it asks or the number of its
-- fault, and the state after it
pub record Step : Type 0 where
  pub ended : List (Result Asked ℕ)
  pub next : ServiceState

-- whether a line begins a request: its first field is `p`
abbrev pub begins_request : List (List ℕ) → Bool
begins_request [] = false
begins_request (f ∷ fs) = bytes_eq f (codes "p")

-- after a line that it took, a request is whole or goes on
abbrev pub whole_or_on : Option AskedSoFar → Result Asked ℕ → Step
whole_or_on s (Ok asked) = record { ended = Ok asked ∷ []; next = Gives None }
whole_or_on s (Err _) = record { ended = []; next = Gives s }

-- a request takes a line that it is given, or has its first fault there
abbrev pub given : Result (Option AskedSoFar) ℕ → Step
given (Ok s) = whole_or_on s (question_end s)
given (Err number) = record { ended = Err number ∷ []; next = Passes }

-- a line that is given to a request over a graph with n vertices
abbrev pub give : ℕ → List (List ℕ) → Option AskedSoFar → Step
give n fs s = given ((question_rules n None).line s fs)

-- a line that begins a request while one goes on: that one has too few lines
abbrev pub begin_early : Step → Step
begin_early step = record { ended = Err 19 ∷ step.ended; next = step.next }

-- a line, where `give` is what it does to a request that it is given to
abbrev pub state_line : (Option AskedSoFar → Step) → ServiceState → List (List ℕ) → Step
state_line give Passes fs = if begins_request fs then give None else record { ended = []; next = Passes }
state_line give (Gives None) fs = give None
state_line give (Gives (Some q)) fs = if begins_request fs then begin_early (give None) else give (Some q)

-- a line
abbrev pub service_line : ℕ → ServiceState → List (List ℕ) → Step
service_line n state fs = state_line (give n fs) state fs

-- memory ran out at a line: fault 3 of the request that it was given to
abbrev pub refused : Step
refused = record { ended = Err 3 ∷ []; next = Passes }

-- the end: a request that goes on has too few lines
abbrev pub service_end : ServiceState → List (Result Asked ℕ)
service_end (Gives (Some q)) = Err 19 ∷ []
service_end _ = []

-- the requests of the lines from a line number on, in this state; a text that is cut short has no
-- end
abbrev pub requests_of : Bool → ℕ → ℕ → ServiceState → List (List ℕ) → List Request
requests_of cut n at state [] = if cut then [] else map (at_line at) (service_end state)
requests_of cut n at state (l ∷ ls) =
    let step = service_line n state (fields l) in
    map (at_line at) step.ended ++ requests_of cut n (at + 1) step.next ls

-- the state after lines
abbrev pub state_after_lines : ℕ → ServiceState → List (List ℕ) → ServiceState
state_after_lines n state [] = state
state_after_lines n state (l ∷ ls) = state_after_lines n (service_line n state (fields l)).next ls

-- The requests of a text over a graph with n vertices. If the text is cut short, they are those
-- that its bytes complete, whatever comes after them.
abbrev pub requests : Bool → ℕ → List ℕ → List Request
requests cut n bytes = requests_of cut n 1 (Gives None) (lines cut bytes)

-- what a line may do to a request: what the rules say, or memory runs out
abbrev pub GiveMay : ℕ → List (List ℕ) → Option AskedSoFar → Step → Type 0
GiveMay n fs s step = (step ≡ give n fs s) ⊎ (step ≡ refused)

-- what a line may do
abbrev pub LineMay : ℕ → ServiceState → List (List ℕ) → Step → Type 0
LineMay n state fs step = (step ≡ service_line n state fs) ⊎ (step ≡ state_line (λ _. refused) state fs)

-- what lines may do: they end these requests, and this is the state after them
abbrev pub LinesMay : ℕ → ℕ → ServiceState → List (List ℕ) → List Request → ServiceState → Type 0
LinesMay n at state [] rs next = (rs ≡ []) × (next ≡ state)
LinesMay n at state (l ∷ ls) rs next =
    (step : Step) × (more : List Request) × LineMay n state (fields l) step
    × (rs ≡ map (at_line at) step.ended ++ more) × LinesMay n (at + 1) step.next ls more next
