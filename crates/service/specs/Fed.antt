-- What a service that is fed bytes has taken, and what it has replied.
use Rattle.std.specs.Prelude.{◌≡◌, ℕ, ◌+◌, ◌<◌, ◌⊎◌, Bool, true, false, not, if◌then◌else◌, List, [], ◌∷◌, ◌++◌, length, map, Option, None, Some, IfSome, Result}
use Rattle.std.specs.Io.KnownBytes.{Consumes}
use Rattle.text_lines.specs.Cuts.{IsPresent}
use Rattle.text_lines.specs.Lines.{lines, fields}
use Rattle.text_lines.specs.Streams.{Output}
use Rattle.text_lines.specs.Rules.{at_line}
use Rattle.road_files.specs.Asked.{Asked}
use Rattle.road_files.specs.RequestTakes.{parser_state, RequestSoFar}
use Rattle.road_files.specs.ServiceText.{Request, ServiceState, Gives, Step, LineMay, LinesMay, service_end}
use Rattle.service.specs.declared.service.Service.{Service}
pub use Rattle.service.specs.Replies.{held_line, fault_text, reported_line, IsReplyBy, AreRepliesBy, joined, Replied, FellIn, RepliedOrFell}

-- whether a request goes on
abbrev pub goes_on : ServiceState → Bool
goes_on (Gives (Some q)) = true
goes_on _ = false

-- whether a line ended a request or none goes on after it: bytes are counted from 0 again after
-- such a line
abbrev pub counts_anew : List (Result Asked ℕ) → ServiceState → Bool
counts_anew [] next = not (goes_on next)
counts_anew (e ∷ es) next = true

-- lines that a request takes and goes on after
abbrev pub LinesGoOn : ℕ → ServiceState → List (List ℕ) → ServiceState → Type 0
LinesGoOn n state [] next = next ≡ state
LinesGoOn n state (l ∷ ls) next = (mid : ServiceState) × (goes_on mid ≡ true) × LineMay n state (fields l) (record { ended = []; next = mid }) × LinesGoOn n mid ls next

-- the last line of this text ended a request, or none goes on after it
pub record EndsAnew (n : ℕ) (text : List ℕ) (next : ServiceState) : Type 0 where
  pub ls : List (List ℕ)
  pub l : List ℕ
  pub rs : List Request
  pub state : ServiceState
  pub ended : List (Result Asked ℕ)
  pub lines_are : lines true text ≡ ls ++ l ∷ []
  pub made : LinesMay n 1 (Gives None) ls rs state
  pub may : LineMay n state (fields l) (record { ended = ended; next = next })
  pub anew : counts_anew ended next ≡ true

-- These last bytes are all that are counted: those of one request that goes on, and of the present
-- line. No request ends in them.
pub record IsUnfinished (n : ℕ) (fed : List ℕ) (rs : List Request) (state : ServiceState) (own : List ℕ) : Type 0 where
  pub before : List ℕ
  pub fed_is : fed ≡ before ++ own
  pub closed : (cut : Bool) (more : List ℕ) → lines cut (before ++ more) ≡ lines true before ++ lines cut more
  pub from : ServiceState
  pub begins : ((before ≡ []) × (from ≡ Gives None)) ⊎ EndsAnew n before from
  pub made : LinesMay n 1 (Gives None) (lines true before) rs from
  pub goes : LinesGoOn n from (lines true own) state

-- the service was fed just these bytes, which make just these requests whole; unless memory ran
-- out, they are `requests true n fed`
pub record WasFed (s : Service) (fed : List ℕ) (rs : List Request) : Type 0 where
  pub made : LinesMay s.cutter.taker.questions.list.vertices 1 (Gives None) (lines true fed) rs (parser_state s.cutter.taker)
  pub line : s.line ≡ held_line (1 + length (lines true fed))
  pub own : List ℕ
  pub is_open : IsUnfinished s.cutter.taker.questions.list.vertices fed rs (parser_state s.cutter.taker) own
  pub count : s.count ≡ length own
  pub present : List ℕ
  pub ends : (cut : Bool) (more : List ℕ) → lines cut (fed ++ more) ≡ lines true fed ++ lines cut (present ++ more)
  pub held : IsPresent RequestSoFar s.cutter present

-- the count after a line
abbrev pub count_after : Step → ℕ → ℕ
count_after step count = if counts_anew step.ended step.next then 0 else count

-- a line ended, and the requests that ended with it were replied to
abbrev pub LineEnded : {A E X : Type 0} → (Asked → List ℕ → Type 0) → ℕ → List ℕ → Service → Service → Output X → Output X → Result A E → Type 0
LineEnded answers at line old new before after result =
    (step : Step) × LineMay old.cutter.taker.questions.list.vertices (parser_state old.cutter.taker) (fields line) step × (step.next ≡ parser_state new.cutter.taker) × (new.count ≡ count_after step old.count) × RepliedOrFell answers (map (at_line at) step.ended) before after result

-- the service was fed these further bytes, and replied to just the requests that they make whole
abbrev pub Fed : {X : Type 0} → (Asked → List ℕ → Type 0) → Service → Service → List ℕ → Output X → Output X → Type 0
Fed answers old new bytes before after =
    (fed : List ℕ) (rs : List Request) → WasFed old fed rs → (more : List Request) × WasFed new (fed ++ bytes) (rs ++ more) × Replied answers more before after

-- the service took a prefix of these bytes, and a write failed in the replies to the requests that
-- it makes whole: a prefix of them was written
abbrev pub FedPart : {X : Type 0} → (Asked → List ℕ → Type 0) → Service → Service → List ℕ → Output X → Output X → Type 0
FedPart answers old new bytes before after =
    (fed : List ℕ) (rs : List Request) → WasFed old fed rs → (prefix rest : List ℕ) × (more : List Request) × (bytes ≡ prefix ++ rest) × WasFed new (fed ++ prefix) (rs ++ more) × FellIn answers more before after

-- the service took a prefix of these bytes, and replied to just the requests that it makes whole;
-- then one request, or one line, would have more than 2^32 bytes
abbrev pub FedLong : {X : Type 0} → (Asked → List ℕ → Type 0) → Service → Service → List ℕ → Output X → Output X → Type 0
FedLong answers old new bytes before after =
    (fed : List ℕ) (rs : List Request) → WasFed old fed rs
    → (prefix rest : List ℕ) × (more : List Request) × (bytes ≡ prefix ++ rest) × (0 < length rest) × WasFed new (fed ++ prefix) (rs ++ more) × (new.count ≡ 4294967296) × Replied answers more before after

-- a whole text has these requests; unless memory ran out, they are `requests false n text`
abbrev pub HasRequests : ℕ → List ℕ → List Request → Type 0
HasRequests n text rs = (before : List Request) × (next : ServiceState) × LinesMay n 1 (Gives None) (lines false text) before next × (rs ≡ before ++ map (at_line (1 + length (lines false text))) (service_end next))

-- all lines of the text were taken, and these requests have ended with them
pub record HasLines (s : Service) (text : List ℕ) (rs : List Request) : Type 0 where
  pub made : LinesMay s.cutter.taker.questions.list.vertices 1 (Gives None) (lines false text) rs (parser_state s.cutter.taker)
  pub line : s.line ≡ held_line (1 + length (lines false text))

-- the text ended, and the requests that its last line makes whole were replied to
abbrev pub LastFed : {X : Type 0} → (Asked → List ℕ → Type 0) → Service → Service → Output X → Output X → Type 0
LastFed answers old new before after = (fed : List ℕ) (rs : List Request) → WasFed old fed rs → (more : List Request) × HasLines new fed (rs ++ more) × Replied answers more before after

-- the text ended, and all of its requests have been replied to
abbrev pub Finished : {X : Type 0} → (Asked → List ℕ → Type 0) → Service → Output X → Output X → Type 0
Finished answers old before after =
    (fed : List ℕ) (rs : List Request) → WasFed old fed rs → (more : List Request) × HasRequests old.cutter.taker.questions.list.vertices fed (rs ++ more) × Replied answers more before after

-- the text ended, and a write failed in the replies to the requests that its last line makes whole
abbrev pub LastFedPart : {X : Type 0} → (Asked → List ℕ → Type 0) → Service → Service → Output X → Output X → Type 0
LastFedPart answers old new before after = (fed : List ℕ) (rs : List Request) → WasFed old fed rs → (more : List Request) × HasLines new fed (rs ++ more) × FellIn answers more before after

-- the text ended, and a write failed in the replies to what was left
abbrev pub FinishedPart : {X : Type 0} → (Asked → List ℕ → Type 0) → Service → Output X → Output X → Type 0
FinishedPart answers old before after =
    (fed : List ℕ) (rs : List Request) → WasFed old fed rs → (more : List Request) × HasRequests old.cutter.taker.questions.list.vertices fed (rs ++ more) × FellIn answers more before after

-- the bytes so far make these requests whole
abbrev pub MakesWhole : ℕ → List ℕ → List Request → Type 0
MakesWhole n text rs = (next : ServiceState) × LinesMay n 1 (Gives None) (lines true text) rs next

-- the input, if it is known, begins with this text
abbrev pub BeginsWith : Option (List ℕ) → List ℕ → Type 0
BeginsWith left text = IfSome left (λ all. (rest : List ℕ) × (all ≡ text ++ rest))

-- just the requests that the bytes consumed make whole were replied to
abbrev pub ServedSoFar : {X : Type 0} → (Asked → List ℕ → Type 0) → ℕ → Option (List ℕ) → Option (List ℕ) → Output X → Output X → Type 0
ServedSoFar answers n left now old new = (text : List ℕ) × (rs : List Request) × Consumes left now text × MakesWhole n text rs × Replied answers rs old new

-- the bytes consumed have more than 2^32 in one request, or in one line: just the requests that the
-- bytes before make whole were replied to
pub record ServedUntilTooLong {X : Type 0} (answers : Asked → List ℕ → Type 0) (n : ℕ) (left now : Option (List ℕ)) (old new : Output X) : Type 0 where
  -- what was taken, and what was consumed beyond it
  pub text : List ℕ
  pub beyond : List ℕ
  pub gone : Consumes left now (text ++ beyond)
  pub more : 0 < length beyond
  -- the requests that are whole
  pub rs : List Request
  pub next : ServiceState
  pub made : LinesMay n 1 (Gives None) (lines true text) rs next
  pub replied : Replied answers rs old new
  -- the last 2^32 bytes taken are all of one request that goes on, or of one line
  pub own : List ℕ
  pub is_open : IsUnfinished n text rs next own
  pub full : length own ≡ 4294967296

-- a write failed in the replies to the requests that a prefix of the input makes whole, or to all
-- of them
abbrev pub ServedPart : {X : Type 0} → (Asked → List ℕ → Type 0) → ℕ → Option (List ℕ) → Output X → Output X → Type 0
ServedPart answers n left old new = (text : List ℕ) × (rs : List Request) × BeginsWith left text × (MakesWhole n text rs ⊎ HasRequests n text rs) × FellIn answers rs old new

-- the service took what was consumed of its input, and replied to just the requests that it makes
-- whole
abbrev pub HasServed : {X : Type 0} → (Asked → List ℕ → Type 0) → Service → Option (List ℕ) → Option (List ℕ) → Output X → Output X → Type 0
HasServed answers s left now old new = (fed : List ℕ) × (rs : List Request) × Consumes left now fed × WasFed s fed rs × Replied answers rs old new

-- all requests of the input, if it is known, were replied to
abbrev pub Served : {X : Type 0} → (Asked → List ℕ → Type 0) → ℕ → Option (List ℕ) → Output X → Output X → Type 0
Served answers n left old new = (text : List ℕ) × (rs : List Request) × IfSome left (λ all. text ≡ all) × HasRequests n text rs × Replied answers rs old new
