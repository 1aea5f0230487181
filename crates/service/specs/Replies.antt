-- The replies to requests.
use Rattle.std.specs.Prelude.{◌≡◌, ◌≢◌, ℕ, ⊤, List, [], ◌∷◌, ◌++◌, min, nat_eq, if◌then◌else◌, Option, Result, Ok, Err, codes, decimal}
use Rattle.std.specs.Io.KnownBytes.{Appends}
use Rattle.std.specs.List.{AllZip}
use Rattle.text_lines.specs.declared.faults.ReadFault.{ReadFault}
use Rattle.text_lines.specs.Streams.{Output}
use Rattle.text_lines.specs.Texts.{spelled}
use Rattle.text_lines.specs.Written.{FailedAfterPrefix}
use Rattle.road_files.specs.Asked.{Asked}
use Rattle.road_files.specs.ServiceText.{Request}

-- a line number above 2 ^ 64 - 1 is reported as that
abbrev pub held_line : ℕ → ℕ
held_line line = min line 18446744073709551615

-- the request has another result than that memory ran out
abbrev pub IsNotOutOfMemory : Request → Type 0
IsNotOutOfMemory (Ok asked) = ⊤
IsNotOutOfMemory (Err f) = f.number ≢ 3

-- `f NUMBER LINE`
unfoldable pub fault_text : ℕ → ℕ → List ℕ
fault_text number line = spelled (codes "f" ∷ decimal number ∷ decimal line ∷ [])

-- the line that is reported with a fault: 0 if memory ran out
abbrev pub reported_line : ReadFault → ℕ
reported_line f = if nat_eq f.number 3 then 0 else held_line f.line

-- the text is a reply to the request, given which texts answer what is asked
abbrev pub IsReplyBy : (Asked → List ℕ → Type 0) → Request → List ℕ → Type 0
IsReplyBy answers (Ok asked) text = answers asked text
IsReplyBy answers (Err f) text = text ≡ fault_text f.number (reported_line f)

-- one reply for each request, in order
abbrev pub AreRepliesBy : (Asked → List ℕ → Type 0) → List Request → List (List ℕ) → Type 0
AreRepliesBy answers rs ts = AllZip (IsReplyBy answers) rs ts

-- texts, one after the other
abbrev pub joined : List (List ℕ) → List ℕ
joined [] = []
joined (t ∷ ts) = t ++ joined ts

-- the replies to these requests were written, whole, and no write failed
pub record Replied {X : Type 0} (answers : Asked → List ℕ → Type 0) (rs : List Request) (old new : Output X) : Type 0 where
  pub texts : List (List ℕ)
  pub right : AreRepliesBy answers rs texts
  pub bytes : Appends old.written new.written (joined texts)
  pub sound : new.failures ≡ old.failures

-- a prefix of the replies to the first of these requests was written, and then a write failed
pub record FellIn {X : Type 0} (answers : Asked → List ℕ → Type 0) (rs : List Request) (old new : Output X) : Type 0 where
  pub first : List Request
  pub later : List Request
  pub requests_are : rs ≡ first ++ later
  pub texts : List (List ℕ)
  pub right : AreRepliesBy answers first texts
  pub wrote : FailedAfterPrefix old new (joined texts)

-- the former after a success, the latter after a failure
abbrev pub RepliedOrFell : {A E X : Type 0} → (Asked → List ℕ → Type 0) → List Request → Output X → Output X → Result A E → Type 0
RepliedOrFell answers rs old new (Ok _) = Replied answers rs old new
RepliedOrFell answers rs old new (Err _) = FellIn answers rs old new
