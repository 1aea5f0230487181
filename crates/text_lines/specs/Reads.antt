-- What a reader of whole texts promises. It depends on the bytes that are left to read, if they are
-- known, and on how many reads have failed and how many were asked for, each before and after.
use Rattle.std.specs.Prelude.{◌≡◌, ◌≢◌, ℕ, ◌+◌, ◌<◌, ◌≤◌, ◌⊎◌, List, ◌++◌, length, true, Option, IfSome, Result, Ok, Err, IfOk, IfErr, OnOk}
use Rattle.std.specs.Io.KnownBytes.{Consumes, IsAtEnd}
use Rattle.text_lines.specs.declared.faults.ReadFault.{ReadFault}
use Rattle.text_lines.specs.Lines.{lines}
use Rattle.text_lines.specs.Rules.{Rules, text_read, state_after}
use Rattle.text_lines.specs.Streams.{Input}

-- the value is that of the text, if it is known
abbrev pub ReadsValue : {S V A : Type 0} → Rules S V → (A → V) → Option (List ℕ) → Result A ReadFault → Type 0
ReadsValue rules view left result = IfOk result (λ a. IfSome left (λ all. text_read rules all ≡ Ok (view a)))

-- even if the text is not known, the value is that of some text
abbrev pub ReadsSome : {S V A : Type 0} → Rules S V → (A → V) → Result A ReadFault → Type 0
ReadsSome rules view result = IfOk result (λ a. (all : List ℕ) × (text_read rules all ≡ Ok (view a)))

-- a fault other than 1 and 3 is the first fault of the text, if it is known
abbrev pub ReadsFault : {S V A : Type 0} → Rules S V → Option (List ℕ) → Result A ReadFault → Type 0
ReadsFault rules left result = IfErr result (λ f. 2 ≤ f.number → f.number ≢ 3 → IfSome left (λ all. text_read rules all ≡ Err f))

-- fault 1 is reported only if a read failed
abbrev pub TellsFailure : {A : Type 0} → ℕ → ℕ → Result A ReadFault → Type 0
TellsFailure before after result = IfErr result (λ f. f.number ≡ 1 → after ≢ before)

-- any other fault is reported only if no read failed
abbrev pub TellsNoOther : {A : Type 0} → ℕ → ℕ → Result A ReadFault → Type 0
TellsNoOther before after result = IfErr result (λ f. f.number ≢ 1 → after ≡ before)

-- fault 1 is reported after just one failed read: none was tried again
abbrev pub FailsOnce : {A : Type 0} → ℕ → ℕ → Result A ReadFault → Type 0
FailsOnce before after result = IfErr result (λ f. f.number ≡ 1 → after ≡ before + 1)

-- no line that ends within these bytes breaks a rule
abbrev pub BreaksNone : {S V : Type 0} → Rules S V → List ℕ → Type 0
BreaksNone {S = S} rules bytes = (reached : S) × (state_after rules rules.start (lines true bytes) ≡ Ok reached)

-- the bytes that were taken before a read failed are unbroken
abbrev pub FailsAfter : (List ℕ → Type 0) → Option (List ℕ) → Option (List ℕ) → Type 0
FailsAfter Unbroken left rest = (taken : List ℕ) × Consumes left rest taken × Unbroken taken

-- the bytes that were taken before memory ran out are unbroken, but for those of the last read, and
-- they all fit
pub record RunsOutAfter (Unbroken : List ℕ → Type 0) (left rest : Option (List ℕ)) : Type 0 where
  pub before : List ℕ
  pub last : List ℕ
  pub taken : Consumes left rest (before ++ last)
  pub unbroken : Unbroken before
  pub one_read : length last ≤ 65536
  pub fits : length (before ++ last) ≤ 4294967296

-- no line of the bytes before fault 1 breaks a rule
abbrev pub FailsUnbroken : {S V A : Type 0} → Rules S V → Option (List ℕ) → Option (List ℕ) → Result A ReadFault → Type 0
FailsUnbroken rules left rest result = IfErr result (λ f. f.number ≡ 1 → FailsAfter (BreaksNone rules) left rest)

-- fault 3 comes after such bytes and within the first 2 ^ 32, so it is never reported because a
-- text is too long
abbrev pub RunsOutUnbroken : {S V A : Type 0} → Rules S V → Option (List ℕ) → Option (List ℕ) → Result A ReadFault → Type 0
RunsOutUnbroken rules left rest result = IfErr result (λ f. f.number ≡ 3 → RunsOutAfter (BreaksNone rules) left rest)

-- fault 2 is reported only if the text has more than 2 ^ 32 bytes
abbrev pub IsTooLong : {A : Type 0} → Option (List ℕ) → Result A ReadFault → Type 0
IsTooLong left result = IfErr result (λ f. f.number ≡ 2 → IfSome left (λ all. 4294967296 < length all))

-- faults 1, 2 and 3 are in no line
abbrev pub HasLineIfInText : {A : Type 0} → Result A ReadFault → Type 0
HasLineIfInText result = IfErr result (λ f. f.number ≤ 3 → f.line ≡ 0)

-- even if the text is not known, a fault other than 1 and 3 is the first fault of some text
abbrev pub ReadsSomeFault : {S V A : Type 0} → Rules S V → Result A ReadFault → Type 0
ReadsSomeFault rules result = IfErr result (λ f. 2 ≤ f.number → f.number ≢ 3 → (all : List ℕ) × (text_read rules all ≡ Err f))

-- a number that reading stops with: 1 a failed read, 2 too long, 3 memory, or one of the kind's
-- own, which are these
abbrev pub IsNumberFrom : ℕ → ℕ → ℕ → Type 0
IsNumberFrom least greatest number = ((1 ≤ number) × (number ≤ 3)) ⊎ ((least ≤ number) × (number ≤ greatest))

-- a fault has such a number
abbrev pub IsReadNumber : {A : Type 0} → ℕ → ℕ → Result A ReadFault → Type 0
IsReadNumber least greatest result = IfErr result (λ f. IsNumberFrom least greatest f.number)

-- what a reader of whole texts promises by these rules, between two moments of its input: `view` is
-- the value of a result
pub record ReadsText {S V A X : Type 0} (old new : Input X) (rules : Rules S V) (view : A → V) (least greatest : ℕ) (result : Result A ReadFault) : Type 0 where
  pub value : ReadsValue rules view old.left result
  pub some_text : ReadsSome rules view result
  pub fault : ReadsFault rules old.left result
  pub some_fault : ReadsSomeFault rules result
  pub sound : OnOk result (new.failures ≡ old.failures)
  pub told : TellsFailure old.failures new.failures result
  pub untold : TellsNoOther old.failures new.failures result
  pub long : IsTooLong old.left result
  pub placed : HasLineIfInText result
  pub numbered : IsReadNumber least greatest result
  pub end : OnOk result (IsAtEnd new.left)
  pub asked : new.asked ≤ old.asked + 4294967297
  pub once : FailsOnce old.failures new.failures result
  pub before_failure : FailsUnbroken rules old.left new.left result
  pub before_memory : RunsOutUnbroken rules old.left new.left result
