-- What a reader of lines has read of a text, and what the rest of it gives.
use Rattle.std.specs.Prelude.{◌≡◌, ℕ, ◌+◌, ◌<◌, List, [], ◌∷◌, ◌++◌, Bool, false, Result, Ok, Err, length, ⊤, Option, Some, None, IfSome, IfOk, IfErr, OnOk, ◌≢◌, true, take, nat_lt, ◌≤◌, MatchBool}
use Rattle.text_lines.specs.declared.faults.ReadFault.{ReadFault}
use Rattle.text_lines.specs.declared.faults.Halt.{Halt}
use Rattle.text_lines.specs.declared.faults.Halt.TheVariants.{Read, TooLong, Memory, Broken}
use Rattle.text_lines.specs.declared.fields_of.FieldsOf.{FieldsOf}
use Rattle.text_lines.specs.declared.reader.LineReader.{LineReader}
use Rattle.text_lines.specs.Meaning.{Meaning}
use Rattle.text_lines.specs.Cuts.{IsPresent}
use Rattle.text_lines.specs.Lines.{lines}
use Rattle.std.specs.Io.KnownBytes.{IsAtEnd}
use Rattle.text_lines.specs.Reads.{TellsFailure, TellsNoOther, FailsOnce, FailsAfter, RunsOutAfter, IsTooLong, HasLineIfInText, IsReadNumber}
use Rattle.text_lines.specs.Streams.{Input}
use Rattle.text_lines.specs.Rules.{too_long}

-- these may be the fields of the present line so far, unless memory ran out at one
abbrev pub SoFarOf : {T V : Type 0} → Meaning T V → FieldsOf T → List (List ℕ) → Type 0
SoFarOf meaning s fs = s.refused ≡ false → meaning.so_far s.parser fs

-- if memory has not run out after, it had not before, and what lines give is as it was
abbrev pub KeepsGiven : {T V : Type 0} → Meaning T V → FieldsOf T → FieldsOf T → Type 0
KeepsGiven {V = V} meaning s t = t.refused ≡ false → (s.refused ≡ false)
    × ((cut : Bool) (at : ℕ) (ls : List (List ℕ)) (r : Result V ReadFault) → meaning.gives cut t.parser at ls r → meaning.gives cut s.parser at ls r)

-- the bytes to come give this, as the rest of a whole text or of one that is cut short
abbrev pub RestGives : {T V : Type 0} → Bool → Meaning T V → LineReader T → List ℕ → Result V ReadFault → Type 0
RestGives cut meaning s rest r = (present : List ℕ) → IsPresent (SoFarOf meaning) s.cutter present → meaning.gives cut s.cutter.taker.parser s.line (lines cut (present ++ rest)) r

-- a rule's number is at least 10, and fits a byte
abbrev pub IsNumbered : Halt → Type 0
IsNumbered Read = ⊤
IsNumbered TooLong = ⊤
IsNumbered Memory = ⊤
IsNumbered (Broken f) = (10 ≤ f.number) × (f.number ≤ 255)

-- why a line is not taken
abbrev pub IsOfLine : Halt → Type 0
IsOfLine Read = ⊥
IsOfLine TooLong = ⊥
IsOfLine Memory = ⊤
IsOfLine (Broken f) = ⊤

-- a line is taken, or why it is not
abbrev pub LineGoes : {A T V : Type 0} → Meaning T V → T → T → ℕ → List ℕ → Result A Halt → Type 0
LineGoes {V = V} meaning old new line l (Ok _) = (cut : Bool) (rest : List (List ℕ)) (r : Result V ReadFault) → meaning.gives cut new (line + 1) rest r → meaning.gives cut old line (l ∷ rest) r
LineGoes meaning old new line l (Err Read) = ⊤
LineGoes meaning old new line l (Err TooLong) = ⊤
LineGoes meaning old new line l (Err Memory) = ⊤
LineGoes meaning old new line l (Err (Broken f)) = (cut : Bool) (rest : List (List ℕ)) → meaning.gives cut old line (l ∷ rest) (Err f)

-- a prefix of these bytes fits and no byte more, so the text is cut short after it
abbrev pub CutShort : {T V : Type 0} → Meaning T V → LineReader T → List ℕ → Type 0
CutShort meaning s bytes = (prefix after : List ℕ) × (bytes ≡ prefix ++ after) × (0 < length after) × (s.count + length prefix ≡ 4294967296) × RestGives true meaning s prefix (Err too_long)

-- a line that ends in these bytes has this fault
abbrev pub BreaksOff : {T V : Type 0} → Meaning T V → LineReader T → List ℕ → ReadFault → Type 0
BreaksOff meaning s bytes f = (prefix after : List ℕ) × (bytes ≡ prefix ++ after) × (s.count + length prefix ≤ 4294967296) × ((cut : Bool) (more : List ℕ) → RestGives cut meaning s (prefix ++ more) (Err f))

-- why reading stopped within these bytes
abbrev pub Halts : {T V : Type 0} → Meaning T V → LineReader T → List ℕ → Halt → Type 0
Halts meaning s bytes Read = ⊥
Halts meaning s bytes TooLong = CutShort meaning s bytes
Halts meaning s bytes Memory = s.count < 4294967296
Halts meaning s bytes (Broken f) = BreaksOff meaning s bytes f

-- why reading stopped at the end of the text
abbrev pub HaltsAtEnd : {T V : Type 0} → Meaning T V → LineReader T → Halt → Type 0
HaltsAtEnd meaning s Read = ⊥
HaltsAtEnd meaning s TooLong = ⊥
HaltsAtEnd meaning s Memory = ⊤
HaltsAtEnd meaning s (Broken f) = RestGives false meaning s [] (Err f)

-- why the end was not taken, from a line on
abbrev pub EndHalts : {T V : Type 0} → Meaning T V → T → ℕ → Halt → Type 0
EndHalts meaning parser line Read = ⊥
EndHalts meaning parser line TooLong = ⊥
EndHalts meaning parser line Memory = ⊤
EndHalts meaning parser line (Broken f) = meaning.gives false parser line [] (Err f)

-- a text of any length gives this
abbrev pub TextGives : {T V : Type 0} → Meaning T V → T → List ℕ → Result V ReadFault → Type 0
TextGives meaning parser all r = MatchBool (nat_lt 4294967296 (length all)) (meaning.gives true parser 1 (lines true (take 4294967296 all)) r) (meaning.gives false parser 1 (lines false all) r)

-- some text gives this
abbrev pub SomeTextGives : {T V : Type 0} → Meaning T V → T → Result V ReadFault → Type 0
SomeTextGives meaning parser r = (all : List ℕ) × TextGives meaning parser all r

-- the reader has taken just these bytes: what the rest gives after them, the whole text gives
abbrev pub HasTaken : {T V : Type 0} → Meaning T V → T → List ℕ → LineReader T → Type 0
HasTaken {V = V} meaning parser done s = (s.count ≡ length done) × ((cut : Bool) (more : List ℕ) (r : Result V ReadFault) → RestGives cut meaning s more r → meaning.gives cut parser 1 (lines cut (done ++ more)) r)

-- the reader has taken what was left of the text at first and is not left now, if these bytes are
-- known
abbrev pub HasRead : {T V : Type 0} → Meaning T V → T → Option (List ℕ) → Option (List ℕ) → LineReader T → Type 0
HasRead meaning parser None now s = (done : List ℕ) × HasTaken meaning parser done s
HasRead meaning parser (Some all) None s = ⊥
HasRead meaning parser (Some all) (Some rest) s = (done : List ℕ) × (all ≡ done ++ rest) × HasTaken meaning parser done s

-- why reading stopped: a read failed, or the text, if it is known, has this fault
abbrev pub Stops : {T V : Type 0} → Meaning T V → T → Option (List ℕ) → ℕ → ℕ → Halt → Type 0
Stops meaning parser left before after Read = after ≢ before
Stops meaning parser left before after TooLong = (after ≡ before) × IfSome left (λ all. (4294967296 < length all) × TextGives meaning parser all (Err too_long))
Stops meaning parser left before after Memory = after ≡ before
Stops meaning parser left before after (Broken f) = (after ≡ before) × IfSome left (λ all. TextGives meaning parser all (Err f))

-- even if the text is not known, some text has the fault at which reading stopped
abbrev pub SomeTextStops : {T V : Type 0} → Meaning T V → T → Halt → Type 0
SomeTextStops meaning parser Read = ⊤
SomeTextStops meaning parser TooLong = SomeTextGives meaning parser (Err too_long)
SomeTextStops meaning parser Memory = ⊤
SomeTextStops meaning parser (Broken f) = SomeTextGives meaning parser (Err f)

-- no line of these bytes has a fault: a text that is cut short after them has no other fault than
-- that it is too long
abbrev pub IsUnbroken : {T V : Type 0} → Meaning T V → T → List ℕ → Type 0
IsUnbroken meaning parser bytes = meaning.gives true parser 1 (lines true bytes) (Err too_long)

-- what was read before reading stopped for what is no fault of the text: one failed read, or
-- running out of memory
abbrev pub StopsAfter : {T V : Type 0} → Meaning T V → T → Option (List ℕ) → Option (List ℕ) → ℕ → ℕ → Halt → Type 0
StopsAfter meaning parser left rest before after Read = (after ≡ before + 1) × FailsAfter (IsUnbroken meaning parser) left rest
StopsAfter meaning parser left rest before after TooLong = ⊤
StopsAfter meaning parser left rest before after Memory = RunsOutAfter (IsUnbroken meaning parser) left rest
StopsAfter meaning parser left rest before after (Broken f) = ⊤

-- what a reader of whole texts promises by a line parser's meaning, between two moments of its
-- input: the value or the fault is what the text gives, or if the text is not known, some text
pub record ReadsWhole {T V X : Type 0} (old new : Input X) (meaning : Meaning T V) (parser : T) (result : Result V ReadFault) : Type 0 where
  pub value : IfOk result (λ v. IfSome old.left (λ all. TextGives meaning parser all (Ok v)))
  pub some_text : IfOk result (λ v. SomeTextGives meaning parser (Ok v))
  pub fault : IfErr result (λ f. 2 ≤ f.number → f.number ≢ 3 → IfSome old.left (λ all. TextGives meaning parser all (Err f)))
  pub some_fault : IfErr result (λ f. 2 ≤ f.number → f.number ≢ 3 → SomeTextGives meaning parser (Err f))
  pub sound : OnOk result (new.failures ≡ old.failures)
  pub told : TellsFailure old.failures new.failures result
  pub untold : TellsNoOther old.failures new.failures result
  pub long : IsTooLong old.left result
  pub placed : HasLineIfInText result
  pub numbered : IsReadNumber 10 255 result
  pub end : OnOk result (IsAtEnd new.left)
  pub asked : new.asked ≤ old.asked + 4294967297
  pub once : FailsOnce old.failures new.failures result
  pub before_failure : IfErr result (λ f. f.number ≡ 1 → FailsAfter (IsUnbroken meaning parser) old.left new.left)
  pub before_memory : IfErr result (λ f. f.number ≡ 3 → RunsOutAfter (IsUnbroken meaning parser) old.left new.left)
