-- What a reader of lines makes of a piece of bytes, and of the end of a text.
use Rattle.std.proofs.Common.{◌≡◌, ℕ, Bool, List, [], ◌∷◌, ◌++◌, true, false, Result, Ok, Err, refl, sym, ap, ◌+◌, ◌-◌, ◌<◌, ◌≤◌, length, drop, arith, take, ◌∙◌, subst, append_assoc, append-nil, take-append-drop, length-append, length-drop}
use Rattle.text_lines.proofs.Words.{length-take-le, take_all, strip_carriage_return, too_long, ReadFault, Halt, Read, TooLong, Memory, Broken, FieldsOf, LineCutter, LineReader, IsPresent, IsLine, EndsLine, StaysInLine, lines, has_bytes, Meaning}
use Rattle.text_lines.specs.Reading.{RestGives, SoFarOf, KeepsGiven, LineGoes, IsOfLine, Halts, HaltsAtEnd, EndHalts, CutShort}
use Rattle.text_lines.proofs.Splits.{take_further}
use Rattle.text_lines.proofs.TextLaws.{lines_cut, lines_first, lines_of_last, lines_of_none}

-- bytes that a cutter takes
module _ {T V : Type 0} (meaning : Meaning T V) where
  -- the bytes that follow here, in the line with this number, give this
  abbrev pub RestFrom : Bool → LineCutter (FieldsOf T) → ℕ → List ℕ → Result V ReadFault → Type 0
  RestFrom cut c line rest r = (present : List ℕ) → IsPresent (SoFarOf meaning) c present → meaning.gives cut c.taker.parser line (lines cut (present ++ rest)) r

  -- they go on with the line
  pub line_goes_on : (c d : LineCutter (FieldsOf T)) (line : ℕ) (ys : List ℕ) (n : ℕ) → StaysInLine (SoFarOf meaning) c d ys n → KeepsGiven meaning c.taker d.taker → d.taker.refused ≡ false
      → (cut : Bool) (more : List ℕ) (r : Result V ReadFault) → RestFrom cut d line more r → RestFrom cut c line (ys ++ more) r
  line_goes_on c d line ys n stays kept given cut more r h = λ present held.
      (kept given).1 cut line _ r (rw (← append_assoc present ys more) (h (present ++ ys) (stays.present present held)))

  -- they end it
  line_gives : (c d : LineCutter (FieldsOf T)) (line : ℕ) (ys : List ℕ) (ends : EndsLine (SoFarOf meaning) c d ys) → KeepsGiven meaning c.taker d.taker → d.taker.refused ≡ false
      → (cut : Bool) (more : List ℕ) (r : Result V ReadFault) → ((l : List ℕ) → IsLine (SoFarOf meaning) d l → meaning.gives cut d.taker.parser line (l ∷ lines cut more) r) →
      RestFrom cut c line (ys ++ more) r
  line_gives c d line ys ends kept given cut more r took = λ present held.
      let l : List ℕ = strip_carriage_return (present ++ ends.prefix) in
      let first : lines cut (present ++ (ys ++ more)) ≡ l ∷ lines cut more =
      ap (λ x. lines cut (present ++ (x ++ more))) ends.ends ∙ ap (λ x. lines cut (present ++ x)) (append_assoc ends.prefix (10 ∷ []) more)
      ∙ ap (lines cut) (sym (append_assoc present ends.prefix (10 ∷ more))) ∙ lines_first cut (present ++ ends.prefix) more (ends.within present held) in
      (kept given).1 cut line _ r (rw first (took l (ends.line present held)))

  -- and it is taken
  pub line_taken : {A : Type 0} (c d e : LineCutter (FieldsOf T)) (line next : ℕ) (ys : List ℕ) (value : A) → next ≡ line + 1 → EndsLine (SoFarOf meaning) c d ys →
      KeepsGiven meaning c.taker d.taker → d.taker.refused ≡ false
      → IsPresent (SoFarOf meaning) e [] → ((l : List ℕ) → IsLine (SoFarOf meaning) d l → LineGoes {A = A} meaning d.taker.parser e.taker.parser line l (Ok value))
      → (cut : Bool) (more : List ℕ) (r : Result V ReadFault) → RestFrom cut e next more r → RestFrom cut c line (ys ++ more) r
  line_taken c d e line next ys value number ends kept given ready took cut more r h =
      line_gives c d line ys ends kept given cut more r (λ l here. took l here cut (lines cut more) r (subst (λ k. meaning.gives cut e.taker.parser k (lines cut more) r) number (h [] ready)))

  -- or it is not
  pub line_halts : {A : Type 0} (s : LineReader T) (d : LineCutter (FieldsOf T)) (parser : T) (bytes ys zs : List ℕ) (halt : Halt) (res : Result A Halt) → res ≡ Err halt →
      IsOfLine halt → bytes ≡ ys ++ zs → s.count + length ys ≤ 4294967296 → s.count < 4294967296
      → EndsLine (SoFarOf meaning) s.cutter d ys → KeepsGiven meaning s.cutter.taker d.taker → d.taker.refused ≡ false →
      ((l : List ℕ) → IsLine (SoFarOf meaning) d l → LineGoes meaning d.taker.parser parser s.line l res) → Halts meaning s bytes halt
  line_halts s d parser bytes ys zs Read res is kind e fits room ends kept given took = absurd kind
  line_halts s d parser bytes ys zs TooLong res is kind e fits room ends kept given took = absurd kind
  line_halts s d parser bytes ys zs Memory res is kind e fits room ends kept given took = room
  line_halts {A = A} s d parser bytes ys zs (Broken f) res is kind e fits room ends kept given took = (
    ys,
    zs,
    e,
    fits,
    λ cut more.
        line_gives s.cutter d s.line ys ends kept given cut more (Err f) (λ l here. subst (λ (x : Result A Halt). LineGoes meaning d.taker.parser parser s.line l x) is
        (took l here) cut (lines cut more)),
  )

module _ {T V : Type 0} (meaning : Meaning T V) (s : LineReader T) where
  -- a text that ends here is cut short
  pub cut_here : ((t : T) (at : ℕ) → meaning.gives true t at [] (Err too_long)) → RestGives true meaning s [] (Err too_long)
  cut_here law = λ present held. rw (append-nil present, lines_cut present held.whole) (law s.cutter.taker.parser s.line)

  -- no more bytes fit
  pub none_fits : (bytes : List ℕ) → ((t : T) (at : ℕ) → meaning.gives true t at [] (Err too_long)) → s.count ≡ 4294967296 → 0 < length bytes → CutShort meaning s bytes
  none_fits bytes law full some = ([], bytes, refl, some, omega arith, cut_here law)

  -- the end, where a line is begun, and where none is
  module _ (d : LineCutter (FieldsOf T)) (kept : KeepsGiven meaning s.cutter.taker d.taker) (given : d.taker.refused ≡ false) where
    pub rest_gives_last : (r : Result V ReadFault) → ((present : List ℕ) → IsPresent (SoFarOf meaning) s.cutter present →
        (has_bytes present ≡ true) × IsLine (SoFarOf meaning) d (strip_carriage_return present))
        → ((l : List ℕ) → IsLine (SoFarOf meaning) d l → meaning.gives false d.taker.parser s.line (l ∷ []) r) → RestGives false meaning s [] r
    rest_gives_last r last took = λ present held.
        let (some, here) = last present held in
        let line : lines false (present ++ []) ≡ strip_carriage_return present ∷ [] = ap (lines false) (append-nil present) ∙ lines_of_last present some held.whole in
        (kept given).1 false s.line _ r (rw line (took (strip_carriage_return present) here))

    pub rest_gives_end : (r : Result V ReadFault) → ((present : List ℕ) → IsPresent (SoFarOf meaning) s.cutter present → has_bytes present ≡ false) →
        meaning.gives false d.taker.parser s.line [] r → RestGives false meaning s [] r
    rest_gives_end r none h = λ present held.
        let no_line : lines false (present ++ []) ≡ [] = ap (lines false) (append-nil present) ∙ lines_of_none present (none present held) in
        (kept given).1 false s.line _ r (rw no_line h)

    pub end_halts : (h : Halt) → ((present : List ℕ) → IsPresent (SoFarOf meaning) s.cutter present → has_bytes present ≡ false) → EndHalts meaning d.taker.parser s.line h → HaltsAtEnd meaning s h
    end_halts Read none p = p
    end_halts TooLong none p = p
    end_halts Memory none p = p
    end_halts (Broken f) none p = rest_gives_end (Err f) none p

    module _ {A : Type 0} (parser : T) (last : (present : List ℕ) → IsPresent (SoFarOf meaning) s.cutter present →
        (has_bytes present ≡ true) × IsLine (SoFarOf meaning) d (strip_carriage_return present)) where
      -- the last line is taken, and then the end is
      pub last_gives : (value : A) (r : Result V ReadFault) → ((l : List ℕ) → IsLine (SoFarOf meaning) d l → LineGoes {A = A} meaning d.taker.parser parser s.line l (Ok value)) →
          meaning.gives false parser (s.line + 1) [] r → RestGives false meaning s [] r
      last_gives value r took h = rest_gives_last r last (λ l here. took l here false [] r h)

      -- or the end is not
      pub last_end_halts : (value : A) (h : Halt) → ((l : List ℕ) → IsLine (SoFarOf meaning) d l → LineGoes {A = A} meaning d.taker.parser parser s.line l (Ok value)) →
          EndHalts meaning parser (s.line + 1) h → HaltsAtEnd meaning s h
      last_end_halts value Read took p = p
      last_end_halts value TooLong took p = p
      last_end_halts value Memory took p = p
      last_end_halts value (Broken f) took p = last_gives value (Err f) took p

      -- or the last line is not
      pub last_halts : (h : Halt) (res : Result A Halt) → res ≡ Err h → IsOfLine h →
          ((l : List ℕ) → IsLine (SoFarOf meaning) d l → LineGoes meaning d.taker.parser parser s.line l res) → HaltsAtEnd meaning s h
      last_halts Read res is kind took = absurd kind
      last_halts TooLong res is kind took = absurd kind
      last_halts Memory res is kind took = tt
      last_halts (Broken f) res is kind took = rest_gives_last (Err f) last (λ l here. subst (λ (x : Result A Halt). LineGoes meaning d.taker.parser parser s.line l x) is (took l here) false [])

-- what a reader makes of the rest of a piece, after the first i bytes
module _ {T V : Type 0} (meaning : Meaning T V) (s t : LineReader T) (bytes : List ℕ) (i : ℕ) (inside : i ≤ length bytes)
    (f : (cut : Bool) (more : List ℕ) (r : Result V ReadFault) → RestGives cut meaning t more r → RestGives cut meaning s (take i bytes ++ more) r) (e : t.count ≡ s.count + i) where
  split_at : (prefix after : List ℕ) → take (length bytes - i) (drop i bytes) ≡ prefix ++ after → bytes ≡ (take i bytes ++ prefix) ++ after
  split_at prefix after p =
      sym (take-append-drop i bytes) ∙ ap (λ x. take i bytes ++ x) (sym (take_all (length bytes - i) (drop i bytes) (omega (arith, length-drop i bytes))) ∙ p)
      ∙ sym (append_assoc (take i bytes) prefix after)

  counted : (prefix : List ℕ) → s.count + length (take i bytes ++ prefix) ≡ t.count + length prefix
  counted prefix = omega (arith, length-append (take i bytes) prefix, length-take-le i bytes inside, e)

  moved : (cut : Bool) (prefix more : List ℕ) (r : Result V ReadFault) → RestGives cut meaning t (prefix ++ more) r → RestGives cut meaning s ((take i bytes ++ prefix) ++ more) r
  moved cut prefix more r h = rw (append_assoc (take i bytes) prefix more) (f cut (prefix ++ more) r h)

  pub halts_in : (h : Halt) → Halts meaning t (take (length bytes - i) (drop i bytes)) h → Halts meaning s bytes h
  halts_in Read p = p
  halts_in TooLong (prefix, after, p, some, full, gives) = (take i bytes ++ prefix, after, split_at prefix after p, some, counted prefix ∙ full, f true prefix (Err too_long) gives)
  halts_in Memory p = omega (arith, p, e)
  halts_in (Broken x) (prefix, after, p, fits, gives) = (
    take i bytes ++ prefix,
    after,
    split_at prefix after p,
    omega
        (arith, counted prefix, fits),
    λ cut more. moved cut prefix more (Err x) (gives cut more),
  )

-- what the rest gives from one place in a piece, from a later one
pub rest_gives_further : {T V : Type 0} (meaning : Meaning T V) (s t u : LineReader T) (xs : List ℕ) (at n : ℕ)
    → ((cut : Bool) (more : List ℕ) (r : Result V ReadFault) → RestGives cut meaning t more r → RestGives cut meaning s (take at xs ++ more) r)
    → ((cut : Bool) (more : List ℕ) (r : Result V ReadFault) → RestGives cut meaning u more r → RestGives cut meaning t (take n (take (length xs - at) (drop at xs)) ++ more) r)
    → (cut : Bool) (more : List ℕ) (r : Result V ReadFault) → RestGives cut meaning u more r → RestGives cut meaning s (take (at + n) xs ++ more) r
rest_gives_further meaning s t u xs at n f g cut more r h = rw (take_further at n xs more) (f cut (take n (take (length xs - at) (drop at xs)) ++ more) r (g cut more r h))
