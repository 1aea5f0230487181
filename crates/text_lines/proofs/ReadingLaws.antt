-- What a reader of lines has read, from the first byte to the last.
use Rattle.text_lines.proofs.Words.{◌≡◌, ℕ, ◌+◌, ◌-◌, ◌<◌, ◌≤◌, List, [], ◌++◌, length, take, Bool, true, false, Option, Some, None, Result, Ok, Err, IfSome, refl, sym, ap, ◌∙◌, arith, length-append, append-nil, append_assoc, nat_lt, MatchBool, Consumes, Keeps, IsAtEnd, lt-ltb, le-ltb, take-append_seam, ReadFault, Halt, Read, TooLong, Memory, Broken, LineReader, FailsAfter, RunsOutAfter, too_long, Meaning, lines}
use Rattle.text_lines.proofs.Splits.{take-append_past}
use Rattle.text_lines.proofs.ReaderLaws.{cut_here}
use Rattle.text_lines.specs.Reading.{RestGives, Halts, HaltsAtEnd, CutShort, BreaksOff, TextGives, SomeTextGives, HasTaken, HasRead, Stops, SomeTextStops, IsUnbroken, StopsAfter}

module _ {T V : Type 0} (meaning : Meaning T V) (parser : T) where
  pub has_read_start : (left : Option (List ℕ)) (s : LineReader T) → s.count ≡ 0 →
      ((cut : Bool) (bytes : List ℕ) (r : Result V ReadFault) → RestGives cut meaning s bytes r → meaning.gives cut parser 1 (lines cut bytes) r) → HasRead meaning parser left left s
  has_read_start None s e h = ([], (e, h))
  has_read_start (Some all) s e h = ([], refl, (e, h))

  pub has_read_more : (left old new : Option (List ℕ)) (s t : LineReader T) (piece : List ℕ) → HasRead meaning parser left old s → Consumes old new piece → t.count ≡ s.count + length piece
      → ((cut : Bool) (rest : List ℕ) (r : Result V ReadFault) → RestGives cut meaning t rest r → RestGives cut meaning s (piece ++ rest) r) → HasRead meaning parser left new t
  has_read_more None old new s t piece (done, (n, g)) c e f = (
    done ++ piece,
    (
      omega (arith, e, n, length-append done piece),
      λ cut x r h. rw (append_assoc done piece x)
          (g cut (piece ++ x) r (f cut x r h)),
    ),
  )
  has_read_more (Some all) None new s t piece p c e f = absurd p
  has_read_more (Some all) (Some rest) None s t piece p c e f = absurd c
  has_read_more (Some all) (Some rest) (Some more) s t piece (done, a, (n, g)) c e f = (
    done ++ piece,
    a ∙ ap (λ x. done ++ x) c ∙ sym (append_assoc done piece more),
    (omega (arith, e, n, length-append done piece), λ cut x r h. rw (append_assoc done piece x) (g cut (piece ++ x) r (f cut x r h))),
  )

  -- a text of at most 2 ^ 32 bytes that was read to its end
  short_text : (all : List ℕ) (r : Result V ReadFault) → length all ≤ 4294967296 → meaning.gives false parser 1 (lines false all) r → TextGives meaning parser all r
  short_text all r le h = rw (le-ltb 4294967296 (length all) le) h

  at_end : (all done : List ℕ) (s : LineReader T) (r : Result V ReadFault) → all ≡ done → s.count ≤ 4294967296 → HasTaken meaning parser done s → RestGives false meaning s [] r →
      TextGives meaning parser all r
  at_end all done s r e few (n, g) h = short_text all r (omega (arith, ap length e)) (rw (e, ← append-nil done) (g false [] r h))

  ends : (left old new : Option (List ℕ)) (s : LineReader T) (r : Result V ReadFault) → s.count ≤ 4294967296 → HasRead meaning parser left old s → Consumes old new [] →
      IsAtEnd new → RestGives false meaning s [] r → IfSome left (λ all. TextGives meaning parser all r)
  ends None old new s r few p c e h = tt
  ends (Some all) None new s r few p c e h = absurd p
  ends (Some all) (Some rest) None s r few p c e h = absurd c
  ends (Some all) (Some rest) (Some more) s r few (done, a, b) c e h = at_end all done s r (a ∙ ap (λ x. done ++ x) (c ∙ e) ∙ append-nil done) few b h

  pub has_read_value : (left old new : Option (List ℕ)) (s : LineReader T) (v : V) → s.count ≤ 4294967296 → HasRead meaning parser left old s → Consumes old new [] → IsAtEnd new →
      RestGives false meaning s [] (Ok v) → IfSome left (λ all. TextGives meaning parser all (Ok v))
  has_read_value left old new s v few p c e h = ends left old new s (Ok v) few p c e h

  -- also where the reader does not tell its bytes, some text was read
  pub has_read_some : (left old : Option (List ℕ)) (s : LineReader T) (v : V) → s.count ≤ 4294967296 → HasRead meaning parser left old s → RestGives false meaning s [] (Ok v) →
      SomeTextGives meaning parser (Ok v)
  has_read_some None old s v few (done, b) h = (done, at_end done done s (Ok v) refl few b h)
  has_read_some (Some all) None s v few p h = absurd p
  has_read_some (Some all) (Some rest) s v few (done, a, b) h = (done, at_end done done s (Ok v) refl few b h)

  pub stops_at_end : (left old new : Option (List ℕ)) (before after : ℕ) (s : LineReader T) (h : Halt) → s.count ≤ 4294967296 → after ≡ before → HasRead meaning parser left old s →
      Consumes old new [] → IsAtEnd new → HaltsAtEnd meaning s h → Stops meaning parser left before after h
  stops_at_end left old new before after s Read few same p c e h = absurd h
  stops_at_end left old new before after s TooLong few same p c e h = absurd h
  stops_at_end left old new before after s Memory few same p c e h = same
  stops_at_end left old new before after s (Broken f) few same p c e h = (same, ends left old new s (Err f) few p c e h)

  -- a fault of a line that ends within the bytes that fit
  prefix_breaks : (all prefix rest : List ℕ) (f : ReadFault) → all ≡ prefix ++ rest → length prefix ≤ 4294967296 →
      ((cut : Bool) (more : List ℕ) → meaning.gives cut parser 1 (lines cut (prefix ++ more)) (Err f)) → TextGives meaning parser all (Err f)
  prefix_breaks all prefix rest f e le h = by_test (nat_lt 4294967296 (length all))
    where
      by_test : (b : Bool) → MatchBool b (meaning.gives true parser 1 (lines true (take 4294967296 all)) (Err f)) (meaning.gives false parser 1 (lines false all) (Err f))
      by_test true = rw (e, take-append_past 4294967296 prefix rest le) (h true (take (4294967296 - length prefix) rest))
      by_test false = rw e (h false rest)

  prefix_cut : (all prefix rest : List ℕ) → all ≡ prefix ++ rest → length prefix ≡ 4294967296 → 0 < length rest → meaning.gives true parser 1 (lines true prefix) (Err too_long) →
      (4294967296 < length all) × TextGives meaning parser all (Err too_long)
  prefix_cut all prefix rest e full some h =
      let long : 4294967296 < length all = omega (arith, ap length e, length-append prefix rest) in
      let first : take 4294967296 all ≡ prefix = ap (take 4294967296) e ∙ ap (λ n. take n (prefix ++ rest)) (sym full) ∙ take-append_seam prefix rest in
      (long, rw (lt-ltb 4294967296 (length all) long, first) h)

  pub stops_in : (left old new : Option (List ℕ)) (before after : ℕ) (s : LineReader T) (piece : List ℕ) (h : Halt) → after ≡ before → HasRead meaning parser left old s →
      Consumes old new piece → Halts meaning s piece h → Stops meaning parser left before after h
  stops_in left old new before after s piece Read same p c h = absurd h
  stops_in left old new before after s piece TooLong same p c h = (same, cut_in left old new s piece p c h)
    where
      cut_in : (left old new : Option (List ℕ)) (s : LineReader T) (piece : List ℕ) → HasRead meaning parser left old s → Consumes old new piece → CutShort meaning s piece →
          IfSome left (λ all. (4294967296 < length all) × TextGives meaning parser all (Err too_long))
      cut_in None old new s piece p c h = tt
      cut_in (Some all) None new s piece p c h = absurd p
      cut_in (Some all) (Some rest) None s piece p c h = absurd c
      cut_in (Some all) (Some rest) (Some more) s piece (done, a, (n, g)) c (prefix, after, d, some, full, rest_gives) =
          prefix_cut all (done ++ prefix) (after ++ more) (a ∙ ap (λ x. done ++ x) (c ∙ ap (λ x. x ++ more) d ∙ append_assoc prefix after more) ∙ sym (append_assoc done prefix (after ++ more)))
          (omega (arith, n, full, length-append done prefix)) (omega (arith, length-append after more)) (g true prefix (Err too_long) rest_gives)
  stops_in left old new before after s piece Memory same p c h = same
  stops_in left old new before after s piece (Broken f) same p c h = (same, broken_in left old new s piece f p c h)
    where
      broken_in : (left old new : Option (List ℕ)) (s : LineReader T) (piece : List ℕ) (f : ReadFault) → HasRead meaning parser left old s → Consumes old new piece →
          BreaksOff meaning s piece f → IfSome left (λ all. TextGives meaning parser all (Err f))
      broken_in None old new s piece f p c h = tt
      broken_in (Some all) None new s piece f p c h = absurd p
      broken_in (Some all) (Some rest) None s piece f p c h = absurd c
      broken_in (Some all) (Some rest) (Some more) s piece f (done, a, (n, g)) c (prefix, after, d, fits, rest_gives) =
          prefix_breaks all (done ++ prefix) (after ++ more) f (a ∙ ap (λ x. done ++ x) (c ∙ ap (λ x. x ++ more) d ∙ append_assoc prefix after more) ∙ sym (append_assoc done prefix (after ++ more)))
          (omega (arith, n, fits, length-append done prefix)) (λ cut x. rw (append_assoc done prefix x) (g cut (prefix ++ x) (Err f) (rest_gives cut x)))

  -- some text has been taken, whether the reader shows its bytes or not
  has_taken_some : (left old : Option (List ℕ)) (s : LineReader T) → HasRead meaning parser left old s → (done : List ℕ) × HasTaken meaning parser done s
  has_taken_some None old s p = p
  has_taken_some (Some all) None s p = absurd p
  has_taken_some (Some all) (Some rest) s (done, a, b) = (done, b)

  told_stops : (all : List ℕ) (h : Halt) → Stops meaning parser (Some all) 0 0 h → SomeTextStops meaning parser h
  told_stops all Read p = tt
  told_stops all TooLong p = (all, p.1.1)
  told_stops all Memory p = tt
  told_stops all (Broken f) p = (all, p.1)

  pub some_stops_in : (left old : Option (List ℕ)) (s : LineReader T) (piece : List ℕ) (h : Halt) → HasRead meaning parser left old s → Halts meaning s piece h → SomeTextStops meaning parser h
  some_stops_in left old s piece h p q =
      let (done, b) = has_taken_some left old s p in
      told_stops (done ++ piece) h (stops_in (Some (done ++ piece)) (Some piece) (Some []) 0 0 s piece h refl (done, refl, b) (sym (append-nil piece)) q)

  pub some_stops_at_end : (left old : Option (List ℕ)) (s : LineReader T) (h : Halt) → s.count ≤ 4294967296 → HasRead meaning parser left old s → HaltsAtEnd meaning s h →
      SomeTextStops meaning parser h
  some_stops_at_end left old s h few p q =
      let (done, b) = has_taken_some left old s p in
      told_stops done h (stops_at_end (Some done) (Some []) (Some []) 0 0 s h few refl (done, sym (append-nil done), b) refl refl q)

  -- what was taken before reading stopped is unbroken
  module _ (law : (t : T) (at : ℕ) → meaning.gives true t at [] (Err too_long)) where
    unbroken : (done : List ℕ) (s : LineReader T) → HasTaken meaning parser done s → IsUnbroken meaning parser done
    unbroken done s (n, g) = rw (← append-nil done) (g true [] (Err too_long) (cut_here meaning s law))

    pub fails_after : (left old new : Option (List ℕ)) (s : LineReader T) → HasRead meaning parser left old s → Keeps old new → FailsAfter (IsUnbroken meaning parser) left new
    fails_after None old new s (done, b) k = (done, tt, unbroken done s b)
    fails_after (Some all) None new s p k = absurd p
    fails_after (Some all) (Some rest) None s p k = absurd k
    fails_after (Some all) (Some rest) (Some more) s (done, a, b) k = (done, a ∙ ap (λ x. done ++ x) (sym k), unbroken done s b)

    pub runs_out_after : (left old new : Option (List ℕ)) (s : LineReader T) (piece : List ℕ) → HasRead meaning parser left old s → Consumes old new piece → length piece ≤ 65536 →
        s.count + length piece ≤ 4294967296
        → RunsOutAfter (IsUnbroken meaning parser) left new
    runs_out_after None old new s piece (done, b) c short fits = record {
      before = done;
      last = piece;
      taken = tt;
      unbroken = unbroken done s b;
      one_read = short;
      fits =
          omega (arith, fits, b.0, length-append done piece);
    }
    runs_out_after (Some all) None new s piece p c short fits = absurd p
    runs_out_after (Some all) (Some rest) None s piece p c short fits = absurd c
    runs_out_after (Some all) (Some rest) (Some more) s piece (done, a, b) c short fits = record {
      before = done;
      last = piece;
      taken = a ∙ ap (λ x. done ++ x) c ∙ sym (append_assoc done piece more);
      unbroken = unbroken done s b;
      one_read = short;
      fits = omega (arith, fits, b.0, length-append done piece);
    }

    pub stops_after_in : (left old new : Option (List ℕ)) (before after : ℕ) (s : LineReader T) (piece : List ℕ) (h : Halt) → HasRead meaning parser left old s →
        Consumes old new piece → length piece ≤ 65536 → (s.count < 4294967296 → s.count + length piece ≤ 4294967296)
        → Halts meaning s piece h → StopsAfter meaning parser left new before after h
    stops_after_in left old new before after s piece Read p c short fits q = absurd q
    stops_after_in left old new before after s piece TooLong p c short fits q = tt
    stops_after_in left old new before after s piece Memory p c short fits q = runs_out_after left old new s piece p c short (fits q)
    stops_after_in left old new before after s piece (Broken f) p c short fits q = tt

    pub stops_after_end : (left old new : Option (List ℕ)) (before after : ℕ) (s : LineReader T) (h : Halt) → s.count ≤ 4294967296 → HasRead meaning parser left old s →
        Consumes old new [] → HaltsAtEnd meaning s h → StopsAfter meaning parser left new before after h
    stops_after_end left old new before after s Read few p c q = absurd q
    stops_after_end left old new before after s TooLong few p c q = tt
    stops_after_end left old new before after s Memory few p c q = runs_out_after left old new s [] p c (omega arith) (omega (arith, few))
    stops_after_end left old new before after s (Broken f) few p c q = tt
