-- A line of a letter and three numbers, as it is read in one go.
use Rattle.text_lines.proofs.Words.{◌≡◌, ℕ, ◌+◌, ◌-◌, ◌≤◌, List, [], ◌∷◌, ◌++◌, length, take, drop, filter, get_or, Bool, false, Some, Result, refl, sym, ap, ◌∙◌, subst, arith, append_assoc, append-nil, slice_split, join_with_byte, ReadFault, FieldsOf, LineCutter, LineReader, lines, is_gap, has_bytes, Scan, Shows, scan_of, number_with, word_with, IsPresent, RestGives, SoFarOf, spelled, IsWord, Meaning, Word, held_word}
use Rattle.std.proofs.lemmas.List.{length-append}
use Rattle.text_lines.specs.ShortLines.{IsNumberThen, IsShortLine, HasShortFields}
use Rattle.text_lines.proofs.RoundTrip.{fields_join, line_again}
use Rattle.text_lines.proofs.ScanLaws.{held_word-with, no_word_is}
use Rattle.text_lines.proofs.Splits.{take_further}
use Rattle.text_lines.proofs.TextLaws.{nothing}

-- three words with their ends make the rest of a line
three_words : (x y z : List ℕ) → ((x ++ 32 ∷ []) ++ (y ++ 32 ∷ [])) ++ (z ++ 10 ∷ []) ≡ (x ++ 32 ∷ (y ++ 32 ∷ z)) ++ 10 ∷ []
three_words x y z =
    append_assoc (x ++ 32 ∷ []) (y ++ 32 ∷ []) (z ++ 10 ∷ []) ∙ append_assoc x (32 ∷ []) ((y ++ 32 ∷ []) ++ (z ++ 10 ∷ []))
    ∙ ap (λ (k : List ℕ). x ++ 32 ∷ k) (append_assoc y (32 ∷ []) (z ++ 10 ∷ []) ∙ sym (append_assoc y (32 ∷ z) (10 ∷ []))) ∙ sym (append_assoc x (32 ∷ (y ++ 32 ∷ z)) (10 ∷ []))

-- the first two bytes
pub first_two : (xs : List ℕ) → 2 ≤ length xs → get_or xs 1 0 ≡ 32 → take 2 xs ≡ get_or xs 0 0 ∷ 32 ∷ []
first_two [] h e = absurd (omega arith)
first_two (x ∷ []) h e = absurd (omega arith)
first_two (x ∷ y ∷ xs) h e = ap (λ (b : ℕ). x ∷ b ∷ []) e

-- a letter, a space, and three numbers make a line
pub joined : (xs : List ℕ) (letter one two three first second third : ℕ) → take 2 xs ≡ letter ∷ 32 ∷ [] → IsWord (letter ∷ [])
    → IsNumberThen (take one (take (length xs - 2) (drop 2 xs))) 32 first
    → IsNumberThen (take two (take (length xs - (2 + one)) (drop (2 + one) xs))) 32 second
    → IsNumberThen (take three (take (length xs - (2 + one + two)) (drop (2 + one + two) xs))) 10 third
    → IsShortLine (take (2 + one + two + three) xs) letter first second third
unfolding spelled
joined xs letter one two three first second third head word a b c = record {
  one = a.word;
  two = b.word;
  three = c.word;
  is = pieces ∙ ap (λ k. letter ∷ 32 ∷ k) (three_words a.word b.word c.word);
  words = (word, a.is_word, b.is_word, c.is_word);
  numbers = (a.number_is, b.number_is, c.number_is);
} where
  step : (at n : ℕ) → take (at + n) xs ≡ take at xs ++ take n (take (length xs - at) (drop at xs))
  step at n = sym (append-nil (take (at + n) xs)) ∙ take_further at n xs [] ∙ ap (λ x. take at xs ++ x) (append-nil _)

  pieces : take (2 + one + two + three) xs ≡ (((letter ∷ 32 ∷ []) ++ (a.word ++ 32 ∷ [])) ++ (b.word ++ 32 ∷ [])) ++ (c.word ++ 10 ∷ [])
  pieces = rw (step (2 + one + two) three, step (2 + one) two, step 2 one, head, a.is, b.is, c.is) refl

-- what is kept of a word of digits is its number
held_number : (f : List ℕ) (n : ℕ) → number_with (Some 0) f ≡ Some n → (held_word f).number ≡ Some n
unfolding word_with
held_number f n is = ap (λ (w : Word). w.number) (sym (held_word-with [] f) ∙ ap (λ w. word_with w f) (sym no_word_is)) ∙ is

-- its fields
pub short_fields : (bytes : List ℕ) (letter first second third : ℕ) (s : IsShortLine bytes letter first second third)
    → HasShortFields (join_with_byte 32 ((letter ∷ []) ∷ s.one ∷ s.two ∷ s.three ∷ [])) letter first second third
short_fields bytes letter first second third s = record {
  one = s.one;
  two = s.two;
  three = s.three;
  is = fields_join ((letter ∷ []) ∷ s.one ∷ s.two ∷ s.three ∷ []) (s.words.0, (s.words.1, (s.words.2, (s.words.3, tt))));
  first_is = held_number s.one first s.numbers.0;
  second_is = held_number s.two second s.numbers.1;
  third_is = held_number s.three third s.numbers.2;
}

-- where a line begins, nothing of it was scanned
no_parts : (done : List (List ℕ)) (run : List ℕ) → slice_split is_gap [] ≡ done ++ run ∷ [] → done ≡ []
no_parts [] run e = refl
no_parts (x ∷ xs) run e = let n : 1 ≡ length (x ∷ (xs ++ run ∷ [])) = ap (λ (ps : List (List ℕ)). length ps) e in absurd (omega (arith, n, length-append xs (run ∷ [])))

pub begins_again : (P Q : List (List ℕ) → Type 0) (scan : Scan) → Q [] → Shows P scan [] → Shows Q scan []
begins_again P Q scan ready h = record {
  done = h.done;
  run = h.run;
  parts = h.parts;
  words = h.words;
  present = h.present;
  told = subst (λ ps. Q (filter has_bytes ps)) (sym (no_parts h.done h.run h.parts)) ready;
}

-- a line that was taken whole
module _ {T V : Type 0} (meaning : Meaning T V) (s : LineReader T) (t : T) (fresh : s.cutter.begun ≡ false) (ready : meaning.so_far t []) (bytes : List ℕ)
    (letter first second third : ℕ) (line : IsShortLine bytes letter first second third)
    (taken : (cut : Bool) (at : ℕ) (l : List ℕ) (rest : List (List ℕ)) (r : Result V ReadFault) → HasShortFields l letter first second third → meaning.gives cut t (at + 1) rest r →
    meaning.gives cut s.cutter.taker.parser at (l ∷ rest) r) where
  -- the cutter, with this parser
  abbrev pub with_parser : LineCutter (FieldsOf T)
  with_parser = record s.cutter { taker = record { parser = t; refused = s.cutter.taker.refused } }

  starts : (present : List ℕ) → IsPresent (SoFarOf meaning) s.cutter present → present ≡ [] → IsPresent (SoFarOf meaning) with_parser []
  starts present h none =
      let now : IsPresent (SoFarOf meaning) s.cutter [] = subst (IsPresent (SoFarOf meaning) s.cutter) none h in
      record {
        begun = now.begun;
        pending = now.pending;
        shown = begins_again (SoFarOf meaning s.cutter.taker) (SoFarOf meaning with_parser.taker)
            (scan_of s.cutter.scanner) (λ _. ready) now.shown;
        whole = now.whole;
      }

  pub taken_whole : (cut : Bool) (more : List ℕ) (r : Result V ReadFault)
      → ((present : List ℕ) → IsPresent (SoFarOf meaning) with_parser present → meaning.gives cut t (s.line + 1) (lines cut (present ++ more)) r) → RestGives cut meaning s (bytes ++ more) r
  taken_whole cut more r h = λ present held.
      let words = (letter ∷ []) ∷ line.one ∷ line.two ∷ line.three ∷ [] in
      let none : present ≡ [] = nothing s.cutter.pending (scan_of s.cutter.scanner) present (rw fresh at held) in
      let read : lines cut (present ++ (bytes ++ more)) ≡ join_with_byte 32 words ∷ lines cut more =
      ap (λ p. lines cut (p ++ (bytes ++ more))) none ∙ ap (λ b. lines cut (b ++ more)) line.is ∙ line_again cut words more (line.words.0, (line.words.1, (line.words.2, (line.words.3, tt)))) in
      rw read (taken cut s.line (join_with_byte 32 words) (lines cut more) r (short_fields bytes letter first second third line) (h [] (starts present held none)))
