-- What a record of fixed size shows of a line.
use Rattle.text_lines.proofs.Words.{slice_split, cases_lt, lt-ltb, le-ltb, ne_eqb, all_ascii_digits, digits_value, map-append, common_steps, fields, number, is_gap, has_bytes, Shows, number_on, number_with, word_on, word_with, Scan, past, scan_on, Word, held_word, no_word}
use Rattle.std.proofs.Common.{◌≡◌, ℕ, ◌+◌, ◌*◌, ◌-◌, ◌<◌, min, List, [], ◌∷◌, ◌++◌, length, take, map, filter, Bool, true, false, cond, not, ◌&&◌, ◌||◌, ◌==◌, Option, Some, None, option_map, refl, sym, ap, ◌∙◌, arith, append-nil, nat_lt, inl, inr, subst, suc, append_assoc, All, get_or}
use Rattle.std.specs.Option.{option_and_then}
use Rattle.std.proofs.lemmas.Str.{digit_value_digit}
use Rattle.std.proofs.lemmas.List.{take_all, take_more, length-take-le, take-append-le, length-append}
use Rattle.std.specs.Char.{is_ascii_digit, digit_value}
use Rattle.std.proofs.lemmas.Int.Digits.{digits_value_push}
use Rattle.std.proofs.lemmas.List.Elements.{filter-append}
use Rattle.text_lines.proofs.Splits.{take-append_past, onto_last, onto_last-append, slice_split-separator, slice_split-other}

and-true : (a : Bool) → (a && true) ≡ a
and-true true = refl
and-true false = refl

and-assoc : (a b c : Bool) → (a && (b && c)) ≡ ((a && b) && c)
and-assoc true b c = refl
and-assoc false b c = refl

all_ascii_digits-push : (f : List ℕ) (b : ℕ) → all_ascii_digits (f ++ b ∷ []) ≡ (all_ascii_digits f && is_ascii_digit b)
all_ascii_digits-push [] b = and-true (is_ascii_digit b)
all_ascii_digits-push (c ∷ f) b = rw (all_ascii_digits-push f b) (and-assoc (is_ascii_digit c) (all_ascii_digits f) (is_ascii_digit b))

digit_value-ascii : (b : ℕ) → is_ascii_digit b ≡ true → digit_value b ≡ b - 48
digit_value-ascii b h = grind (arith, common_steps, digit_value_digit)

number_more : (a d : Bool) (v w b : ℕ) → (d ≡ true → w ≡ v * 10 + (b - 48)) → cond (a && d) (Some w) None ≡ cond d (option_map (λ n. n * 10 + (b - 48)) (cond a (Some v) None)) None
number_more true true v w b h = ap (λ n. Some n) (h refl)
number_more true false v w b h = refl
number_more false true v w b h = refl
number_more false false v w b h = refl

number-push : (f : List ℕ) (b : ℕ) → number (f ++ b ∷ []) ≡ cond (is_ascii_digit b) (option_map (λ n. n * 10 + (b - 48)) (number f)) None
unfolding number
number-push f b = rw (all_ascii_digits-push f b) (number_more (all_ascii_digits f) (is_ascii_digit b) (digits_value 10 f) (digits_value 10 (f ++ b ∷ [])) b
    (λ h. digits_value_push 10 f b ∙ ap (λ d. digits_value 10 f * 10 + d) (digit_value-ascii b h)))

-- the first k of a list that grows at its end
pub take-push : {X : Type 0} (k : ℕ) (f : List X) (b : X) → cond (nat_lt (length (take k f)) k) (take k f ++ b ∷ []) (take k f) ≡ take k (f ++ b ∷ [])
take-push k f b = elim (cases_lt (length f) k) [
  | inl h ↦ rw (take_all k f (omega arith), take_all k (f ++ b ∷ []) (omega (arith, length-append f (b ∷ []))), lt-ltb (length f) k h) refl
  | inr h ↦ rw (length-take-le k f h, le-ltb k k (omega arith), take-append-le k f (b ∷ []) h) refl
]

held_more : (d : Bool) (o : Option ℕ) (b : ℕ) → option_and_then (λ n. cond d (Some (min (n * 10 + (b - 48)) 18446744073709551616)) None) (option_map (λ n. min n 18446744073709551616) o)
    ≡ option_map (λ n. min n 18446744073709551616) (cond d (option_map (λ n. n * 10 + (b - 48)) o) None)
held_more true None b = refl
held_more false None b = refl
held_more true (Some n) b = ap (λ n. Some n) (omega arith)
held_more false (Some n) b = refl

held_word-push : (f : List ℕ) (b : ℕ) → word_on (held_word f) b ≡ held_word (f ++ b ∷ [])
unfolding word_on
held_word-push f b = rw (number-push f b) (cc (take-push 9 f b, held_more (is_ascii_digit b) (number f) b))

-- the same with some bytes more
number_held : (f : List ℕ) (b : ℕ) → number_on (option_map (λ n. min n 18446744073709551616) (number f)) b ≡ option_map (λ n. min n 18446744073709551616) (number (f ++ b ∷ []))
number_held f b = rw (number-push f b) (held_more (is_ascii_digit b) (number f) b)

pub number_with_held : (f bytes : List ℕ) → number_with (option_map (λ n. min n 18446744073709551616) (number f)) bytes ≡ option_map (λ n. min n 18446744073709551616) (number (f ++ bytes))
number_with_held f [] = ap (λ x. option_map (λ n. min n 18446744073709551616) (number x)) (sym (append-nil f))
number_with_held f (b ∷ bytes) =
    ap (λ o. number_with o bytes) (number_held f b) ∙ number_with_held (f ++ b ∷ []) bytes
    ∙ ap (λ x. option_map (λ n. min n 18446744073709551616) (number x)) (append_assoc f (b ∷ []) bytes)

text_with_held : (f bytes : List ℕ) → take 9 f ++ take (9 - length (take 9 f)) bytes ≡ take 9 (f ++ bytes)
text_with_held f bytes = elim (cases_lt (length f) 9) [
  | inl h ↦ rw (take_all 9 f (omega arith)) (sym (take-append_past 9 f bytes (omega arith)))
  | inr h ↦ rw (length-take-le 9 f h, take-append-le 9 f bytes h) (append-nil (take 9 f))
]

pub held_word-with : (f bytes : List ℕ) → word_with (held_word f) bytes ≡ held_word (f ++ bytes)
unfolding word_with
held_word-with f bytes = cc (text_with_held f bytes, number_with_held f bytes)

pub no_word_is : no_word ≡ held_word []
unfolding number
no_word_is = refl

pub shows_start : (P : List (List ℕ) → Type 0) → P [] → Shows P ([], no_word) []
shows_start P h = record { told = h; done = []; run = []; parts = refl; words = refl; present = no_word_is }

cond-not : {X : Type 0} (b : Bool) (x y : X) → cond (not b) x y ≡ cond b y x
cond-not true x y = refl
cond-not false x y = refl

-- what the record keeps where the last part is past
past_is : (done : List (List ℕ)) (run : List ℕ) → past (take 6 (map held_word (filter has_bytes done)), held_word run) ≡ take 6 (map held_word (filter has_bytes (done ++ run ∷ [])))
unfolding past
past_is done [] = rw (filter-append has_bytes done ([] ∷ []), append-nil) refl
past_is done (r ∷ rs) =
    let before = map held_word (filter has_bytes done) in
    let goes : take 6 (before ++ held_word (r ∷ rs) ∷ []) ≡ take 6 (map held_word (filter has_bytes (done ++ (r ∷ rs) ∷ []))) =
    ap (take 6) (sym (ap (map held_word) (filter-append has_bytes done ((r ∷ rs) ∷ [])) ∙ map-append held_word (filter has_bytes done) ((r ∷ rs) ∷ []))) in
    rw (ne_eqb (length (take 9 (r ∷ rs))) 0 (λ e. omega arith)) (cond-not (nat_lt (length (take 6 before)) 6) _ _ ∙ take-push 6 before (held_word (r ∷ rs)) ∙ goes)

past_at : (s : Scan) (done : List (List ℕ)) (run : List ℕ) → s.0 ≡ take 6 (map held_word (filter has_bytes done)) → s.1 ≡ held_word run
    → past s ≡ take 6 (map held_word (filter has_bytes (done ++ run ∷ [])))
past_at (words, now) done run p q = ap (λ a. past (a, now)) p ∙ ap (λ b. past (take 6 (map held_word (filter has_bytes done)), b)) q ∙ past_is done run

pub shows_fields : {P : List (List ℕ) → Type 0} (s : Scan) (line : List ℕ) → Shows P s line → past s ≡ take 6 (map held_word (fields line))
unfolding fields
shows_fields s line h = past_at s h.done h.run h.words h.present ∙ ap (λ ps. take 6 (map held_word (filter has_bytes ps))) (sym h.parts)

pub shows_gap : (P Q : List (List ℕ) → Type 0) (s : Scan) (line : List ℕ) (b : ℕ) → is_gap b ≡ true → Shows P s line → Q (fields line) → Shows Q (past s, no_word) (line ++ b ∷ [])
unfolding fields
shows_gap P Q s line b e h told = record {
  done = h.done ++ h.run ∷ [];
  run = [];
  parts = slice_split-separator is_gap line b e ∙ ap (λ ps. ps ++ [] ∷ []) h.parts;
  words = past_at s h.done h.run h.words h.present;
  present = no_word_is;
  told = subst (λ ps. Q (filter has_bytes ps)) h.parts told;
}

pub shows_other : (P : List (List ℕ) → Type 0) (s : Scan) (line : List ℕ) (b : ℕ) → is_gap b ≡ false → Shows P s line → Shows P (s.0, word_on s.1 b) (line ++ b ∷ [])
shows_other P s line b e h = record {
  done = h.done;
  run = h.run ++ b ∷ [];
  parts = slice_split-other is_gap line b e ∙ ap (onto_last b) h.parts ∙ onto_last-append b h.done h.run;
  words = h.words;
  present = ap (λ l. word_on l b) h.present ∙ held_word-push h.run b;
  told = h.told;
}

pub shows_on : (P : List (List ℕ) → Type 0) (s : Scan) (line : List ℕ) (b : ℕ) → is_gap b ≡ false → Shows P s line → Shows P (scan_on s b) (line ++ b ∷ [])
unfolding scan_on
shows_on P s line b e h = rw e (shows_other P s line b e h)

-- the present field was given
told_by : (P Q : List (List ℕ) → Type 0) (done : List (List ℕ)) (run : List ℕ) → 0 < length (take 9 run) → ((fs : List (List ℕ)) → P fs → Q (fs ++ run ∷ [])) →
    P (filter has_bytes done) → Q (filter has_bytes (done ++ run ∷ []))
told_by P Q done [] some f h = absurd (omega arith)
told_by P Q done (b ∷ run) some f h = subst Q (sym (filter-append has_bytes done ((b ∷ run) ∷ []))) (f (filter has_bytes done) h)

pub told_on : (P Q : List (List ℕ) → Type 0) (s : Scan) (line : List ℕ) → 0 < length s.1.text → ((fs : List (List ℕ)) (f : List ℕ) → P fs → s.1 ≡ held_word f → Q (fs ++ f ∷ [])) →
    Shows P s line → Q (fields line)
unfolding fields
told_on P Q s line some f h = subst (λ ps. Q (filter has_bytes ps)) (sym h.parts)
    (told_by P Q h.done h.run (subst (λ l. 0 < length l) (ap (λ (l : Word). l.text) h.present) some) (λ fs p. f fs h.run p h.present) h.told)

-- there was no present field
none_by : (P : List (List ℕ) → Type 0) (done : List (List ℕ)) (run : List ℕ) → length (take 9 run) ≡ 0 → P (filter has_bytes done) → P (filter has_bytes (done ++ run ∷ []))
none_by P done [] none h = subst P (sym (filter-append has_bytes done ([] ∷ []) ∙ append-nil (filter has_bytes done))) h
none_by P done (b ∷ run) none h = absurd (omega arith)

pub told_same : (P : List (List ℕ) → Type 0) (s : Scan) (line : List ℕ) → length s.1.text ≡ 0 → Shows P s line → P (fields line)
unfolding fields
told_same P s line none h = subst (λ ps. P (filter has_bytes ps)) (sym h.parts) (none_by P h.done h.run (sym (ap (λ (l : Word). length l.text) h.present) ∙ none) h.told)

-- a run of bytes that are no gaps goes on with the last part
onto_run : (line bytes : List ℕ) (done : List (List ℕ)) (run : List ℕ) → All (λ b. is_gap b ≡ false) bytes → slice_split is_gap line ≡ done ++ run ∷ []
    → slice_split is_gap (line ++ bytes) ≡ done ++ (run ++ bytes) ∷ []
onto_run line [] done run h e = ap (slice_split is_gap) (append-nil line) ∙ e ∙ ap (λ x. done ++ x ∷ []) (sym (append-nil run))
onto_run line (b ∷ bytes) done run h e =
    ap (slice_split is_gap) (sym (append_assoc line (b ∷ []) bytes))
    ∙ onto_run (line ++ b ∷ []) bytes done (run ++ b ∷ []) (λ k d lt. h (suc k) d (omega arith))
    (slice_split-other is_gap line b (h 0 0 (omega arith)) ∙ ap (onto_last b) e ∙ onto_last-append b done run)
    ∙ ap (λ x. done ++ x ∷ []) (append_assoc run (b ∷ []) bytes)

pub shows_run : (P : List (List ℕ) → Type 0) (s : Scan) (line bytes : List ℕ) → All (λ b. is_gap b ≡ false) bytes → Shows P s line → Shows P (s.0, word_with s.1 bytes) (line ++ bytes)
shows_run P s line bytes e h = record {
  done = h.done;
  run = h.run ++ bytes;
  parts = onto_run line bytes h.done h.run e h.parts;
  words = h.words;
  present = ap (λ w. word_with w bytes) h.present ∙ held_word-with h.run bytes;
  told = h.told;
}

-- a number byte by byte
number_with-push : (o : Option ℕ) (xs : List ℕ) (b : ℕ) → number_with o (xs ++ b ∷ []) ≡ number_on (number_with o xs) b
number_with-push o [] b = refl
number_with-push o (x ∷ xs) b = number_with-push (number_on o x) xs b

pub number_with-take_more : (o : Option ℕ) (xs : List ℕ) (i : ℕ) → i < length xs → number_with o (take (i + 1) xs) ≡ number_on (number_with o (take i xs)) (get_or xs i 0)
number_with-take_more o xs i lt = ap (λ l. number_with o l) (take_more xs i 0 lt) ∙ number_with-push o (take i xs) (get_or xs i 0)

-- the present field is past: it is none, there is no room for it, or it is kept
pub past_none : (words : List Word) (now : Word) → length now.text ≡ 0 → past (words, now) ≡ words
unfolding past
past_none words now e = rw e refl

pub past_full : (words : List Word) (now : Word) → length words ≡ 6 → past (words, now) ≡ words
unfolding past
past_full words now e = rw e (either_way (length now.text == 0)) where
  either_way : (b : Bool) → cond (b || true) words (words ++ now ∷ []) ≡ words
  either_way true = refl
  either_way false = refl

pub past_kept : (words : List Word) (now : Word) → (length now.text ≡ 0 → ⊥) → length words < 6 → past (words, now) ≡ words ++ now ∷ []
unfolding past
past_kept words now some lt = rw (ne_eqb (length now.text) 0 some, lt-ltb (length words) 6 lt) refl
