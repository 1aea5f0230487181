-- What is written is read again.
use Rattle.text_lines.proofs.Words.{◌≡◌, ℕ, zero, suc, map, ◌-◌, ◌+◌, ◌<◌, ◌≤◌, ◌^◌, List, [], ◌∷◌, ◌++◌, length, get_or, Bool, true, false, ◌&&◌, nat_lt, inl, inr, Some, Result, Ok, Err, refl, sym, ap, ◌∙◌, arith, append_assoc, all_ascii_digits, strip_carriage_return, digits_value, ne_eqb, cases_lt, lt-ltb, le-ltb, All-append, slice_split_at, slice_split_none, lines, fields, number, is_gap, is_line_end, has_bytes}
use Rattle.std.specs.List.{All, AllByRecursion, join_with_byte}
use Rattle.std.specs.Fmt.{decimal}
use Rattle.std.proofs.lemmas.Str.Parse.{digit_at, IsNumeralModel, numerals_by_value, tells_all_ascii_digits}
use Rattle.std.proofs.lemmas.Fmt.{digits_decimal, digits_value-decimal, decimal_nonempty}
use Rattle.std.proofs.lemmas.List.{get_or_default}
use Rattle.std.specs.Int.{IsInRange}
use Rattle.text_lines.proofs.TextLaws.{lines_first, lines_none}
use Rattle.text_lines.specs.Rules.{◌>>=◌, Rules, value_of_lines, at_line, text_value, text_read}
use Rattle.text_lines.specs.Texts.{spelled, text_of, IsWord, AreLines}

pub own : IsNumeralModel (λ ds. all_ascii_digits ds ≡ true) (digits_value 10)
own = numerals_by_value _ tells_all_ascii_digits

pub decimal_is_number : (n : ℕ) → n < 2 ^ 64 → number (decimal n) ≡ Some n
unfolding number
decimal_is_number n small = rw (digits_decimal own n small, digits_value-decimal own n small) refl

no_gap : (f : List ℕ) → All (λ b. 32 < b) f → All (λ b. is_gap b ≡ false) f
no_gap f h = λ k d lt. let big : 32 < get_or f k d = h k d lt in rw (ne_eqb (get_or f k d) 32 (λ e. omega arith), ne_eqb (get_or f k d) 9 (λ e. omega arith)) refl

kept : (f : List ℕ) → 0 < length f → has_bytes f ≡ true
kept [] h = absurd (omega arith)
kept (b ∷ f) h = refl

-- words with one space between them are the line's fields
pub fields_join : (fs : List (List ℕ)) → AllByRecursion IsWord fs → fields (join_with_byte 32 fs) ≡ fs
unfolding fields
fields_join [] h = refl
fields_join (f ∷ []) h = rw (slice_split_none is_gap f (no_gap f h.0.1), kept f h.0.0) refl
fields_join (f ∷ g ∷ fs) h = rw (slice_split_at is_gap f 32 (join_with_byte 32 (g ∷ fs)) (no_gap f h.0.1) refl, kept f h.0.0) (ap (λ x. f ∷ x) (fields_join (g ∷ fs) h.1))

-- no byte of a written line is below the space
plain_append : (xs ys : List ℕ) → All (λ b. 32 ≤ b) xs → All (λ b. 32 ≤ b) ys → All (λ b. 32 ≤ b) (xs ++ ys)
plain_append xs ys p q = All-append (λ b. 32 ≤ b) xs ys p q

plain_cons : (ys : List ℕ) → All (λ b. 32 ≤ b) ys → All (λ b. 32 ≤ b) (32 ∷ ys)
plain_cons ys p zero d lt = omega arith
plain_cons ys p (suc k) d lt = p k d (omega arith)

plain_word : (f : List ℕ) → IsWord f → All (λ b. 32 ≤ b) f
plain_word f h = λ k d lt. let big : 32 < get_or f k d = h.1 k d lt in omega arith

plain_join : (fs : List (List ℕ)) → AllByRecursion IsWord fs → All (λ b. 32 ≤ b) (join_with_byte 32 fs)
plain_join [] h = λ k d lt. absurd (omega arith)
plain_join (f ∷ []) h = plain_word f h.0
plain_join (f ∷ g ∷ fs) h = plain_append f (32 ∷ join_with_byte 32 (g ∷ fs)) (plain_word f h.0) (plain_cons _ (plain_join (g ∷ fs) h.1))

no_line_end : (xs : List ℕ) → All (λ b. 32 ≤ b) xs → All (λ b. is_line_end b ≡ false) xs
no_line_end xs h = λ k d lt. let big : 32 ≤ get_or xs k d = h k d lt in ne_eqb (get_or xs k d) 10 (λ e. omega arith)

no_return : (xs : List ℕ) → All (λ b. 32 ≤ b) xs → strip_carriage_return xs ≡ xs
no_return [] h = refl
no_return (x ∷ xs) h = let big : 32 ≤ get_or (x ∷ xs) (length (x ∷ xs) - 1) 0 = h (length (x ∷ xs) - 1) 0 (omega arith) in rw
    (ne_eqb (get_or (x ∷ xs) (length (x ∷ xs) - 1) 0) 13 (λ e. omega arith)) refl

-- a written line is the next line
pub line_again : (cut : Bool) (fs : List (List ℕ)) (rest : List ℕ) → AllByRecursion IsWord fs → lines cut (spelled fs ++ rest) ≡ join_with_byte 32 fs ∷ lines cut rest
unfolding spelled
line_again cut fs rest h =
    let plain : All (λ b. 32 ≤ b) (join_with_byte 32 fs) = plain_join fs h in
    ap (lines cut) (append_assoc (join_with_byte 32 fs) (10 ∷ []) rest) ∙ lines_first cut (join_with_byte 32 fs) rest (no_line_end _ plain) ∙ ap (λ x. x ∷ lines cut rest) (no_return _ plain)

-- the lines of a written text are its lines
pub lines_text : (ls : List (List (List ℕ))) → AllByRecursion (AllByRecursion IsWord) ls → lines false (text_of ls) ≡ map (join_with_byte 32) ls
unfolding spelled
lines_text [] h = lines_none
lines_text (fs ∷ ls) h =
    let plain : All (λ b. 32 ≤ b) (join_with_byte 32 fs) = plain_join fs h.0 in
    ap (lines false) (append_assoc (join_with_byte 32 fs) (10 ∷ []) (text_of ls)) ∙ lines_first false (join_with_byte 32 fs) (text_of ls) (no_line_end _ plain)
    ∙ ap (λ x. x ∷ lines false (text_of ls)) (no_return _ plain) ∙ ap (λ x. join_with_byte 32 fs ∷ x) (lines_text ls h.1)

-- a written number is a word
pub word_of_number : (n : ℕ) → n < 2 ^ 64 → IsWord (decimal n)
word_of_number n small = (
  decimal_nonempty n small,
  λ k d lt.
      let digit : IsInRange 48 57 (get_or (decimal n) k 0) = digit_at (decimal n) k (own.to (decimal n) (digits_decimal own n small)) lt in
      let same : get_or (decimal n) k d ≡ get_or (decimal n) k 0 = get_or_default (decimal n) k d 0 lt in omega arith,
)

-- whether each byte is above the space
abbrev pub above_space : List ℕ → Bool
above_space [] = true
above_space (b ∷ f) = nat_lt 32 b && above_space f

above_rest : (b : ℕ) (f : List ℕ) → above_space (b ∷ f) ≡ true → (32 < b) × (above_space f ≡ true)
above_rest b f h = elim (cases_lt 32 b) [
  | inl big ↦ (big, sym (ap (λ x. x && above_space f) (lt-ltb 32 b big)) ∙ h)
  | inr small ↦ let e : false ≡ true = sym (ap (λ x. x && above_space f) (le-ltb 32 b small)) ∙ h in cc
]

all_above : (f : List ℕ) → above_space f ≡ true → All (λ b. 32 < b) f
all_above [] h = λ k d lt. absurd (omega arith)
all_above (b ∷ f) h = let p = above_rest b f h in all_cons (λ b. 32 < b) b f p.0 (all_above f p.1)
  where
    all_cons : (P : ℕ → Type 0) (b : ℕ) (f : List ℕ) → P b → All P f → All P (b ∷ f)
    all_cons P b f here rest zero d lt = here
    all_cons P b f here rest (suc k) d lt = rest k d (omega arith)

-- a literal word is a word: `word_by_test (codes "sp") refl`
pub word_by_test : (f : List ℕ) → (has_bytes f && above_space f) ≡ true → IsWord f
word_by_test [] h = cc
word_by_test (b ∷ f) h = (omega arith, all_above (b ∷ f) h)

-- lines of words are read again by their rules
module _ {S V : Type 0} (rules : Rules S V) where
  -- what is read after lines of words
  abbrev pub after : S → List (List (List ℕ)) → Result S ℕ
  after s [] = Ok s
  after s (l ∷ ls) = rules.line s l >>= λ t. after t ls

  pub first_step : (s t : S) (l : List (List ℕ)) (ls : List (List (List ℕ))) (r : Result S ℕ) → rules.line s l ≡ r → (r >>= λ u. after u ls) ≡ Ok t →
      (u : S) × (rules.line s l ≡ Ok u) × (after u ls ≡ Ok t)
  first_step s t l ls (Ok u) e h = (u, e, h)
  first_step s t l ls (Err n) e h = cc

  pub after_append : (s t : S) (ls more : List (List (List ℕ))) → after s ls ≡ Ok t → after s (ls ++ more) ≡ after t more
  after_append s t [] more e = let same : s ≡ t = cc in ap (λ u. after u more) same
  after_append s t (l ∷ ls) more e =
      let p = first_step s t l ls (rules.line s l) refl e in
      ap (λ r. r >>= λ u. after u (ls ++ more)) p.1 ∙ after_append p.0 t ls more p.2

  read_lines : (at : ℕ) (s t : S) (v : V) (ls : List (List (List ℕ))) → AreLines ls → after s ls ≡ Ok t → rules.end t ≡ Ok v → value_of_lines false rules at s (map (join_with_byte 32) ls) ≡ Ok v
  read_lines at s t v [] h e f = let same : s ≡ t = cc in ap (λ u. at_line at (rules.end u)) same ∙ ap (at_line at) f
  read_lines at s t v (l ∷ ls) h e f =
      let p = first_step s t l ls (rules.line s l) refl e in
      ap (λ fs. at_line at (rules.line s fs) >>= λ u. value_of_lines false rules (at + 1) u (map (join_with_byte 32) ls)) (fields_join l h.0)
      ∙ ap (λ r. at_line at r >>= λ u. value_of_lines false rules (at + 1) u (map (join_with_byte 32) ls)) p.1 ∙ read_lines (at + 1) p.0 t v ls h.1 p.2 f

  -- a text of lines that the rules take, and whose end they take
  pub value_again : (t : S) (v : V) (ls : List (List (List ℕ))) → AreLines ls → after rules.start ls ≡ Ok t → rules.end t ≡ Ok v → text_value rules (text_of ls) ≡ Ok v
  value_again t v ls h e f = ap (λ xs. value_of_lines false rules 1 rules.start xs) (lines_text ls h) ∙ read_lines 1 rules.start t v ls h e f

  pub read_again : (v : V) (text : List ℕ) → length text ≤ 4294967296 → text_value rules text ≡ Ok v → text_read rules text ≡ Ok v
  read_again v text few h = rw (le-ltb 4294967296 (length text) few) h
