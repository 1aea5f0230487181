-- What is kept of a field, and of a line, is enough for rules that look at short words and at
-- numbers with limits.
use Rattle.text_lines.proofs.Words.{◌≡◌, ℕ, zero, suc, ◌<◌, min, List, [], ◌∷◌, length, take, map, Bool, false, eqb, nat_lt, Option, Some, None, option_map, refl, sym, ap, ◌∙◌, subst, arith, inl, inr, get_or, common_steps, cases_lt, ne_eqb, lt-ltb, take_all, length-take-le}
use Rattle.std.specs.Bool.{Decides}
use Rattle.std.proofs.lemmas.Slice.Eq.{bytes_eq-Decides}
use Rattle.std.specs.Str.{bytes_eq}
use Rattle.text_lines.specs.Words.{Word, word_of, word_at, held_word, number_up_to}

-- what is kept of a word
abbrev pub held : Word → Word
held w = record { text = take 9 w.text; number = option_map (λ n. min n 18446744073709551616) w.number }

-- what is kept of a line's fields is what is kept of its words
pub held_words : (fs : List (List ℕ)) → map held (map word_of fs) ≡ map held_word fs
held_words [] = refl
held_words (f ∷ fs) = ap (λ x. held_word f ∷ x) (held_words fs)

refused : {P : Type 0} (b : Bool) → Decides b P → (P → ⊥) → b ≡ false
refused b d no_way = grind (arith, common_steps)

unequal : (x y : List ℕ) → length y < length x → bytes_eq x y ≡ false
unequal x y h = refused (bytes_eq x y) (bytes_eq-Decides x y) (λ e. let same : length x ≡ length y = ap length e in omega arith)

-- a word of fewer than nine bytes is known by the first nine
pub short_word : (w k : List ℕ) → length k < 9 → bytes_eq (take 9 w) k ≡ bytes_eq w k
short_word w k h = elim (cases_lt 9 (length w)) [
  | inl big ↦ unequal (take 9 w) k (omega (arith, length-take-le 9 w (omega arith))) ∙ sym (unequal w k (omega arith))
  | inr small ↦ rw (take_all 9 w small) refl
]

-- so is the first byte
pub first_byte : (w : List ℕ) → get_or (take 9 w) 0 0 ≡ get_or w 0 0
first_byte [] = refl
first_byte (b ∷ w) = refl

-- so is a number up to a limit
pub number_held : (none large limit : ℕ) (o : Option ℕ) → limit < 18446744073709551616 →
    number_up_to none large limit (option_map (λ v. min v 18446744073709551616) o) ≡ number_up_to none large limit o
number_held none large limit None h = refl
number_held none large limit (Some v) h = grind (arith, common_steps)

-- these words are what is kept of those, the words of a line
pub record Keeps (kept ws : List Word) : Type 0 where
  pub count : (k : ℕ) → k < 6 → eqb (length kept) k ≡ eqb (length ws) k
  pub more : (k : ℕ) → k < 6 → nat_lt k (length kept) ≡ nat_lt k (length ws)
  pub word : (i : ℕ) → i < 6 → word_at i kept ≡ held (word_at i ws)

word_kept : (k i : ℕ) (ws : List Word) → i < k → word_at i (take k (map held ws)) ≡ held (word_at i ws)
word_kept zero i ws lt = absurd (omega arith)
word_kept (suc k) i [] lt = refl
word_kept (suc k) zero (w ∷ ws) lt = refl
word_kept (suc k) (suc i) (w ∷ ws) lt = word_kept k i ws (omega arith)

length_kept : (k : ℕ) (ws : List Word) → length (take k (map held ws)) ≡ min k (length ws)
length_kept zero ws = omega arith
length_kept (suc k) [] = omega arith
length_kept (suc k) (w ∷ ws) = let more = length_kept k ws in omega (arith, more)

count_kept : (n m k : ℕ) → n ≡ min 6 m → k < 6 → eqb n k ≡ eqb m k
count_kept n m k e lt = elim (cases_lt m 6) [
  | inl few ↦ ap (λ n. eqb n k) (omega (arith, e))
  | inr many ↦ ne_eqb n k (λ h. omega (arith, e)) ∙ sym (ne_eqb m k (λ h. omega arith))
]

more_kept : (n m k : ℕ) → n ≡ min 6 m → k < 6 → nat_lt k n ≡ nat_lt k m
more_kept n m k e lt = elim (cases_lt m 6) [
  | inl few ↦ ap (nat_lt k) (omega (arith, e))
  | inr many ↦ lt-ltb k n (omega (arith, e)) ∙ sym (lt-ltb k m (omega arith))
]

-- what is kept of a line's first six fields is kept of its words
pub keeps : (kept : List Word) (fs : List (List ℕ)) → kept ≡ take 6 (map held_word fs) → Keeps kept (map word_of fs)
keeps kept fs e =
    let ws : List Word = map word_of fs in
    let n : ℕ = length (take 6 (map held ws)) in
    let six : n ≡ min 6 (length ws) = length_kept 6 ws in
    subst (λ (ks : List Word). Keeps ks ws) (ap (take 6) (held_words fs) ∙ sym e) (record {
      count = λ k lt. count_kept n (length ws) k six lt;
      more = λ k lt. more_kept n (length ws) k six lt;
      word = λ i lt. word_kept 6 i ws lt;
    })
