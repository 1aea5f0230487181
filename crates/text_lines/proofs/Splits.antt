-- The parts of a text that grows at its end.
use Rattle.text_lines.proofs.Words.{take_rest, take-add, ◌≡◌, ◌<◌, List, [], ◌∷◌, ◌++◌, length, Bool, true, false, cond, refl, ap, arith, ℕ, ◌-◌, take, ◌≤◌, ◌∙◌, All, zero, suc, drop, ◌+◌, append_assoc, is_ascii_digit, is_plain, length-slice_split}
use Rattle.std.proofs.Math.Seq.{take-append-add}
use Rattle.std.specs.List.{slice_split, onto_first}

-- y at the end of the last part
abbrev pub onto_last : {X : Type 0} → X → List (List X) → List (List X)
onto_last y [] = (y ∷ []) ∷ []
onto_last y (part ∷ []) = (part ++ y ∷ []) ∷ []
onto_last y (part ∷ other ∷ parts) = part ∷ onto_last y (other ∷ parts)

pub onto_last-append : {X : Type 0} (y : X) (done : List (List X)) (run : List X) → onto_last y (done ++ run ∷ []) ≡ done ++ (run ++ y ∷ []) ∷ []
onto_last-append y [] run = refl
onto_last-append y (d ∷ []) run = refl
onto_last-append y (d ∷ e ∷ done) run = ap (λ ps. d ∷ ps) (onto_last-append y (e ∷ done) run)

onto_first-append : {X : Type 0} (x : X) (parts : List (List X)) (last : List (List X)) → 0 < length parts → onto_first x (parts ++ last) ≡ onto_first x parts ++ last
onto_first-append x [] last h = absurd (omega arith)
onto_first-append x (p ∷ ps) last h = refl

onto_first-last : {X : Type 0} (x y : X) (parts : List (List X)) → 0 < length parts → onto_first x (onto_last y parts) ≡ onto_last y (onto_first x parts)
onto_first-last x y [] h = absurd (omega arith)
onto_first-last x y (p ∷ []) h = refl
onto_first-last x y (p ∷ q ∷ ps) h = refl

some_part : {X : Type 0} (p : X → Bool) (xs : List X) → 0 < length (slice_split p xs)
some_part p xs = omega (arith, length-slice_split p xs)

-- a separator begins an empty part
pub slice_split-separator : {X : Type 0} (p : X → Bool) (xs : List X) (y : X) → p y ≡ true → slice_split p (xs ++ y ∷ []) ≡ slice_split p xs ++ [] ∷ []
slice_split-separator p [] y h = rw h refl
slice_split-separator p (x ∷ xs) y h = rw (slice_split-separator p xs y h) (at (p x))
  where
    at : (b : Bool) → cond b ([] ∷ (slice_split p xs ++ [] ∷ [])) (onto_first x (slice_split p xs ++ [] ∷ [])) ≡ cond b ([] ∷ slice_split p xs) (onto_first x (slice_split p xs)) ++ [] ∷ []
    at true = refl
    at false = onto_first-append x (slice_split p xs) ([] ∷ []) (some_part p xs)

-- another element goes on with the last part
pub slice_split-other : {X : Type 0} (p : X → Bool) (xs : List X) (y : X) → p y ≡ false → slice_split p (xs ++ y ∷ []) ≡ onto_last y (slice_split p xs)
slice_split-other p [] y h = rw h refl
slice_split-other {X = X} p (x ∷ xs) y h = rw (slice_split-other p xs y h) (at (p x) (slice_split p xs) (some_part p xs))
  where
    at : (b : Bool) (parts : List (List X)) → 0 < length parts → cond b ([] ∷ onto_last y parts) (onto_first x (onto_last y parts)) ≡ onto_last y (cond b ([] ∷ parts) (onto_first x parts))
    at true (q ∷ parts) some = refl
    at true [] some = absurd (omega arith)
    at false parts some = onto_first-last x y parts some

-- a prefix of n bytes, and the rest up to a limit
pub take-append_past : (limit : ℕ) (prefix after : List ℕ) → length prefix ≤ limit → take limit (prefix ++ after) ≡ prefix ++ take (limit - length prefix) after
take-append_past limit prefix after le = ap (λ n. take n (prefix ++ after)) (room limit (length prefix) le) ∙ take-append-add prefix after (limit - length prefix)
  where
    room : (limit n : ℕ) → n ≤ limit → limit ≡ n + (limit - n)
    room limit n le = omega arith

pub All-one : (P : ℕ → Type 0) (b : ℕ) → P b → All P (b ∷ [])
All-one P b h zero d lt = h
All-one P b h (suc k) d lt = absurd (omega arith)

-- a digit goes on with a field
pub plain_digit : (b : ℕ) → is_ascii_digit b ≡ true → is_plain b ≡ true
plain_digit b digit = grind (arith, digit)

-- a piece at the prefix of the rest
pub take_further : (at n : ℕ) (xs more : List ℕ) → take (at + n) xs ++ more ≡ take at xs ++ (take n (take (length xs - at) (drop at xs)) ++ more)
take_further at n xs more = rw (take_rest xs at) (ap (λ x. x ++ more) (take-add at n xs) ∙ append_assoc (take at xs) (take n (drop at xs)) more)
