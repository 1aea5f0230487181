-- A piece, a prefix of it, and what a part of its rest adds.
use Rattle.std.proofs.Common.{◌≡◌, ℕ, ◌+◌, ◌≤◌, List, ◌++◌, length, take, drop, sym, ap, ◌∙◌, length-drop, arith}
use Rattle.std.proofs.lemmas.List.{length-take, take-take, take_all}
use lib.Seq.{take-add}

-- the prefix with what is taken more
pub next_prefix : (xs : List ℕ) (at n m : ℕ) → n ≤ length (take m (drop at xs)) → take (at + n) xs ≡ take at xs ++ take n (take m (drop at xs))
next_prefix xs at n m le = take-add at n xs ∙ ap (λ x. take at xs ++ x) (sym (take-take n m (drop at xs) (omega (arith, length-take m (drop at xs)))))

pub next_all : (xs : List ℕ) (at n m : ℕ) → n ≡ length (take m (drop at xs)) → take (at + n) xs ≡ take at xs ++ take m (drop at xs)
next_all xs at n m e = next_prefix xs at n m (omega arith) ∙ ap (λ x. take at xs ++ x) (take_all n (take m (drop at xs)) (omega arith))

pub next_within : (xs : List ℕ) (at n m : ℕ) → at ≤ length xs → n ≤ length (take m (drop at xs)) → at + n ≤ length xs
next_within xs at n m inside le = omega (arith, length-take m (drop at xs), length-drop at xs)

pub next_fits : (xs : List ℕ) (at n m room : ℕ) → n ≤ length (take m (drop at xs)) → m ≤ room → n ≤ room
next_fits xs at n m room le small = omega (arith, length-take m (drop at xs))
