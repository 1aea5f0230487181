-- The digits at the prefix of some bytes, and the number that they write.
use Rattle.std.proofs.Common.{◌≡◌, ℕ, suc, ◌+◌, ◌*◌, ◌^◌, ◌-◌, ◌%◌, ◌<◌, ◌≤◌, List, [], ◌∷◌, length, take, Bool, true, false, cond, All, Some, min, refl, ap, sym, ◌∙◌, arith}
use Rattle.std.specs.Prelude.{option_map, slice_range}
use Rattle.text_lines.proofs.Words.{prefix_len, is_ascii_digit, all_ascii_digits, digits_value, length-take-le, number, number_with}
use Rattle.std.proofs.lemmas.List.Elements.{All-nil, All-cons}
use Rattle.std.proofs.lemmas.Str.Parse.{digits_value_short}
use Rattle.text_lines.proofs.RoundTrip.{own}
use Rattle.text_lines.proofs.ScanLaws.{number_with_held}

prefix_step : (d : Bool) (b : ℕ) (bs : List ℕ) (k : ℕ) → d ≡ is_ascii_digit b → All (λ b. is_ascii_digit b ≡ true) (take k bs) → All (λ b. is_ascii_digit b ≡ true) (take (cond d (1 + k) 0) (b ∷ bs))
prefix_step true b bs k e h = let one : 1 + k ≡ suc k = omega arith in rw one (All-cons (λ b. is_ascii_digit b ≡ true) b (take k bs) (sym e) h)
prefix_step false b bs k e h = All-nil (λ b. is_ascii_digit b ≡ true)

-- the bytes at the prefix are digits
pub leading_digits : (bs : List ℕ) → All (λ b. is_ascii_digit b ≡ true) (take (prefix_len is_ascii_digit bs) bs)
leading_digits [] = All-nil (λ b. is_ascii_digit b ≡ true)
leading_digits (b ∷ bs) = prefix_step (is_ascii_digit b) b bs (prefix_len is_ascii_digit bs) refl (leading_digits bs)

test_step : (d : Bool) (b : ℕ) (bs : List ℕ) (k : ℕ) → d ≡ is_ascii_digit b → all_ascii_digits (take k bs) ≡ true → all_ascii_digits (take (cond d (1 + k) 0) (b ∷ bs)) ≡ true
test_step true b bs k e h = let one : 1 + k ≡ suc k = omega arith in rw (one, sym e) h
test_step false b bs k e h = refl

prefix_test : (bs : List ℕ) → all_ascii_digits (take (prefix_len is_ascii_digit bs) bs) ≡ true
prefix_test [] = refl
prefix_test (b ∷ bs) = test_step (is_ascii_digit b) b bs (prefix_len is_ascii_digit bs) refl (prefix_test bs)

number_is : (ds : List ℕ) → all_ascii_digits ds ≡ true → number ds ≡ Some (digits_value 10 ds)
unfolding number
number_is ds h = rw h refl

none_yet : option_map (λ n. min n 18446744073709551616) (number []) ≡ Some 0
unfolding number
none_yet = refl

-- a number of few digits that was read and wrapped is the number of the field
pub leading_number : (bs : List ℕ) (k n : ℕ) → k ≡ prefix_len is_ascii_digit bs → k ≤ length bs → k ≤ 19 → n ≡ (0 * 10 ^ (k - 0) + digits_value 10 (slice_range bs 0 k)) % 2 ^ 64 →
    Some n ≡ number_with (Some 0) (take k bs)
leading_number bs k n is inside few read =
    let digits : all_ascii_digits (take k bs) ≡ true = rw is (prefix_test bs) in
    let long : length (take k bs) ≡ k = length-take-le k bs inside in
    let small : digits_value 10 (take k bs) < 10 ^ 19 = digits_value_short own (take k bs) 19 digits (omega (arith, long)) in
    let all : k - 0 ≡ k = omega arith in
    let worth : n ≡ (0 * 10 ^ k + digits_value 10 (take k bs)) % 2 ^ 64 = rw all at read in
    let whole : n ≡ digits_value 10 (take k bs) = omega (arith, worth, small) in
    let held : number_with (Some 0) (take k bs) ≡ option_map (λ n. min n 18446744073709551616) (number (take k bs)) =
    ap (λ o. number_with o (take k bs)) (sym none_yet) ∙ number_with_held [] (take k bs) in
    let kept : min (digits_value 10 (take k bs)) 18446744073709551616 ≡ n = omega (arith, whole, small) in
    sym (held ∙ ap (λ o. option_map (λ n. min n 18446744073709551616) o) (number_is (take k bs) digits) ∙ ap (λ x. Some x) kept)
