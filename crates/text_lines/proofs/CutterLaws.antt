-- A cutter, as it goes on through a piece of bytes.
use Rattle.text_lines.proofs.Words.{◌≡◌, ℕ, ◌+◌, ◌-◌, ◌<◌, List, [], ◌∷◌, ◌++◌, length, take, drop, get_or, sym, ap, ◌∙◌, subst, append_assoc, take_more, take_rest, strip_carriage_return, take-add, LineCutter, IsPresent, IsLine, EndsLine}

module _ {T : Type 0} (so_far : T → List (List ℕ) → Type 0) (s : LineCutter T) (xs : List ℕ) where
  abbrev pub HasPresent : LineCutter T → ℕ → Type 0
  HasPresent t at = (present : List ℕ) → IsPresent so_far s present → IsPresent so_far t (present ++ take at xs)

  prefix_of_rest : (at n : ℕ) → take (at + n) xs ≡ take at xs ++ take n (take (length xs - at) (drop at xs))
  prefix_of_rest at n = rw (take_rest xs at) (take-add at n xs)

  -- after a run
  pub run_on : (t u : LineCutter T) (at n : ℕ) → HasPresent t at → ((present : List ℕ) → IsPresent so_far t present →
      IsPresent so_far u (present ++ take n (take (length xs - at) (drop at xs)))) → HasPresent u (at + n)
  run_on t u at n f g present held =
      subst (λ (x : List ℕ). IsPresent so_far u (present ++ x)) (sym (prefix_of_rest at n))
      (subst (λ (x : List ℕ). IsPresent so_far u x) (append_assoc present (take at xs) _) (g (present ++ take at xs) (f present held)))

  -- after a byte
  pub byte_on : (t u : LineCutter T) (at : ℕ) → at < length xs → HasPresent t at →
      ((present : List ℕ) → IsPresent so_far t present → IsPresent so_far u (present ++ get_or xs at 0 ∷ [])) → HasPresent u (at + 1)
  byte_on t u at lt f g present held =
      subst (λ (x : List ℕ). IsPresent so_far u (present ++ x)) (sym (take_more xs at 0 lt))
      (subst (λ (x : List ℕ). IsPresent so_far u x) (append_assoc present (take at xs) _) (g (present ++ take at xs) (f present held)))

  -- at an LF
  pub line_ends : (t u : LineCutter T) (at : ℕ) → at < length xs → get_or xs at 0 ≡ 10 → HasPresent t at →
      ((present : List ℕ) → IsPresent so_far t present → IsLine so_far u (strip_carriage_return present)) → EndsLine so_far s u (take (at + 1) xs)
  line_ends t u at lt e f g = record {
    prefix = take at xs;
    ends = take_more xs at 0 lt ∙ ap (λ b. take at xs ++ b ∷ []) e;
    within = λ present held. (f present held).whole;
    line = λ present held. g (present ++ take at xs) (f present held);
  }
