-- Lines of a word and numbers, and the numbers of their fields.
use Rattle.std.proofs.Common.{◌≡◌, ℕ, ◌<◌, List, [], ◌∷◌, ◌++◌, length, drop, map, Ok, Err, Result, refl, arith, ◌+◌, get_or, decimal, sym, ap, ◌∙◌, append_assoc, drop-cons, add-one, subst}
use Rattle.text_lines.proofs.Words.{map-append, ◌>>=◌, Word, word_of, join_with_byte, Output, WrotePrefix, FailedAfterPrefix, WritesText}
use Rattle.text_lines.specs.Texts.{spelled, list_words, spaced}
use Rattle.text_lines.proofs.WriteLaws.{wrote_then, left_step, fell_step, fell_first}

-- what words give from left to right, where `one` is what each gives, and `all` what they give
-- together
module _ (one : Word → Result ℕ ℕ) (all : List Word → Result (List ℕ) ℕ) (none : all [] ≡ Ok [])
    (first : (w : Word) (ws : List Word) → all (w ∷ ws) ≡ (one w >>= λ v. all ws >>= λ vs. Ok (v ∷ vs))) where
  -- one word more at the end
  pub words_push : (ws : List Word) (w : Word) → all (ws ++ w ∷ []) ≡ (all ws >>= λ vs. one w >>= λ v. Ok (vs ++ v ∷ []))
  words_push [] w = rw (first w [], none) (single (one w))
    where
      single : (r : Result ℕ ℕ) → (r >>= λ v. Ok (v ∷ [])) ≡ (r >>= λ v. Ok ([] ++ v ∷ []))
      single (Ok v) = refl
      single (Err e) = refl
  words_push (x ∷ ws) w = rw (first x (ws ++ w ∷ []), first x ws, words_push ws w) (go (one x) (all ws) (one w))
    where
      go : (a : Result ℕ ℕ) (b : Result (List ℕ) ℕ) (c : Result ℕ ℕ) → (a >>= λ v. (b >>= λ vs. c >>= λ u. Ok (vs ++ u ∷ [])) >>= λ vs. Ok (v ∷ vs)) ≡
          ((a >>= λ v. b >>= λ vs. Ok (v ∷ vs)) >>= λ vs. c >>= λ u. Ok (vs ++ u ∷ []))
      go (Err e) b c = refl
      go (Ok v) (Err e) c = refl
      go (Ok v) (Ok vs) (Err e) = refl
      go (Ok v) (Ok vs) (Ok u) = refl

-- one field more after the first
pub after_first : (fs : List (List ℕ)) (f : List ℕ) → 0 < length fs → drop 1 (map word_of (fs ++ f ∷ [])) ≡ drop 1 (map word_of fs) ++ word_of f ∷ []
after_first [] f lt = absurd (omega arith)
after_first (x ∷ fs) f lt = map-append word_of fs (f ∷ [])

pub list_spelled : (word : List ℕ) (ns : List ℕ) → spelled (list_words word ns) ≡ word ++ spaced ns
unfolding spelled
list_spelled word [] = refl
list_spelled word (n ∷ ns) = append_assoc word (32 ∷ join_with_byte 32 (list_words (decimal n) ns)) (10 ∷ []) ∙ ap (λ x. word ++ (32 ∷ x)) (list_spelled (decimal n) ns)

pub list_then : {B E X : Type 0} (old mid new : Output X) (word ns : List ℕ) (r : Result B E) → WrotePrefix old mid word [] → WritesText mid new (spaced ns) r →
    WritesText old new (spelled (list_words word ns)) r
list_then old mid new word ns r was next = subst (λ t. WritesText old new t r) (sym (list_spelled word ns)) (wrote_then old mid new word (spaced ns) r was next)

pub list_fell : {X : Type 0} (old new : Output X) (word ns : List ℕ) → FailedAfterPrefix old new word → FailedAfterPrefix old new (spelled (list_words word ns))
list_fell old new word ns was = subst (FailedAfterPrefix old new) (sym (list_spelled word ns)) (fell_first old new word (spaced ns) was)

pub spaced_next : (i : ℕ) (ns : List ℕ) → i < length ns → spaced (drop i ns) ≡ spaced (get_or ns i 0 ∷ drop (i + 1) ns)
spaced_next i ns lt = ap spaced (drop-cons ns i 0 lt) ∙ ap (λ k. spaced (get_or ns i 0 ∷ drop k ns)) (sym (add-one i))

module _ {X : Type 0} (old mid new : Output X) (text line : List ℕ) where
  pub number_left : (ns : List ℕ) (i : ℕ) → i < length ns → line ≡ (32 ∷ decimal (get_or ns i 0)) → WrotePrefix old mid text (spaced (drop i ns)) →
      WrotePrefix mid new line [] → WrotePrefix old new text (spaced (drop (i + 1) ns))
  number_left ns i lt is was piece = left_step old mid new text (spaced (drop i ns)) (32 ∷ decimal (get_or ns i 0)) line (spaced (drop (i + 1) ns)) (spaced_next i ns lt) is was piece

  pub number_fell : (ns : List ℕ) (i : ℕ) → i < length ns → line ≡ (32 ∷ decimal (get_or ns i 0)) → WrotePrefix old mid text (spaced (drop i ns)) →
      FailedAfterPrefix mid new line → FailedAfterPrefix old new text
  number_fell ns i lt is was piece = fell_step old mid new text (spaced (drop i ns)) (32 ∷ decimal (get_or ns i 0)) line (spaced (drop (i + 1) ns)) (spaced_next i ns lt) is was piece
