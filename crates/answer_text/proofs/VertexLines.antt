-- The lines of vertices, one by one.
use Rattle.answer_text.proofs.Words.{◌≡◌, ℕ, ◌+◌, ◌<◌, ◌≤◌, List, [], ◌++◌, length, drop, get_or, Option, refl, sym, ap, ◌∙◌, drop-cons, drop_of_length-le, add-one, spelled, text_of, Output, WrotePrefix, FailedAfterPrefix, left_step, fell_step, Reached, vertex_words, vertex_lines}

-- the lines of the vertices after the first i
pub vertices_from : ℕ → List (Option Reached) → List ℕ
vertices_from i ls = text_of (vertex_lines (i + 1) (drop i ls))

pub vertices_next : (i : ℕ) (ls : List (Option Reached)) (d : Option Reached) → i < length ls → vertices_from i ls ≡ spelled (vertex_words (i + 1) (get_or ls i d)) ++ vertices_from (i + 1) ls
unfolding vertices_from
vertices_next i ls d lt = ap (λ xs. text_of (vertex_lines (i + 1) xs)) (drop-cons ls i d lt)
    ∙ ap (λ k. spelled (vertex_words (i + 1) (get_or ls i d)) ++ text_of (vertex_lines ((i + 1) + 1) (drop k ls))) (sym (add-one i))

pub vertices_start : (ls : List (Option Reached)) → vertices_from 0 ls ≡ text_of (vertex_lines 1 ls)
unfolding vertices_from
vertices_start ls = refl

pub vertices_end : (i : ℕ) (ls : List (Option Reached)) → length ls ≤ i → vertices_from i ls ≡ []
unfolding vertices_from
vertices_end i ls le = ap (λ xs. text_of (vertex_lines (i + 1) xs)) (drop_of_length-le ls le)

module _ {X : Type 0} (old mid new : Output X) (text line : List ℕ) (ls : List (Option Reached)) (i v : ℕ) (d : Option Reached) (lt : i < length ls) (at : v ≡ i)
    (is : line ≡ spelled (vertex_words (v + 1) (get_or ls i d)))
    (was : WrotePrefix old mid text (vertices_from i ls)) where
  pub vertex_left : WrotePrefix mid new line [] → WrotePrefix old new text (vertices_from (i + 1) ls)
  vertex_left piece = left_step old mid new text (vertices_from i ls) (spelled (vertex_words (i + 1) (get_or ls i d))) line (vertices_from (i + 1) ls)
      (vertices_next i ls d lt) (is ∙ ap (λ k. spelled (vertex_words (k + 1) (get_or ls i d))) at) was piece

  pub vertex_fell : FailedAfterPrefix mid new line → FailedAfterPrefix old new text
  vertex_fell piece = fell_step old mid new text (vertices_from i ls) (spelled (vertex_words (i + 1) (get_or ls i d))) line (vertices_from (i + 1) ls)
      (vertices_next i ls d lt) (is ∙ ap (λ k. spelled (vertex_words (k + 1) (get_or ls i d))) at) was piece
