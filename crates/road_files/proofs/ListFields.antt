-- The fields of a list, one after the other.
use Rattle.road_files.proofs.Words.{◌≡◌, ℕ, ◌+◌, ◌<◌, ◌≤◌, List, [], ◌∷◌, ◌++◌, length, drop, map, Ok, Err, Result, true, refl, sym, ap, ◌∙◌, arith, length-append, ◌>>=◌, Word, word_of, held_word, vertex_in, vertex_held, PresentList, vertices_in, one_vertex_more, begins_list, ListSoFar, sources_given}
use Rattle.std.specs.Result.{OnOk}
use Rattle.text_lines.proofs.ListLaws.{words_push, after_first}

vertices_push : (n : ℕ) (ws : List Word) (w : Word) → vertices_in n (ws ++ w ∷ []) ≡ one_vertex_more n (vertices_in n ws) w.number
vertices_push n = words_push (λ w. vertex_in n w.number) (vertices_in n) refl (λ w ws. refl)

-- what is kept of a field is enough for a vertex
one_held : (n : ℕ) (vertices : Result (List ℕ) ℕ) (f : List ℕ) → n < 18446744073709551616 → one_vertex_more n vertices (held_word f).number ≡ one_vertex_more n vertices (word_of f).number
one_held n vertices f lt = ap (λ r. vertices >>= λ vs. r >>= λ v. Ok (vs ++ v ∷ [])) (vertex_held n (word_of f).number lt)

same_letter : (fs : List (List ℕ)) (f : List ℕ) → 0 < length fs → begins_list (map word_of (fs ++ f ∷ [])) ≡ begins_list (map word_of fs)
same_letter [] f lt = absurd (omega arith)
same_letter (x ∷ fs) f lt = refl

-- a further field
pub next_field : (s t : PresentList) (fs : List (List ℕ)) (f : List ℕ) → s.vertices < 18446744073709551616 → ListSoFar s fs → 0 < s.count → s.count ≤ 1025 →
    t.vertices ≡ s.vertices → t.count ≡ s.count + 1 → t.is_list ≡ s.is_list
    → (s.is_list ≡ true → sources_given t ≡ one_vertex_more s.vertices (sources_given s) (held_word f).number) → ListSoFar t (fs ++ f ∷ [])
next_field s t fs f small h some few same more letter sources =
    let long : length (fs ++ f ∷ []) ≡ length fs + 1 = length-append fs (f ∷ []) in
    let any : 0 < length fs = omega (arith, h.count) in
    record {
      count = omega (arith, h.count, long, more);
      letter = letter ∙ h.letter ∙ sym (same_letter fs f any);
      sources = λ on le. let was : s.is_list ≡ true = sym letter ∙ on in
          ap (λ n. vertices_in n (drop 1 (map word_of (fs ++ f ∷ [])))) same ∙ ap (vertices_in s.vertices) (after_first fs f any) ∙ vertices_push s.vertices (drop 1 (map word_of fs)) (word_of f)
          ∙ ap (λ r. one_vertex_more s.vertices r (word_of f).number) (h.sources was (omega (arith, long))) ∙ sym (one_held s.vertices (sources_given s) f small) ∙ sym (sources was);
    }

pub on_both : {E P Q R : Type 0} (r : Result (Unit {0}) E) → OnOk r P → OnOk r Q → (P → Q → R) → OnOk r R
on_both (Ok x) p q f = f p q
on_both (Err e) p q f = tt
