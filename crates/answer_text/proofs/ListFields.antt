-- Lists of numbers, field by field.
use Rattle.answer_text.proofs.Words.{◌≡◌, ◌⊎◌, inl, inr, ℕ, ◌+◌, ◌<◌, min, List, [], ◌∷◌, ◌++◌, length, drop, map, Ok, true, refl, sym, ap, ◌∙◌, arith, length-append, ◌>>=◌, number_held, PresentNumbers, answer_number, numbers_in, NumbersSoFar, begins_numbers, begins_route, numbers_given, one_number_more}
use Rattle.text_lines.specs.Words.{Word, word_of, held_word}
use Rattle.text_lines.proofs.ListLaws.{words_push, after_first}

numbers_push : (ws : List Word) (w : Word) → numbers_in (ws ++ w ∷ []) ≡ one_number_more (numbers_in ws) w.number
numbers_push = words_push (λ w. answer_number 4294967295 w.number) numbers_in refl (λ w ws. refl)

same_letter : (fs : List (List ℕ)) (f : List ℕ) → 0 < length fs → begins_numbers (fs ++ f ∷ []) ≡ begins_numbers fs
same_letter [] f lt = absurd (omega arith)
same_letter (x ∷ fs) f lt = refl

same_route : (fs : List (List ℕ)) (f : List ℕ) → 0 < length fs → begins_route (fs ++ f ∷ []) ≡ begins_route fs
same_route [] f lt = absurd (omega arith)
same_route (x ∷ fs) f lt = refl

-- a further field
pub next_field : (s t : PresentNumbers) (fs : List (List ℕ)) (f : List ℕ) → NumbersSoFar s fs → 0 < s.count → t.count ≡ min (s.count + 1) 1026 → t.is_list ≡ s.is_list → t.is_route ≡ s.is_route
    → (s.is_list ≡ true → (s.is_route ≡ true) ⊎ (t.count < 1026) → numbers_given t ≡ one_number_more (numbers_given s) (held_word f).number) → NumbersSoFar t (fs ++ f ∷ [])
next_field s t fs f h some more letter route numbers =
    let long : length (fs ++ f ∷ []) ≡ length fs + 1 = length-append fs (f ∷ []) in
    let any : 0 < length fs = omega (arith, h.count_is) in
    let kept : (t.is_route ≡ true) ⊎ (length (fs ++ f ∷ []) < 1026) → (s.is_route ≡ true) ⊎ (length fs < 1026) =
    λ few. elim few [ inl on ↦ inl (sym route ∙ on) | inr lt ↦ inr (omega (arith, lt, long)) ] in
    let room : (t.is_route ≡ true) ⊎ (length (fs ++ f ∷ []) < 1026) → (s.is_route ≡ true) ⊎ (t.count < 1026) =
    λ few. elim few [ inl on ↦ inl (sym route ∙ on) | inr lt ↦ inr (omega (arith, lt, long, more, h.count_is)) ] in
    record {
      count_is = omega (arith, h.count_is, long, more);
      letter_is = letter ∙ h.letter_is ∙ sym (same_letter fs f any);
      route_is = route ∙ h.route_is ∙ sym (same_route fs f any);
      numbers_are = λ on few. let was : s.is_list ≡ true = sym letter ∙ on in
          ap numbers_in (after_first fs f any) ∙ numbers_push (drop 1 (map word_of fs)) (word_of f) ∙ ap (λ r. one_number_more r (word_of f).number) (h.numbers_are was (kept few))
          ∙ ap (λ r. numbers_given s >>= λ vs. r >>= λ v. Ok (vs ++ v ∷ [])) (sym (number_held 34 35 4294967295 (word_of f).number (omega arith))) ∙ sym (numbers was (room few));
    }
