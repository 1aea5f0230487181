-- A list of which more and more is moved to another.
use Rattle.std.proofs.Common.{◌≡◌, List, [], ◌∷◌, ◌++◌, length, sym, ap, ◌∙◌, append_assoc, append-nil}
use Rattle.std.proofs.lemmas.List.{nil_from_length}

module _ {X : Type 0} (whole old items : List X) (was : old ++ items ≡ whole) where
  pub moved_on : (new rest : List X) (x y : X) → new ≡ old ++ y ∷ [] → y ≡ x → items ≡ x ∷ rest → new ++ rest ≡ whole
  moved_on new rest x y pushed same step = ap (λ l. l ++ rest) pushed ∙ append_assoc old (y ∷ []) rest ∙ ap (λ z. old ++ z ∷ rest) same ∙ ap (λ l. old ++ l) (sym step) ∙ was

  pub moved_all : length items ≡ 0 → old ≡ whole
  moved_all none = sym (append-nil old) ∙ ap (λ l. old ++ l) (sym (nil_from_length items none)) ∙ was
