-- A text that is written in pieces.
use Rattle.text_lines.proofs.Words.{◌≡◌, ℕ, ◌<◌, ◌≤◌, List, [], ◌++◌, length, map, get_or, take, drop, Result, Ok, Err, refl, sym, ap, ◌∙◌, append_assoc, take-append-drop, ◌+◌, append-nil, subst, ◌⊎◌, inl, inr, drop-cons, drop_of_length-le, add-one, arith, Appends, Keeps, text_of, spelled, Output, WrotePrefix, FailedAfterPrefix, WritesText}
use Rattle.std.proofs.lemmas.List.{length-map, get_or-map}
use Rattle.std.specs.Result.{IsErrAnd}
use Rattle.std.proofs.KnownBytes.{Appends-trans, Appends-nil, Appends-kept}
use Rattle.text_lines.specs.declared.ends.WriteFault.{WriteFault}

-- nothing was written yet
pub left_start : {X : Type 0} (old : Output X) (text : List ℕ) → WrotePrefix old old text text
left_start old text = record { prefix = []; text_is = refl; bytes = Appends-nil old.written; sound = refl }

-- one piece more was written
pub left_more : {X : Type 0} {old mid new : Output X} {text x rest : List ℕ} → WrotePrefix old mid text (x ++ rest) → WrotePrefix mid new x [] → WrotePrefix old new text rest
left_more {old = old} {mid = mid} {new = new} {x = x} {rest = rest} was piece = record {
  prefix = was.prefix ++ piece.prefix;
  text_is = was.text_is ∙ ap (λ y. was.prefix ++ (y ++ rest)) (piece.text_is ∙ append-nil piece.prefix) ∙ sym (append_assoc was.prefix piece.prefix rest);
  bytes = Appends-trans old.written mid.written new.written was.prefix piece.prefix was.bytes piece.bytes;
  sound = piece.sound ∙ was.sound;
}

-- a piece was cut short
pub left_fell : {X : Type 0} {old mid new : Output X} {text x : List ℕ} (rest : List ℕ) → WrotePrefix old mid text (x ++ rest) → FailedAfterPrefix mid new x →
    FailedAfterPrefix old new text
left_fell {old = old} {mid = mid} {new = new} {x = x} rest was piece = record {
  prefix = was.prefix ++ piece.prefix;
  rest = piece.rest ++ rest;
  text_is = was.text_is ∙ ap (λ y. was.prefix ++ (y ++ rest)) piece.text_is ∙ ap (λ y. was.prefix ++ y) (append_assoc piece.prefix piece.rest rest)
      ∙ sym (append_assoc was.prefix piece.prefix (piece.rest ++ rest));
  bytes = Appends-trans old.written mid.written new.written was.prefix piece.prefix was.bytes piece.bytes;
  failed = piece.failed ∙ ap (λ k. k + 1) was.sound;
}

-- a prefix of the rest was written by one write
pub left_more_prefix : {X : Type 0} (old mid new : Output X) (n : ℕ) (text rest after : List ℕ) → after ≡ drop n rest → WrotePrefix old mid text rest →
    Appends mid.written new.written (take n rest) → new.failures ≡ mid.failures → WrotePrefix old new text after
left_more_prefix old mid new n text rest after is was p e = record {
  prefix = was.prefix ++ take n rest;
  text_is = was.text_is ∙ ap (λ y. was.prefix ++ y) (sym (take-append-drop n rest)) ∙ sym (append_assoc was.prefix (take n rest) (drop n rest)) ∙ ap (λ y. (was.prefix ++ take n rest) ++ y) (sym is);
  bytes = Appends-trans old.written mid.written new.written was.prefix (take n rest) was.bytes p;
  sound = e ∙ was.sound;
}

-- one piece more, as it was put together
pub left_step : {X : Type 0} (old mid new : Output X) (text all x line rest : List ℕ) → all ≡ x ++ rest → line ≡ x → WrotePrefix old mid text all →
    WrotePrefix mid new line [] → WrotePrefix old new text rest
left_step old mid new text all x line rest e is was piece = left_more (subst (WrotePrefix old mid text) e was) (subst (λ y. WrotePrefix mid new y []) is piece)

-- such a piece was cut short
pub fell_step : {X : Type 0} (old mid new : Output X) (text all x line rest : List ℕ) → all ≡ x ++ rest → line ≡ x → WrotePrefix old mid text all →
    FailedAfterPrefix mid new line → FailedAfterPrefix old new text
fell_step old mid new text all x line rest e is was piece = left_fell rest (subst (WrotePrefix old mid text) e was) (subst (FailedAfterPrefix mid new) is piece)

-- the last piece
pub wrote_last : {A E X : Type 0} (old mid new : Output X) (text all line : List ℕ) (r : Result A E) → line ≡ all → WrotePrefix old mid text all →
    WritesText mid new line r → WritesText old new text r
wrote_last old mid new text all line (Ok v) is was piece = left_step old mid new text all all line [] (sym (append-nil all)) is was piece
wrote_last old mid new text all line (Err e) is was piece = fell_step old mid new text all all line [] (sym (append-nil all)) is was piece

-- nothing is left
pub left_end : {X : Type 0} (old new : Output X) (text rest : List ℕ) → rest ≡ [] → WrotePrefix old new text rest → WrotePrefix old new text []
left_end old new text rest e was = subst (WrotePrefix old new text) e was

-- two texts, one after the other
pub wrote_then : {B E X : Type 0} (old mid new : Output X) (x y : List ℕ) (r : Result B E) → WrotePrefix old mid x [] → WritesText mid new y r → WritesText old new (x ++ y) r
wrote_then old mid new x y r was next = wrote_last old mid new (x ++ y) y y r refl
    (record { prefix = was.prefix; text_is = ap (λ k. k ++ y) (was.text_is ∙ append-nil was.prefix); bytes = was.bytes; sound = was.sound }) next

pub fell_first : {X : Type 0} (old new : Output X) (x y : List ℕ) → FailedAfterPrefix old new x → FailedAfterPrefix old new (x ++ y)
fell_first old new x y was = record {
  prefix = was.prefix;
  rest = was.rest ++ y;
  text_is = ap (λ k. k ++ y) was.text_is ∙ append_assoc was.prefix was.rest y;
  bytes =
      was.bytes;
  failed = was.failed;
}

-- what a failed write left is what a function leaves that returns its fault
pub fell_out : {A E X : Type 0} (Is : E → Type 0) (old new : Output X) (text : List ℕ) (r : Result A E) → IsErrAnd r Is → FailedAfterPrefix old new text → WritesText old new text r
fell_out Is old new text (Ok x) err was = absurd err
fell_out Is old new text (Err e) err was = was

-- all of the text was written
pub left_appends : {X : Type 0} (old new : Output X) (text : List ℕ) → WrotePrefix old new text [] → Appends old.written new.written text
left_appends old new text was = subst (Appends old.written new.written) (sym (was.text_is ∙ append-nil was.prefix)) was.bytes

-- all of the text was written, and it stays
pub passed_whole : {X : Type 0} (old mid new : Output X) (text : List ℕ) → WrotePrefix old mid text [] → Keeps mid.written new.written → Appends old.written new.written text
passed_whole old mid new text was keeps = Appends-kept old.written mid.written new.written text (left_appends old mid text was) keeps

-- what was written of a text was the whole, or a prefix
pub wrote_reported : {X : Type 0} (old new : Output X) (given text : List ℕ) → given ≡ text → (r : Result (Unit {0}) WriteFault) → WritesText old new given r →
    WrotePrefix old new text [] ⊎ FailedAfterPrefix old new text
wrote_reported old new given text e (Ok u) h = inl (subst (λ (t : List ℕ). WrotePrefix old new t []) e h)
wrote_reported old new given text e (Err f) h = inr (subst (FailedAfterPrefix old new) e h)

-- lines, one for each element of a list
module _ {A : Type 0} (words : A → List (List ℕ)) where
  -- the lines from the i-th on
  pub lines_from : ℕ → List A → List ℕ
  lines_from i xs = text_of (map words (drop i xs))

  pub lines_next : (i : ℕ) (xs : List A) (d : A) → i < length xs → lines_from i xs ≡ spelled (words (get_or xs i d)) ++ lines_from (i + 1) xs
  unfolding lines_from
  lines_next i xs d lt = ap (λ ys. text_of (map words ys)) (drop-cons xs i d lt) ∙ ap (λ k. spelled (words (get_or xs i d)) ++ text_of (map words (drop k xs))) (sym (add-one i))

  pub lines_start : {X : Type 0} (old : Output X) (xs : List A) → WrotePrefix old old (text_of (map words xs)) (lines_from 0 xs)
  unfolding lines_from
  lines_start old xs = left_start old (text_of (map words xs))

  pub lines_end : {X : Type 0} (old new : Output X) (text : List ℕ) (i : ℕ) (xs : List A) → length xs ≤ i → WrotePrefix old new text (lines_from i xs) → WrotePrefix old new text []
  unfolding lines_from
  lines_end old new text i xs le was = left_end old new text (text_of (map words (drop i xs))) (ap (λ ys. text_of (map words ys)) (drop_of_length-le xs le)) was

  module _ {X : Type 0} (old mid new : Output X) (text line : List ℕ) (xs : List A) (i : ℕ) (d : A) (lt : i < length xs)
      (is : line ≡ spelled (words (get_or xs i d))) (was : WrotePrefix old mid text (lines_from i xs)) where
    pub line_left : WrotePrefix mid new line [] → WrotePrefix old new text (lines_from (i + 1) xs)
    line_left piece = left_step old mid new text (lines_from i xs) (spelled (words (get_or xs i d))) line (lines_from (i + 1) xs) (lines_next i xs d lt) is was piece

    pub line_fell : FailedAfterPrefix mid new line → FailedAfterPrefix old new text
    line_fell piece = fell_step old mid new text (lines_from i xs) (spelled (words (get_or xs i d))) line (lines_from (i + 1) xs) (lines_next i xs d lt) is was piece

-- the same where the elements are made of those of another list
module _ {A B : Type 0} (words : A → List (List ℕ)) (f : B → A) {X : Type 0} (old mid new : Output X) (text line : List ℕ) (ys : List B) (i : ℕ) (e : B)
    (lt : i < length ys) (is : line ≡ spelled (words (f (get_or ys i e)))) (was : WrotePrefix old mid text (lines_from words i (map f ys))) where
  inside : i < length (map f ys)
  inside = omega (arith, length-map ys f)

  same : line ≡ spelled (words (get_or (map f ys) i (f e)))
  same = is ∙ ap (λ x. spelled (words x)) (sym (get_or-map f ys i e (f e) lt))

  pub made_left : WrotePrefix mid new line [] → WrotePrefix old new text (lines_from words (i + 1) (map f ys))
  made_left piece = line_left words old mid new text line (map f ys) i (f e) inside same was piece

  pub made_fell : FailedAfterPrefix mid new line → FailedAfterPrefix old new text
  made_fell piece = line_fell words old mid new text line (map f ys) i (f e) inside same was piece

pub made_end : {A B X : Type 0} (words : A → List (List ℕ)) (f : B → A) (old new : Output X) (text : List ℕ) (i : ℕ) (ys : List B) → length ys ≤ i →
    WrotePrefix old new text (lines_from words i (map f ys)) → WrotePrefix old new text []
made_end words f old new text i ys le was = lines_end words old new text i (map f ys) (omega (arith, length-map ys f)) was
