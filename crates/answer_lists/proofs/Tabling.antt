-- A table that gets a row more, a row that gets a code more, and how long a table is.
use Rattle.std.proofs.Common.{◌≡◌, ℕ, ◌+◌, ◌*◌, ◌<◌, List, [], ◌∷◌, ◌++◌, length, get_or, take, take-suc, add-one, append_assoc, append-nil, length-append, zero-mul, refl, ap, sym, ◌∙◌, subst, arith, Option, Some, None}
use Rattle.std.specs.List.{AllZip, concat}
use Rattle.std.proofs.lemmas.Slice.Zip.{all_zipped_more, AllZip-long}
use Rattle.answer_lists.proofs.Words.{GraphData, IsGraph, Algebra, IsLawful, IsBestLabel, IsTableCode, AreRowCodes, AreTableCodes, code_for, HasLowCodes}
use Rattle.answer_lists.proofs.Telling.{code_kept}

-- one place more in two lists
pub zipped_next : {A B : Type 0} (R : A → B → Type 0) (xs : List A) (ys : List B) (i : ℕ) (d x : A) (y : B) → i < length xs → x ≡ get_or xs i d →
    AllZip R (take i xs) ys → R x y → AllZip R (take (i + 1) xs) (ys ++ (y ∷ []))
zipped_next R xs ys i d x y lt e all r =
    let more : take (i + 1) xs ≡ take i xs ++ (x ∷ []) = ap (λ (n : ℕ). take n xs) (add-one i) ∙ take-suc xs i d lt ∙ ap (λ z. take i xs ++ (z ∷ [])) (sym e) in
    subst (λ zs. AllZip R zs (ys ++ (y ∷ []))) (sym more) (all_zipped_more R (take i xs) ys x y all r)

-- a best label's code is the code of its place
pub label_coded : {V : Type 0} (A : Algebra V) → IsLawful A → HasLowCodes A → (g : GraphData) → IsGraph g → (source target : ℕ) (l : Option V) →
    IsBestLabel A g (source ∷ []) target l → IsTableCode A g source target (code_for A l)
label_coded A lawful low g roads source target None h = record { best = λ other. absurd (other refl); none = λ _. h }
label_coded A lawful low g roads source target (Some x) h =
    record { best = λ _. (x, h, refl); none = λ e. absurd (code_kept A lawful low g roads (source ∷ []) target x h e) }

concat_more : (rows : List (List ℕ)) (row : List ℕ) → concat (rows ++ (row ∷ [])) ≡ concat rows ++ row
concat_more [] row = append-nil row
concat_more (r ∷ rows) row = ap (λ (xs : List ℕ). r ++ xs) (concat_more rows row) ∙ sym (append_assoc r (concat rows) row)

module _ {V : Type 0} (A : Algebra V) (g : GraphData) (targets : List ℕ) where
  pub table_more : (sources : List ℕ) (codes row : List ℕ) (i s : ℕ) → i < length sources → s ≡ get_or sources i 0 →
      AreTableCodes A g (take i sources) targets codes → AreRowCodes A g targets s row → AreTableCodes A g (take (i + 1) sources) targets (codes ++ row)
  table_more sources codes row i s lt e (rows, joined, all) r =
      (rows ++ (row ∷ []), ap (λ (xs : List ℕ). xs ++ row) joined ∙ sym (concat_more rows row), zipped_next (AreRowCodes A g targets) sources rows i 0 s row lt e all r)

  long : (sources : List ℕ) (rows : List (List ℕ)) → AllZip (AreRowCodes A g targets) sources rows → length (concat rows) ≡ length sources * length targets
  long [] [] h = sym (zero-mul (length targets))
  long [] (r ∷ rows) h = absurd h
  long (s ∷ sources) [] h = absurd h
  long (s ∷ sources) (r ∷ rows) h =
      let row = AllZip-long _ targets r h.0 in let rest = long sources rows h.1 in
      length-append r (concat rows) ∙ grind (arith, row, rest)

  pub table_long : (sources codes : List ℕ) → AreTableCodes A g sources targets codes → length codes ≡ length sources * length targets
  table_long sources codes (rows, joined, all) = ap (λ (xs : List ℕ). length xs) joined ∙ long sources rows all
