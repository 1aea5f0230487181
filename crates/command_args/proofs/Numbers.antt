-- Lists that agree place by place, one place after the other.
use Rattle.std.proofs.Common.{ℕ, ◌+◌, ◌<◌, List, [], ◌∷◌, ◌++◌, get_or, length, map, subst, sym, take}
use Rattle.std.proofs.lemmas.List.{take_more}
use Rattle.std.specs.List.{AllZip}

pub zip_push : {A B : Type 0} (R : A → B → Type 0) (xs : List A) (ys : List B) (x : A) (y : B) → AllZip R xs ys → R x y
    → AllZip R (xs ++ x ∷ []) (ys ++ y ∷ [])
zip_push R [] [] x y so_far here = (here, tt)
zip_push R [] (b ∷ ys) x y so_far here = elim so_far [ ]
zip_push R (a ∷ xs) [] x y so_far here = elim so_far [ ]
zip_push R (a ∷ xs) (b ∷ ys) x y so_far here = (so_far.0, zip_push R xs ys x y so_far.1 here)

pub zip_more : {A B : Type 0} (R : A → B → Type 0) (xs : List A) (ys : List B) (i : ℕ) (d : A) (y : B) → i < length xs
    → AllZip R (take i xs) ys → R (get_or xs i d) y → AllZip R (take (i + 1) xs) (ys ++ y ∷ [])
zip_more R xs ys i d y lt so_far here =
    subst (λ zs. AllZip R zs (ys ++ y ∷ [])) (sym (take_more xs i d lt)) (zip_push R (take i xs) ys (get_or xs i d) y so_far here)

pub zip_map : {A B C : Type 0} (R : C → B → Type 0) (f : A → C) (xs : List A) (ys : List B) → AllZip (λ x y. R (f x) y) xs ys → AllZip R (map f xs) ys
zip_map R f [] [] h = tt
zip_map R f [] (y ∷ ys) h = elim h [ ]
zip_map R f (x ∷ xs) [] h = elim h [ ]
zip_map R f (x ∷ xs) (y ∷ ys) h = (h.0, zip_map R f xs ys h.1)
