-- Best labels from the first sources of a list, and those from the next, merge to those from one
-- source more.
use Rattle.batch_run.proofs.Words.{arith, ◌≡◌, ℕ, ◌+◌, ◌<◌, ◌≤◌, List, [], ◌∷◌, ◌++◌, length, get_or, take, ap, sym, ◌∙◌, Option, Bool, take_more, GraphData}
use Rattle.path_algebra.specs.Algebra.{Algebra, IsLawful}
use Rattle.path_algebra.specs.Walks.{AreBest, label_of, better_label}
use Rattle.path_algebra.proofs.Least.{merged_are_best}

pub source_more : {V : Type 0} (A : Algebra V) (lawful : IsLawful A) (g : GraphData) (order : V → V → Bool) (same : A.no_worse ≡ order) (xs : List ℕ) (i x : ℕ) (ls ms ns : List (Option V)) →
    i < length xs → x ≡ get_or xs i x → AreBest A g (take i xs) ls → AreBest A g (x ∷ []) ms → length ns ≡ length ls →
    ((v : ℕ) → label_of ns v ≡ better_label order (label_of ls v) (label_of ms v)) → AreBest A g (take (i + 1) xs) ns
source_more A lawful g order same xs i x ls ms ns lt is h k n eq =
    let longer : take (i + 1) xs ≡ take i xs ++ x ∷ [] = take_more xs i x lt ∙ ap (λ (y : ℕ). take i xs ++ y ∷ []) (sym is) in
    rw longer (merged_are_best A lawful g (take i xs) (x ∷ []) ls ms ns h k n (rw same eq))

pub first_source : (xs : List ℕ) (x : ℕ) → 1 ≤ length xs → x ≡ get_or xs 0 x → take 1 xs ≡ x ∷ []
first_source [] x some is = absurd (omega (arith, some))
first_source (y ∷ ys) x some is = ap (λ (z : ℕ). z ∷ []) (sym is)
