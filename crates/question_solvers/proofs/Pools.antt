-- What the searchers of a pool keep.
use borrow.Rule.Slice.PartMut.{put_mid}
use Rattle.std.proofs.Common.{arith, ◌≡◌, ℕ, List, ◌++◌, length, take, drop, All}
use Rattle.std.proofs.lemmas.List.{length-drop}
use Rattle.std.proofs.lemmas.List.Elements.{All-append, All-drop, All-take}
use Rattle.question_solvers.proofs.Words.{GraphData, IsPoolOf, PairSolver}

-- all of a pool are of the graph
pub pool_over : {S V : Type 0} (algebra : S) (g : GraphData) (pool : List (PairSolver S V)) → IsPoolOf algebra g pool → All (λ s. s.searcher.roads ≡ g) pool
pool_over algebra g pool each = λ k d low. (each k d low).over

-- what holds of all of a list, and of all that is written over a part of it, holds of all that it
-- has then
pub put_all : {X : Type 0} (P : X → Type 0) (a n : ℕ) (xs ys : List X) → All P xs → All P ys → All P (put_mid a n xs ys)
put_all P a n xs ys old new = All-append P (take a xs) (ys ++ drop n (drop a xs)) (All-take P a xs old) (All-append P ys (drop n (drop a xs)) new (All-drop P n (drop a xs) (All-drop P a xs old)))

-- so it does of a vector whose slice was written
pub stored_all : {X : Type 0} (P : X → Type 0) (n : ℕ) (xs ys : List X) → All P xs → All P ys → All P (take n (ys ++ drop (length ys) xs))
stored_all P n xs ys old new = All-take P n (ys ++ drop (length ys) xs) (All-append P ys (drop (length ys) xs) new (All-drop P (length ys) xs old))

-- and if all was written, of nothing else
pub stored_over : {X : Type 0} (P : X → Type 0) (n : ℕ) (xs ys : List X) → length ys ≡ length xs → All P ys → All P (take n (ys ++ drop (length ys) xs))
stored_over P n xs ys many new = All-take P n (ys ++ drop (length ys) xs) (All-append P ys (drop (length ys) xs) new (λ k d low. absurd (let e = length-drop (length ys) xs in omega (arith, low, many, e))))
