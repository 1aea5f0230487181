-- The place of a number in an increasing list: a binary search finds it, or it follows from the
-- first number if all follow one another.
use Rattle.std.proofs.Common.{◌≡◌, ℕ, zero, suc, ◌+◌, ◌-◌, ◌<◌, ◌≤◌, ◌⊎◌, Result, Ok, Err, List, ◌∷◌, length, get_or, refl, sym, ap, ◌∙◌, arith}
use Rattle.std.specs.Prelude.{Contains}
use Rattle.shard_store.proofs.Words.{range_with_len, AllPairs-from_increasing}
use Rattle.std.specs.List.Sorted.{IsStrictlyIncreasing, IsBinarySearchResult}
use Rattle.std.specs.Ordering.{nat_cmp}
use Rattle.std.proofs.lemmas.Grind.{get_or_default_zero, same_number_lists}
use Rattle.std.proofs.lemmas.List.FromFn.{length-range_with_len, get_or-range_with_len}
use Rattle.road_graph.proofs.Lists.{found}

-- a binary search in an increasing list finds a number that the list has
pub found_increasing : (xs : List ℕ) (x : ℕ) (r : Result ℕ ℕ) (at : ℕ) → IsStrictlyIncreasing xs → Contains xs x →
    IsBinarySearchResult (λ y. nat_cmp y x) xs r → (r ≡ Ok at) ⊎ (r ≡ Err at) → (at < length xs) × (get_or xs at 0 ≡ x)
found_increasing xs x r at up = found xs x r at (λ i j less within. AllPairs-from_increasing xs up i j 0 less within)

-- d places later it is higher by d at least
climbs : (xs : List ℕ) → IsStrictlyIncreasing xs → (i d j : ℕ) → i + d ≡ j → j < length xs → get_or xs i 0 + d ≤ get_or xs j 0
climbs xs h i zero j e l = let q : i ≡ j = omega (arith, e) in let r = ap (λ k. get_or xs k 0) q in omega (arith, r)
climbs xs h i (suc d) zero e l = absurd (omega (arith, e))
climbs xs h i (suc d) (suc j) e l =
    let r = climbs xs h i d j (omega (arith, e)) (omega (arith, l)) in let s = AllPairs-from_increasing xs h j (suc j) 0 (omega arith) l in omega (arith, r, s)

-- where the first and the last are as far apart as there are places between, the numbers follow one
-- another
pub follow_first : (xs : List ℕ) (first last : ℕ) → IsStrictlyIncreasing xs → first ≡ get_or xs 0 1 → last ≡ get_or xs (length xs - 1) 0
    → first + length xs ≡ last + 1 → xs ≡ range_with_len first (length xs)
follow_first xs first last h low high far = same_number_lists xs (range_with_len first (length xs)) (sym (length-range_with_len first (length xs))) (λ k l.
    let a = climbs xs h 0 k k (omega arith) l in
    let b = climbs xs h k (length xs - 1 - k) (length xs - 1) (omega (arith, l)) (omega (arith, l)) in
    let c = get_or_default_zero xs 0 1 (omega (arith, l)) in
    let d = get_or-range_with_len first (length xs) k 0 l in
    omega (arith, a, b, c, d, low, high, far, l))

-- a number of a run is as far after the first place as it is above the number before the first; 0
-- is first
pub run_found : (first count v at : ℕ) → 1 ≤ first → Contains (0 ∷ range_with_len first count) v → (first ≤ v → at ≡ v - first + 1) → (v < first → at ≡ 0) →
    (at < length (0 ∷ range_with_len first count)) × (get_or (0 ∷ range_with_len first count) at 0 ≡ v)
run_found first count v at low (zero, l, e) behind before = let z = before (omega (arith, e, low)) in ((omega (arith, z)), ap (λ i. get_or (0 ∷ range_with_len first count) i 0) z ∙ e)
run_found first count v at low (suc j, l, e) behind before =
    let n = length-range_with_len first count in
    let m : j < count = omega (arith, l, n) in
    let r = get_or-range_with_len first count j v m in
    let z = behind (omega (arith, e, r)) in
    let k : at ≡ suc j = omega (arith, z, e, r) in
    ((omega (arith, k, l)), ap (λ i. get_or (0 ∷ range_with_len first count) i 0) k ∙ get_or-range_with_len first count j 0 m ∙ sym r ∙ e)

-- and the number at a place is that
pub run_read : (first count j v : ℕ) → j < length (0 ∷ range_with_len first count) → (j ≡ 0 → v ≡ 0) → (1 ≤ j → v ≡ first + (j - 1)) → v ≡ get_or (0 ∷ range_with_len first count) j 0
run_read first count zero v l entry behind = entry refl
run_read first count (suc j) v l entry behind =
    let n = length-range_with_len first count in let r = get_or-range_with_len first count j 0 (omega (arith, l, n)) in let b = behind (omega arith) in omega (arith, r, b)
