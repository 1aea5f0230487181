-- One number for hops and a place orders entries as first the hops do, and then the places.
use Rattle.tree_search.proofs.Words.{ℕ, ◌+◌, ◌*◌, ◌<◌, ◌≤◌, Bool, List, arith, Contains, IsUpperBound, ranked_cmp, by_number, told, tells}
use Rattle.ranked_queue.proofs.Bounds.{ahead_is_bound, bound_is_ahead}

no_more_hops : (h h' p p' : ℕ) → h * 4294967296 + p ≤ h' * 4294967296 + p' → p' < 4294967296 → h ≤ h'
no_more_hops h h' p p' l low = omega (arith, l, low)

no_later_place : (h h' p p' : ℕ) → h * 4294967296 + p ≤ h' * 4294967296 + p' → h' ≤ h → p ≤ p'
no_later_place h h' p p' l back = omega (arith, l, back)

-- the first entry by value and number is the first by value, hops and place
pub first_of_key : {K V : Type 0} (key : K → V × ℕ) (place : K → ℕ) (no_worse : V → V → Bool) (items : List K) (top : K) →
    IsUpperBound (ranked_cmp (λ o. (key o).0) (λ o. (key o).1 * 4294967296 + place o) no_worse) top items → ((e : K) → Contains items e → place e < 4294967296) →
    IsUpperBound (ranked_cmp key place (by_number no_worse)) top items
first_of_key key place no_worse items top upper low =
    ahead_is_bound key place (by_number no_worse) items top (λ e h.
    let a = bound_is_ahead (λ o. (key o).0) (λ o. (key o).1 * 4294967296 + place o) no_worse items top upper e h in (
      tells no_worse (key top) (key e) a.0 (λ b. no_more_hops (key top).1 (key e).1 (place top) (place e) (a.1 b) (low e h)),
      λ b.
          let s = told no_worse (key e) (key top) b in
          no_later_place (key top).1 (key e).1 (place top) (place e) (a.1 s.0) (s.1 a.0),
    ))
