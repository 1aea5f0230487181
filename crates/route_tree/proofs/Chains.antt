-- Chains of parents.
use Rattle.route_tree.proofs.Words.{◌≡◌, ℕ, ◌+◌, ◌≤◌, List, [], ◌∷◌, ◌++◌, length, refl, ap, ◌∙◌, subst, Option, Some, None, reverse, same_some, Branches, hops_of, parent_of, IsLinkedAt, IsLinked, IsChain, IsRoute}
use Rattle.std.proofs.lemmas.List.{reverse-append}

-- a list that is being filled from the back: reversed, it leads from `at` to the target
pub record Climbing (t : Branches) (target at : ℕ) (items : List ℕ) : Type 0 where
  pub low : 1 ≤ at
  pub high : at ≤ length t.hops
  pub hops : ℕ
  pub at_hops : hops_of t at ≡ Some hops
  pub rest : List ℕ
  pub is : reverse items ≡ at ∷ rest
  pub chain : IsChain t at rest target

abbrev pub height : Option ℕ → ℕ
height None = 0
height (Some k) = k

linked : (t : Branches) (l m : Option ℕ) (k u : ℕ) → l ≡ Some k → m ≡ Some u → IsLinkedAt t l m → (1 ≤ u) × (u ≤ length t.hops) × ((j : ℕ) × (hops_of t u ≡ Some j) × (j + 1 ≡ k))
linked t None m k u e f h = let bad : None ≡ Some k = e in cc
linked t (Some j) None k u e f h = let bad : None ≡ Some u = f in cc
linked t (Some j) (Some w) k u e f h =
    let a : w ≡ u = same_some (Some w) w u refl f in
    let b : j ≡ k = same_some (Some j) j k refl e in
    subst (λ (x : ℕ). (1 ≤ x) × (x ≤ length t.hops) × ((i : ℕ) × (hops_of t x ≡ Some i) × (i + 1 ≡ k))) a
    (subst (λ (y : ℕ). (1 ≤ w) × (w ≤ length t.hops) × ((i : ℕ) × (hops_of t w ≡ Some i) × (i + 1 ≡ y))) b h)

rootless : (t : Branches) (l m : Option ℕ) (k : ℕ) → l ≡ Some k → m ≡ None → IsLinkedAt t l m → k ≡ 0
rootless t None m k e f h = let bad : None ≡ Some k = e in cc
rootless t (Some j) (Some w) k e f h = let bad : Some w ≡ None = f in cc
rootless t (Some j) None k e f h = same_some (Some j) k j e refl ∙ h

module _ (t : Branches) (is_linked : IsLinked t) (target at : ℕ) (items : List ℕ) (known : Climbing t target at items) where
  above : (u : ℕ) → parent_of t at ≡ Some u → (1 ≤ u) × (u ≤ length t.hops) × ((j : ℕ) × (hops_of t u ≡ Some j) × (j + 1 ≡ known.hops))
  above u e = linked t (hops_of t at) (parent_of t at) known.hops u known.at_hops e (is_linked.links at known.low known.high)

  pub climb : (u : ℕ) → parent_of t at ≡ Some u → Climbing t target u (items ++ u ∷ [])
  climb u e = let a = above u e in record {
    low = a.0;
    high = a.1;
    hops = a.2.0;
    at_hops = a.2.1;
    rest = at ∷ known.rest;
    is = reverse-append items (u ∷ []) ∙ ap (λ (xs : List ℕ). u ∷ xs) known.is;
    chain = (e, known.chain);
  }

  pub climb_hops : (u : ℕ) (e : parent_of t at ≡ Some u) → (climb u e).hops + 1 ≡ known.hops
  unfolding climb
  climb_hops u e = let one = (above u e).2.2 in one

  pub climbed : parent_of t at ≡ None → IsRoute t target (reverse items)
  climbed e = record {
    first = at;
    rest = known.rest;
    is = known.is;
    begins = known.at_hops ∙ ap (λ (k : ℕ). Some k) (rootless t (hops_of t at) (parent_of t at) known.hops known.at_hops e (is_linked.links at known.low known.high));
    chain = known.chain;
  }

pub climb_start : (t : Branches) (target : ℕ) (l : Option ℕ) → 1 ≤ target → target ≤ length t.hops → hops_of t target ≡ l → (l ≡ None → ⊥) → Climbing t target target (target ∷ [])
climb_start t target None low high e some = absurd (some refl)
climb_start t target (Some k) low high e some = record { low = low; high = high; hops = k; at_hops = e; rest = []; is = refl; chain = refl }
