-- Why no handle is opened over the factors of another one: the graph of the arcs is not factored
-- over the links.
use Rattle.diffuse_c.proofs.Words.{◌≡◌, ℕ, inl, inr, List, [], ◌∷◌, Option, Some, arith, subst, sym, ℤ, pos, IsOneOf, Shared, DiffuseArc, Fits, lent, IsReweighFault}
use Rattle.answer_lists.specs.Reweighing.{IsHeavy, IsRefusal}
use Rattle.diffuse_c.specs.Holding.{OfShared}

same_number : (n : ℤ) (i j : ℕ) → n ≡ pos i → n ≡ pos j → i ≡ j
same_number n i j a b = cc

-- one of four numbers is no other one
is_no_other : (i j k l m : ℕ) (n : ℤ) → IsOneOf (i ∷ j ∷ k ∷ l ∷ []) n → (i ≡ m → ⊥) → (j ≡ m → ⊥) → (k ≡ m → ⊥) → (l ≡ m → ⊥) → n ≡ pos m → ⊥
is_no_other i j k l m n (inl x) a b c d e = a (same_number n i m x e)
is_no_other i j k l m n (inr (inl x)) a b c d e = b (same_number n j m x e)
is_no_other i j k l m n (inr (inr (inl x))) a b c d e = c (same_number n k m x e)
is_no_other i j k l m n (inr (inr (inr (inl x)))) a b c d e = d (same_number n l m x e)
is_no_other i j k l m n (inr (inr (inr (inr none)))) a b c d e = none

listed : (n : ℤ) → IsOneOf (3 ∷ 8 ∷ 44 ∷ 45 ∷ []) n → IsOneOf (3 ∷ 8 ∷ 16 ∷ 17 ∷ 44 ∷ 45 ∷ []) n
listed n (inl x) = inl x
listed n (inr (inl x)) = inr (inl x)
listed n (inr (inr (inl x))) = inr (inr (inr (inr (inl x))))
listed n (inr (inr (inr (inl x)))) = inr (inr (inr (inr (inr (inl x)))))
listed n (inr (inr (inr (inr none)))) = absurd none

pub not_factored : (g : Shared) (arcs : List DiffuseArc) (n : ℤ) → Fits g.roads.vertices arcs → IsRefusal (lent g.roads.vertices arcs) g n → IsReweighFault g arcs n
not_factored g arcs n fits r =
    let no_limit : n ≡ pos 16 → ⊥ = is_no_other 3 8 44 45 16 n r.one_of (λ e. omega (arith, e)) (λ e. omega (arith, e)) (λ e. omega (arith, e)) (λ e. omega (arith, e)) in
    let no_vertex : n ≡ pos 17 → ⊥ = is_no_other 3 8 44 45 17 n r.one_of (λ e. omega (arith, e)) (λ e. omega (arith, e)) (λ e. omega (arith, e)) (λ e. omega (arith, e)) in
    record {
      one_of = listed n r.one_of;
      limit = (λ e. absurd (no_limit e), λ large. absurd (fits.small large));
      bad = (λ e. absurd (no_vertex e), λ bad. absurd (bad.1 fits.roads));
      roads = λ _. fits.roads;
      heavy = r.heavy;
      link = r.link;
    }

-- so it is said of the graph that a handle has
pub heavy_of : (shared : Option Shared) (g : Shared) (arcs : List DiffuseArc) (n : ℤ) → shared ≡ Some g → IsReweighFault g arcs n →
    OfShared shared (λ (h : Shared). n ≡ pos 8 → IsHeavy h (lent h.roads.vertices arcs))
heavy_of shared g arcs n is fault = subst (λ (r : Option Shared). OfShared r (λ (h : Shared). n ≡ pos 8 → IsHeavy h (lent h.roads.vertices arcs))) (sym is) fault.heavy
