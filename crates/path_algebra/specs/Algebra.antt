-- What a path algebra is, and what makes it lawful. After Carre, An algebra for network routing
-- problems (1971): choice is a total order here, and composition the extension of a value by one
-- arc.
use Rattle.path_algebra.specs.declared.name.AlgebraName.{AlgebraName}
use Rattle.std.specs.Prelude.{◌≡◌, ℕ, ◌<◌, ◌^◌, ◌⊎◌, Bool, IsTrue, Option, Some}

-- the name, the values of walks, how one more arc changes a value, which is no worse, and the codes
-- of values
pub record Algebra (V : Type 0) : Type 0 where
  pub name : AlgebraName
  pub is_value : V → Bool
  pub origin : V  -- of the walk of no arcs
  pub extend : V → ℕ → Option V  -- by an arc of this weight; none where it is refused
  pub no_worse : V → V → Bool
  pub code : V → ℕ
  pub value_of : ℕ → Option V

-- a total order, over the whole type
pub record IsOrder {V : Type 0} (no_worse : V → V → Bool) : Type 0 where
  pub total : (a b : V) → IsTrue (no_worse a b) ⊎ IsTrue (no_worse b a)
  pub transitive : (a b c : V) → IsTrue (no_worse a b) → IsTrue (no_worse b c) → IsTrue (no_worse a c)
  pub antisymmetric : (a b : V) → IsTrue (no_worse a b) → IsTrue (no_worse b a) → a ≡ b

-- the laws, for all values that `is_value` allows, all weights and all codes
pub record IsLawful {V : Type 0} (A : Algebra V) : Type 0 where
  pub origin_is_value : IsTrue (A.is_value A.origin)
  pub extend_is_value : (v : V) (w : ℕ) (x : V) → IsTrue (A.is_value v) → w < 2 ^ 32 → A.extend v w ≡ Some x →
      IsTrue (A.is_value x)
  pub ordered : IsOrder A.no_worse
  -- no arc makes a value better
  pub never_better : (v : V) (w : ℕ) (x : V) → IsTrue (A.is_value v) → w < 2 ^ 32 → A.extend v w ≡ Some x →
      IsTrue (A.no_worse v x)
  -- an arc that extends the worse value extends the better one too, to a value no worse
  pub monotone : (a b : V) (w : ℕ) (y : V) → IsTrue (A.is_value a) → IsTrue (A.is_value b) → w < 2 ^ 32 →
      IsTrue (A.no_worse a b) →
      A.extend b w ≡ Some y → (x : V) × (A.extend a w ≡ Some x) × IsTrue (A.no_worse x y)
  -- each value has a code of its own, and no other number stands for it
  pub code_fits : (v : V) → IsTrue (A.is_value v) → A.code v < 2 ^ 64
  pub value_of_code : (v : V) → IsTrue (A.is_value v) → A.value_of (A.code v) ≡ Some v
  pub code_of_value : (c : ℕ) (v : V) → c < 2 ^ 64 → A.value_of c ≡ Some v →
      IsTrue (A.is_value v) × (c ≡ A.code v)
