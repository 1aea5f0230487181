-- How whole walks act on values. After Carre, An algebra for network routing problems (1971):
-- composition of routes.
use Rattle.std.specs.Prelude.{◌≡◌, ℕ, ◌<◌, ◌^◌, Bool, IsTrue, Option, Some, None}
use Rattle.path_algebra.specs.Algebra.{Algebra, IsOrder}

-- what a walk is worth to the values before it: an arc, a walk and another after it, how a walk
-- extends a value, and which of two walks is no worse
pub record Composition (V W : Type 0) : Type 0 where
  pub of_arc : ℕ → W  -- of the walk of one arc of this weight
  pub no_walk : W  -- of none, where there is no walk
  pub compose : W → W → W  -- of a walk and, after it, another
  pub apply : V → W → Option V  -- a value extended by a whole walk; none where it is refused
  pub no_worse : W → W → Bool

-- what an extension leaves, extended by one more walk
abbrev pub applied : {V W : Type 0} → Composition V W → Option V → W → Option V
applied C None a = None
applied C (Some x) a = C.apply x a

-- the laws, for all values that `is_value` allows and all weights: walks act on values as their
-- arcs do, one after the other, and a walk that is no worse leaves a value no worse
pub record IsComposition {V W : Type 0} (A : Algebra V) (C : Composition V W) : Type 0 where
  pub ordered : IsOrder C.no_worse
  pub apply_arc : (v : V) (w : ℕ) → IsTrue (A.is_value v) → w < 2 ^ 32 → C.apply v (C.of_arc w) ≡ A.extend v w
  pub no_walk_refused : (v : V) → IsTrue (A.is_value v) → C.apply v C.no_walk ≡ None
  pub apply_composed : (v : V) (a b : W) → IsTrue (A.is_value v) →
      C.apply v (C.compose a b) ≡ applied C (C.apply v a) b
  pub apply_is_value : (v : V) (a : W) (x : V) → IsTrue (A.is_value v) → C.apply v a ≡ Some x → IsTrue (A.is_value x)
  -- no walk makes a value better
  pub never_better : (v : V) (a : W) (x : V) → IsTrue (A.is_value v) → C.apply v a ≡ Some x → IsTrue (A.no_worse v x)
  -- where the worse walk extends a value the better one does too, to a value no worse
  pub better_walk : (v : V) (a b : W) (y : V) → IsTrue (A.is_value v) → IsTrue (C.no_worse a b) →
      C.apply v b ≡ Some y → (x : V) × (C.apply v a ≡ Some x) × IsTrue (A.no_worse x y)
  -- a walk that extends the worse value extends the better one too, to a value no worse
  pub monotone : (u v : V) (a : W) (y : V) → IsTrue (A.is_value u) → IsTrue (A.is_value v) → IsTrue (A.no_worse u v) →
      C.apply v a ≡ Some y → (x : V) × (C.apply u a ≡ Some x) × IsTrue (A.no_worse x y)
