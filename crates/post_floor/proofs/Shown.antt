-- The best of what a source shows, one shard after the other.
use Rattle.std.proofs.Common.{◌≡◌, ◌≢◌, ℕ, ◌+◌, ◌<◌, Bool, true, false, Option, Some, None, refl, sym, ◌∙◌, subst, inl, inr, arith}
use Rattle.std.specs.Prelude.{IsTrue, IfSome, if◌then◌else◌}
use Rattle.std.proofs.lemmas.Bool.{cases_eq, false≢true}
use Rattle.path_algebra.specs.Algebra.{Algebra, IsOrder}
use Rattle.path_algebra.specs.Walks.{better_label}
use Rattle.shard_store.specs.Queue.{IsAsGood}
use Rattle.post_floor.specs.Hints.{IsShown, IsBestShown}

module _ {V : Type 0} (A : Algebra V) (ordered : IsOrder A.no_worse) (shows : ℕ → ℕ → Type 0) (own : ℕ) where
  abbrev IsShownBelow : ℕ → V → Type 0
  IsShownBelow n x = (shard : ℕ) × (shard < n) × (shard ≢ own) × IsShown A shows shard (Some x)

  still_below : (k : ℕ) (o : Option V) → IfSome o (IsShownBelow k) → IfSome o (IsShownBelow (k + 1))
  still_below k None h = tt
  still_below k (Some x) h = (h.0, (omega (arith, h.1)), h.2, h.3)

  self : (x : V) → IsTrue (A.no_worse x x)
  self x = elim (ordered.total x x) [ inl t ↦ t | inr t ↦ t ]

  none_as_good : (x : V) (o : Option V) → IfSome o (IsAsGood A.no_worse None) → IfSome o (IsAsGood A.no_worse (Some x))
  none_as_good x None h = tt
  none_as_good x (Some y) h = absurd h

  as_good : (x y : V) → IsTrue (A.no_worse x y) → (o : Option V) → IfSome o (IsAsGood A.no_worse (Some y)) → IfSome o (IsAsGood A.no_worse (Some x))
  as_good x y t None h = tt
  as_good x y t (Some z) h = ordered.transitive x y z t h

  pub none_shown : IsBestShown A shows 0 own None
  none_shown = record { shown = tt; least = λ shard l other. absurd (omega (arith, l)) }

  pub past_own : (k : ℕ) (best : Option V) → k ≡ own → IsBestShown A shows k own best → IsBestShown A shows (k + 1) own best
  past_own k best e B = record { shown = still_below k best B.shown; least = λ shard l other. B.least shard (omega (arith, l, e, other)) other }

  -- what is shown of the shard k, and what was the best of those before
  past : (k : ℕ) (best o : Option V) → IsShown A shows k o → (r : Option V) → IfSome o (IsAsGood A.no_worse r)
      → ((p : Option V) → IfSome p (IsAsGood A.no_worse best) → IfSome p (IsAsGood A.no_worse r)) → IfSome r (IsShownBelow (k + 1)) → IsBestShown A shows k own best → IsBestShown A shows (k + 1) own r
  past k best o s r here before shown B = record {
    shown = shown;
    least = λ shard l other. elim (cases_eq shard k) [
      | inl e ↦ (o, subst (λ z. IsShown A shows z o) (sym e) s, here)
      | inr n ↦ (let b = B.least shard (omega (arith, l, n)) other in (b.0, b.1, before b.0 b.2))
    ];
  }

  pub past_other : (k : ℕ) (best o : Option V) → k ≢ own → IsShown A shows k o → IsBestShown A shows k own best → IsBestShown A shows (k + 1) own (better_label A.no_worse best o)
  past_other k best None ne s B = past k best None s best tt (λ p h. h) (still_below k best B.shown) B
  past_other k None (Some z) ne s B = past k None (Some z) s (Some z) (self z) (none_as_good z) (k, omega arith, ne, s) B
  past_other k (Some y) (Some z) ne s B = go (A.no_worse y z) refl
    where
      go : (b : Bool) → A.no_worse y z ≡ b → IsBestShown A shows (k + 1) own (Some (if b then y else z))
      go true t = past k (Some y) (Some z) s (Some y) t (λ p h. h) (still_below k (Some y) B.shown) B
      go false f = past k (Some y) (Some z) s (Some z) (self z)
          (as_good z y (elim (ordered.total y z) [ inl t ↦ absurd (false≢true (sym f ∙ t)) | inr t ↦ t ])) (k, omega arith, ne, s) B
