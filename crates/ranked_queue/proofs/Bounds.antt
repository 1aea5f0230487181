-- An entry bounds all that wait exactly if none of them comes before it.
use Rattle.std.proofs.Common.{◌≡◌, ℕ, ◌≤◌, Bool, true, false, cond, List, refl}
use Rattle.std.proofs.lemmas.List.Elements.{All-contains, All-from_recursion, recursion_from_All, All-weaker, All-contains_itself}
use Rattle.std.specs.Prelude.{IsTrue, Contains}
use Rattle.std.specs.BinaryHeap.{IsUpperBound}
use Rattle.std.specs.Ordering.{is_lt}
use Rattle.std.specs.declared.cmp.Ordering.TheVariants.{Less, Equal, Greater}
use Rattle.ranked_queue.specs.Order.{by_number, told, tells, ranked_cmp}

pub not_less : (p q : Bool) → is_lt (cond p (cond q Equal Greater) Less) ≡ false → IsTrue p
not_less true q h = refl
not_less false q h = cc

not_less_if : (p q : Bool) → IsTrue p → is_lt (cond p (cond q Equal Greater) Less) ≡ false
not_less_if true true h = refl
not_less_if true false h = refl
not_less_if false q h = cc

module _ {K V : Type 0} (value : K → V) (rank : K → ℕ) (no_worse : V → V → Bool) (items : List K) (top : K) where
  abbrev passed : K → Type 0
  passed e = is_lt (ranked_cmp value rank no_worse top e) ≡ false

  -- no entry is better than one that bounds them all, and none that is as good has a lesser rank
  pub bound_is_ahead : IsUpperBound (ranked_cmp value rank no_worse) top items → (e : K) → Contains items e →
      IsTrue (no_worse (value top) (value e)) × (IsTrue (no_worse (value e) (value top)) → rank top ≤ rank e)
  bound_is_ahead upper e h =
      let p : passed e = All-contains passed items e (All-from_recursion passed items upper) h in
      told no_worse (value top, rank top) (value e, rank e)
      (not_less (by_number no_worse (value top, rank top) (value e, rank e)) (by_number no_worse (value e, rank e) (value top, rank top)) p)

  pub ahead_is_bound : ((e : K) → Contains items e → IsTrue (no_worse (value top) (value e)) × (IsTrue (no_worse (value e) (value top)) → rank top ≤ rank e)) →
      IsUpperBound (ranked_cmp value rank no_worse) top items
  ahead_is_bound ahead =
      recursion_from_All passed items (All-weaker (Contains items) passed (λ e h.
      let a = ahead e h in
      not_less_if _ _ (tells no_worse (value top, rank top) (value e, rank e) a.0 a.1)) items (All-contains_itself items))
