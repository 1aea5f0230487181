-- What a limit holds back is worse than the value that the limit extends.
use Rattle.station.proofs.Words.{◌≡◌, ◌⊎◌, ◌<◌, ◌≤◌, ℕ, Bool, Option, Some, List, [], ◌∷◌, length, refl, sym, ◌∙◌, subst, inl, inr, arith, Item, MessageOn, SignalOn, PartData, IsHeldBack, RunsAhead, SetupData}
use Rattle.std.specs.Prelude.{⊤, IsTrue, slice_index_or}
use Rattle.std.proofs.lemmas.Bool.{cases_Bool, cases_lt, false≢true}
use Rattle.path_algebra.specs.Algebra.{Algebra, IsOrder}
use Rattle.shard_store.specs.Queue.{IsWorseMessage, IsHeldBy}
use Rattle.post_floor.specs.declared.hints.Limit.{Limit}
use Rattle.post_floor.specs.Hints.{IsBestShown, IsLimit}
use Rattle.station.specs.Turn.{IsBehindOthers, IsAsFar}

module _ {V : Type 0} (order : V → V → Bool) (ordered : IsOrder order) where
  worse : (best value : V) → IsTrue (order best value) → (i : Item V) → IsWorseMessage order value i → IsWorseMessage order best i
  worse best value b (MessageOn a y) h = elim (cases_Bool (order y best)) [
    | inl t ↦ absurd (false≢true (sym h ∙ ordered.transitive y best value t b))
    | inr f ↦ f
  ]
  worse best value b (SignalOn a) h = absurd h

  pub all_worse : (best value : V) → IsTrue (order best value) → (is : List (Item V)) → IsHeldBy order value is → IsHeldBy order best is
  all_worse best value b is h = λ k d l. worse best value b (slice_index_or is k d) (h k d l)

-- what is held back by the best value shown of the others, after one more arc, is behind the others
pub behind : {S V : Type 0} (A : Algebra V) (order : V → V → Bool) → A.no_worse ≡ order → IsOrder order → (p q : PartData S V) → q.setup ≡ p.setup → q.shard ≡ p.shard → (l : Limit V) (limit : Option V) → limit ≡ Some l.value
    → IsTrue (order l.best l.value) → (ahead : Option ℕ) → (w : ℕ) × (ahead ≡ Some w) × IsLimit A (λ _ _. ⊤) p.setup.plan.shards p.shard w (Some l) → IsHeldBack order limit q → IsBehindOthers A ahead limit q
behind {S} {V} A order e ordered p q t s l limit f o ahead (w, given, is) b = record {
  held = subst (λ c. IsHeldBack c limit q) (sym e) b;
  best = l.best;
  shown = subst (λ k. IsBestShown A (λ _ _. ⊤) q.setup.plan.shards k (Some l.best)) (sym s)
      (subst (λ (u : SetupData S). IsBestShown A (λ _ _. ⊤) u.plan.shards p.shard (Some l.best)) (sym t) is.0);
  weight = w;
  weight_is = given;
  limit_is = is.1 ∙ sym f;
  behind = subst (λ c. IsHeldBy c l.best q.queue) (sym e) (all_worse order ordered l.best l.value o q.queue (subst (λ v. IsHeldBack order v q) f b));
}

-- nothing waits, or what waits is held back
pub settle : {S V : Type 0} (A : Algebra V) (p : PartData S V) (handled budget : ℕ) (held : Bool) (limit : Option V) (ahead : Option ℕ) → handled ≤ budget → (handled < budget → 0 < length p.queue → IsTrue held)
    → (handled ≡ budget) ⊎ ((p.queue ≡ []) ⊎ (IsBehindOthers A ahead limit p ⊎ RunsAhead A ahead p)) → IsAsFar A budget handled held limit ahead p
settle A p handled budget held limit ahead within h (inl e) = inl e
settle A p handled budget held limit ahead within h (inr (inl e)) = inr (inl e)
settle {S} {V} A p handled budget held limit ahead within h (inr (inr b)) = go p.queue refl
  where
    go : (is : List (Item V)) → p.queue ≡ is → IsAsFar A budget handled held limit ahead p
    go [] e = inr (inl e)
    go (i ∷ is) e = elim (cases_lt handled budget) [
      | inr l ↦ inl (omega (arith, within, l))
      | inl l ↦ inr (inr (h l (subst (λ (js : List (Item V)). 0 < length js) (sym e) (omega arith)), b))
    ]
