-- Items that are taken under a limit.
use Rattle.shard_part.proofs.Words.{◌≡◌, ℕ, ◌+◌, Bool, Option, Some, None, List, [], ◌∷◌, ◌++◌, length, length-append, arith, refl, sym, ap, ◌∙◌, subst, inl, inr, cases_Bool, All-cons, IsPermutation, Item, MessageOn, SignalOn, Network, CoreState, QueueOrder, Arrival, BestFirst, network_of, PartData, state_in, GoesAtOnce, IsInTurn, HandledItem, HandledAll, All-permutation, Algebra, HandledAtOnce, HandledRun}
use Rattle.std.proofs.lemmas.List.Sorted.{IsPermutation-sym}
use Rattle.path_algebra.specs.Algebra.{IsOrder}
use Rattle.shard_store.specs.Queue.{IsWorseMessage, IsHeldBy}
use Rattle.shard_store.proofs.Holding.{all_worse}
use Rattle.shard_part.specs.Part.{HandledNext, HandledMany, IsHeldBack, IsWithin, HandledAllWithin, HandledWithin}
use Rattle.shard_part.proofs.Showing.{AllLawful}

-- if not all that waits is worse than the limit, the item whose turn it is may be taken
one_within : {V : Type 0} (A : Algebra V) (N : Network) → IsOrder A.no_worse → (o : QueueOrder) (limit : Option V) (d : CoreState V) (waiting : List (Item V)) (i : Item V) (rest : List (Item V))
    → IsPermutation waiting (i ∷ rest) → IsInTurn A N o d waiting i rest → (o ≡ BestFirst → (x : V) → limit ≡ Some x → IsHeldBy A.no_worse x waiting → ⊥) → IsWithin A N o limit d i
one_within A N R Arrival limit d waiting i rest p t h = tt
one_within A N R BestFirst None d waiting i rest p t h = tt
one_within A N R BestFirst (Some x) d waiting i rest p (inl t) h = inl t
one_within A N R BestFirst (Some x) d waiting (SignalOn a) rest p (inr t) h = absurd t
one_within {V} A N R BestFirst (Some x) d waiting (MessageOn a y) rest p (inr t) h = elim (cases_Bool (A.no_worse y x)) [
  | inl b ↦ inr b
  | inr worse ↦ (let P = IsWorseMessage A.no_worse x in absurd (h refl x refl (All-permutation P (MessageOn a y ∷ rest) waiting (IsPermutation-sym waiting (MessageOn a y ∷ rest) p)
      (All-cons P (MessageOn a y) rest worse (all_worse A.no_worse R a y x worse rest t)))))
]

module _ {S V : Type 0} (meaning : S → Algebra V) (order : V → V → Bool) (one_order : (a : S) → (meaning a).no_worse ≡ order) (L : AllLawful meaning) (limit : Option V) where
  held_by : (p : PartData S V) (o : Option V) (x : V) → o ≡ Some x → IsHeldBy (meaning p.setup.diffusion.algebra).no_worse x p.queue → IsHeldBack order o p
  held_by p None x e h = absurd cc
  held_by p (Some y) x e h = subst (λ (z : V). IsHeldBy order z p.queue) (let q : x ≡ y = cc in q) (subst (λ w. IsHeldBy w x p.queue) (one_order p.setup.diffusion.algebra) h)

  more_within : (items : List (Item V)) (i : Item V) (p m q : PartData S V) → HandledAllWithin meaning limit p items m → HandledItem meaning m i q
      → IsWithin (meaning m.setup.diffusion.algebra) (network_of m.setup) m.setup.order limit (state_in m) i → HandledAllWithin meaning limit p (items ++ i ∷ []) q
  more_within [] i p m q e T w = subst (λ (u : PartData S V). HandledAllWithin meaning limit u (i ∷ []) q) (sym e) (q, T, w, refl)
  more_within (j ∷ items) i p m q (u, one, here, rest) T w = (u, one, here, more_within items i u m q rest T w)

  -- one item more was taken, since not all was held back
  next_within : (p m q : PartData S V) (n : ℕ) → HandledWithin meaning limit p n m → HandledNext meaning m q → (m.setup.order ≡ BestFirst → IsHeldBack order limit m → ⊥)
      → HandledWithin meaning limit p (n + 1) q
  next_within p m q n (items, l, T) (i, R) free = let A = meaning m.setup.diffusion.algebra in (
    items ++ i ∷ [],
    length-append items (i ∷ []) ∙ ap (λ k. k + 1) l,
    more_within items i p m q T R (one_within A (network_of m.setup) (L m.setup.diffusion.algebra).ordered m.setup.order limit (state_in m) m.queue i R.rest R.left R.in_turn
        (λ o x e h. free o (held_by m limit x e h))),
  )

  goes_within : (A : Algebra V) (N : Network) (o : QueueOrder) (l : Option V) (d : CoreState V) (i : Item V) → GoesAtOnce A N d i → IsWithin A N o l d i
  goes_within A N Arrival l d i g = tt
  goes_within A N BestFirst None d i g = tt
  goes_within A N BestFirst (Some x) d i g = inl g

  others_within : (is : List (Item V)) (p m q : PartData S V) (n : ℕ) → HandledWithin meaning limit p n m → HandledAtOnce meaning m is q → HandledWithin meaning limit p (n + length is) q
  others_within [] p m q n (items, l, T) e = (items, (let z = l in omega (arith, z)), subst (HandledAllWithin meaning limit p items) e T)
  others_within (i ∷ is) p m q n (items, l, T) (w, one, g, rest) =
      let R = others_within is p w q (n + 1) (
        items ++ i ∷ [],
        length-append items (i ∷ []) ∙ ap (λ k. k + 1) l,
        more_within items i p m w T one (goes_within (meaning m.setup.diffusion.algebra) (network_of m.setup) m.setup.order limit (state_in m) i g),
      ) rest in
      (R.0, (let z = R.1 in omega (arith, z)), R.2)

  -- an item more was taken, since not all was held back, and others that go at once
  pub run_within : (p m q : PartData S V) (n k : ℕ) → HandledWithin meaning limit p n m → HandledRun meaning m k q → (m.setup.order ≡ BestFirst → IsHeldBack order limit m → ⊥)
      → HandledWithin meaning limit p (n + k) q
  run_within p m q n k H (w, next, (is, l, rest)) free = let R = others_within is p w q (n + 1) (next_within p m w n H next free) rest in
      (R.0, (let z = R.1 in omega (arith, z, l)), R.2)

module _ {S V : Type 0} (meaning : S → Algebra V) (limit : Option V) where
  each_of : (items : List (Item V)) (p q : PartData S V) → HandledAllWithin meaning limit p items q → HandledAll meaning p items q
  each_of [] p q e = e
  each_of (i ∷ items) p q (m, T, w, rest) = (m, T, each_of items m q rest)

  -- within a limit or not, they were taken
  pub many_of : (p q : PartData S V) (n : ℕ) → HandledWithin meaning limit p n q → HandledMany meaning p n q
  many_of p q n (items, l, T) = (items, l, each_of items p q T)
