-- What is worse than a limit: all that is no better than something worse, and what is on top of
-- what is. And what is the best value that waits.
use Rattle.shard_store.proofs.Words.{◌≡◌, ℕ, ◌<◌, Option, Some, None, List, [], ◌∷◌, ◌++◌, length, map, Bool, true, false, refl, sym, ◌∙◌, subst, inl, inr, arith, cases_Bool, false≢true, Item, here, Ranked}
use Rattle.path_algebra.specs.Algebra.{IsOrder}
use Rattle.scholten_core.specs.declared.item.Item.TheVariants.{Message as MessageOn, Signal as SignalOn}
use Rattle.std.specs.Prelude.{All, Contains, IfSome, if◌then◌else◌, slice_index_or}
use Rattle.path_algebra.specs.Walks.{better_label}
use Rattle.std.proofs.lemmas.List.Elements.{All-nil, All-cons, All-head, All-tail, All-append, Contains-append_left, Contains-append_right}
use Rattle.shard_store.specs.Queue.{ranked_item, IsNoWorseOn, IsWorseMessage, IsHeldBy, IsCovered, IsBestWaiting}

module _ {V : Type 0} (no_worse : V → V → Bool) (order : IsOrder no_worse) (a : ℕ) (x limit : V) (worse : no_worse x limit ≡ false) where
  one_worse : (i : Item V) → IsNoWorseOn no_worse a x i → IsWorseMessage no_worse limit i
  one_worse (MessageOn b y) h = elim (cases_Bool (no_worse y limit)) [
    | inl t ↦ absurd (false≢true (sym worse ∙ order.transitive x y limit h.0 t))
    | inr f ↦ f
  ]
  one_worse (SignalOn b) h = absurd h

  pub all_worse : (is : List (Item V)) → All (IsNoWorseOn no_worse a x) is → IsHeldBy no_worse limit is
  all_worse is h = λ k d l. one_worse (slice_index_or is k d) (h k d l)

-- if all ranked messages are worse than a limit, the one on top is
pub top_worse : {S V : Type 0} (no_worse : V → V → Bool) (limit : V) (top : Ranked S ℕ V) (ms : List (Ranked S ℕ V)) → 0 < length ms
    → top ≡ slice_index_or ms 0 top → IsHeldBy no_worse limit (map ranked_item ms) → no_worse top.value limit ≡ false
top_worse no_worse limit top [] l e h = absurd (omega (arith, l))
top_worse {S} {V} no_worse limit top (m ∷ ms) l e h = subst (λ (z : Ranked S ℕ V). no_worse z.value limit ≡ false) (sym e)
    (All-head (IsWorseMessage no_worse limit) (ranked_item m) (map ranked_item ms) h)

-- what holds of all of two lists holds of all of each
module _ {X : Type 0} (P : X → Type 0) where
  pub all_first : (xs ys : List X) → All P (xs ++ ys) → All P xs
  all_first [] ys h = All-nil P
  all_first (x ∷ xs) ys h = All-cons P x xs (All-head P x (xs ++ ys) h) (all_first xs ys (All-tail P x (xs ++ ys) h))

  pub all_second : (xs ys : List X) → All P (xs ++ ys) → All P ys
  all_second [] ys h = h
  all_second (x ∷ xs) ys h = all_second xs ys (All-tail P x (xs ++ ys) h)

-- the best value that waits, as more items come
module _ {V : Type 0} (no_worse : V → V → Bool) where
  each_covered : (o r : Option V) → ((i : Item V) → IsCovered no_worse o i → IsCovered no_worse r i) → (is : List (Item V)) → All (IsCovered no_worse o) is → All (IsCovered no_worse r) is
  each_covered o r f is h = λ k d l. f (slice_index_or is k d) (h k d l)

  no_message : (r : Option V) (i : Item V) → IsCovered no_worse None i → IsCovered no_worse r i
  no_message r (MessageOn b y) h = absurd h
  no_message r (SignalOn b) h = tt

  still_waits : (waiting : List (Item V)) (i : Item V) (o : Option V) → IfSome o (λ x. (a : ℕ) × Contains waiting (MessageOn a x)) → IfSome o (λ x. (a : ℕ) × Contains (waiting ++ i ∷ []) (MessageOn a x))
  still_waits waiting i None h = tt
  still_waits waiting i (Some x) h = (h.0, Contains-append_left waiting (i ∷ []) (MessageOn h.0 x) h.1)

  with_one : (waiting : List (Item V)) (i : Item V) (o : Option V) → All (IsCovered no_worse o) waiting → IsCovered no_worse o i → All (IsCovered no_worse o) (waiting ++ i ∷ [])
  with_one waiting i o h one = All-append (IsCovered no_worse o) waiting (i ∷ []) h (All-cons (IsCovered no_worse o) i [] one (All-nil (IsCovered no_worse o)))

  pub signal_more : (waiting : List (Item V)) (a : ℕ) (o : Option V) → IsBestWaiting no_worse waiting o → IsBestWaiting no_worse (waiting ++ SignalOn a ∷ []) o
  signal_more waiting a o h = record { waits = still_waits waiting (SignalOn a) o h.waits; least = with_one waiting (SignalOn a) o h.least tt }

  pub message_more : IsOrder no_worse → (waiting : List (Item V)) (a : ℕ) (x : V) (o : Option V) → IsBestWaiting no_worse waiting o → IsBestWaiting no_worse (waiting ++ MessageOn a x ∷ []) (better_label no_worse o (Some x))
  message_more order waiting a x None h = record {
    waits = (a, Contains-append_right waiting (MessageOn a x ∷ []) (MessageOn a x) (here (MessageOn a x) []));
    least = with_one waiting (MessageOn a x) (Some x) (each_covered None (Some x) (no_message (Some x)) waiting h.least) (elim (order.total x x) [ inl t ↦ t | inr t ↦ t ]);
  }
  message_more order waiting a x (Some y) h = go (no_worse y x) refl
    where
      worse : no_worse y x ≡ false → (i : Item V) → IsCovered no_worse (Some y) i → IsCovered no_worse (Some x) i
      worse f (MessageOn b z) c = elim (order.total x y) [ inl t ↦ order.transitive x y z t c | inr t ↦ absurd (false≢true (sym f ∙ t)) ]
      worse f (SignalOn b) c = tt

      go : (b : Bool) → no_worse y x ≡ b → IsBestWaiting no_worse (waiting ++ MessageOn a x ∷ []) (Some (if b then y else x))
      go true e = record { waits = still_waits waiting (MessageOn a x) (Some y) h.waits; least = with_one waiting (MessageOn a x) (Some y) h.least e }
      go false e = record {
        waits = (a, Contains-append_right waiting (MessageOn a x ∷ []) (MessageOn a x) (here (MessageOn a x) []));
        least = with_one waiting (MessageOn a x) (Some x) (each_covered (Some y) (Some x) (worse e) waiting h.least) (elim (order.total x x) [ inl t ↦ t | inr t ↦ t ]);
      }

  -- the value on top is that of the best ranked message
  pub top_waits : {S : Type 0} (top : Ranked S ℕ V) (ms : List (Ranked S ℕ V)) → 0 < length ms → top ≡ slice_index_or ms 0 top
      → All (IsNoWorseOn no_worse top.rank top.value) (map ranked_item ms) → IsBestWaiting no_worse (map ranked_item ms) (Some top.value)
  top_waits top [] l e h = absurd (omega (arith, l))
  top_waits {S} top (m ∷ ms) l e h = record {
    waits = (top.rank, subst (λ (z : Ranked S ℕ V). Contains (map ranked_item (m ∷ ms)) (MessageOn z.rank z.value)) (sym e) (here (ranked_item m) (map ranked_item ms)));
    least = λ k d l. one (slice_index_or (map ranked_item (m ∷ ms)) k d) (h k d l);
  }
    where
      one : (i : Item V) → IsNoWorseOn no_worse top.rank top.value i → IsCovered no_worse (Some top.value) i
      one (MessageOn b y) c = c.0
      one (SignalOn b) c = tt

  pub none_waits : (is : List (Item V)) → is ≡ [] → IsBestWaiting no_worse is None
  none_waits is e = record { waits = tt; least = subst (All (IsCovered no_worse None)) (sym e) (All-nil (IsCovered no_worse None)) }
