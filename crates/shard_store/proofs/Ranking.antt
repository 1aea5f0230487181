-- The lists of a queue as one: the newest item leaves or is ranked, and the best message leaves.
use Rattle.shard_store.proofs.Words.{◌≡◌, ◌++◌, ◌∷◌, [], List, Bool, true, false, Option, Some, None, refl, sym, subst, ap, ◌∙◌, ℕ, zero, suc, ◌+◌, ◌-◌, ◌<◌, ◌≤◌, length, length-append, append_assoc, arith, map, drop, leb, length-map, append-nil, All-nil, All-cons, IsPermutation, Item, Ranked, counted}
use Rattle.std.specs.Prelude.{IfSome, IsSome, IsOk, OnOk, All, slice_get, Vec, vec_capacity}
use Rattle.std.specs.Option.{option_to_list}
use Rattle.std.specs.declared.cmp.Ordering.{Ordering}
use Rattle.std.specs.BinaryHeap.{IsUpperBound, KeepsHeap}
use Rattle.std.specs.declared.result.Result.{Result}
use Rattle.std.specs.declared.result.Result.TheVariants.{Ok, Err}
use Rattle.std.proofs.lemmas.List.Sorted.{IsPermutation-append, IsPermutation-map, IsPermutation-refl, IsPermutation-to_front, IsPermutation-trans}
use Rattle.shard_store.specs.Queue.{Line, line, Room, IsItemQueue, ranked_item, IsNewest, IsNoWorseOn, IsBestMessage}
use Rattle.ranked_queue.specs.Order.{ranked_cmp, by_number, told}
use Rattle.ranked_queue.proofs.Bounds.{not_less}
use Rattle.shard_store.proofs.Totals.{in_one, in_other, length_permutation}
use Rattle.shard_store.specs.declared.queue_order.QueueOrder.{QueueOrder}
use Rattle.shard_store.specs.declared.queue_order.QueueOrder.TheVariants.{Arrival, BestFirst}

module _ {X : Type 0} where
  last_split : (xs : List X) (x : X) → slice_get xs (length xs - 1) ≡ Some x → (before : List X) × (xs ≡ before ++ x ∷ [])
  last_split [] x e = absurd (cc)
  last_split (y ∷ []) x e = ([], let z : y ≡ x = cc in ap (λ w. w ∷ []) z)
  last_split (y ∷ z ∷ xs) x e =
      let step : length (y ∷ z ∷ xs) - 1 ≡ suc (length (z ∷ xs) - 1) = omega arith in
      let r = last_split (z ∷ xs) x (ap (slice_get (y ∷ z ∷ xs)) (sym step) ∙ e) in (y ∷ r.0, ap (λ ws. y ∷ ws) r.1)

  -- the last of a list is one item
  pub newest_same : (xs ys : List X) (x y : X) → xs ++ x ∷ [] ≡ ys ++ y ∷ [] → x ≡ y
  newest_same [] [] x y e = cc
  newest_same [] (z ∷ []) x y e = absurd (cc)
  newest_same [] (z ∷ w ∷ ys) x y e = absurd (cc)
  newest_same (z ∷ []) [] x y e = absurd (cc)
  newest_same (z ∷ w ∷ xs) [] x y e = absurd (cc)
  newest_same (z ∷ xs) (w ∷ ys) x y e = newest_same xs ys x y (let h : xs ++ x ∷ [] ≡ ys ++ y ∷ [] = cc in h)

  last_out : (one two three : List X) (x : X) → one ++ (two ++ (three ++ x ∷ [])) ≡ (one ++ (two ++ three)) ++ x ∷ []
  last_out one two three x = ap (λ ys. one ++ ys) (sym (append_assoc two three (x ∷ []))) ∙ sym (append_assoc one (two ++ three) (x ∷ []))

  -- the last of a queue's three lists ends in the newest item
  pub newest_is : (one two three all : List X) (ranked : ℕ) (r : Room) (o : Option X) → one ++ (two ++ three) ≡ all → ranked ≤ length one → o ≡ slice_get three (length three - 1) →
      IfSome o (λ x. IsNewest (line all ranked r) x)
  newest_is one two three all ranked r None e l h = tt
  newest_is one two three all ranked r (Some x) e l h =
      let s = last_split three x (sym h) in let n = length-append one (two ++ s.0) in (
        one ++ (two ++ s.0),
        sym e ∙ ap (λ ws. one ++ (two ++ ws)) s.1 ∙ last_out one two s.0 x,
        omega (arith, l, n),
      )

  -- it leaves
  pub newest_leaves : (one two three three' all : List X) (o : Option X) → one ++ (two ++ three) ≡ all → three ≡ three' ++ option_to_list o → IfSome o (λ x. all ≡ (one ++ (two ++ three')) ++ x ∷ [])
  newest_leaves one two three three' all None e h = tt
  newest_leaves one two three three' all (Some x) e h = sym e ∙ ap (λ ws. one ++ (two ++ ws)) h ∙ last_out one two three' x

  -- and if all are ranked, none is in the other lists
  pub rest_empty : (one rest all : List X) (n : ℕ) → one ++ rest ≡ all → n ≡ length one → n ≡ length all → rest ≡ []
  rest_empty one [] all n e l k = refl
  rest_empty one (x ∷ xs) all n e l k = absurd (let a = length-append one (x ∷ xs) in let b = ap length e in omega (arith, a, b, l, k))

  -- a newest item is in the last list
  pub newest_there : (one two three all before : List X) (x : X) → one ++ (two ++ three) ≡ all → two ≡ [] → all ≡ before ++ x ∷ [] → length one ≤ length before → 0 < length three
  newest_there one two three all before x e h f l =
      let a = length-append one (two ++ three) in let b = length-append two three in let c = ap length e in let d = ap length h in
      let g = ap length f in let i = length-append before (x ∷ []) in omega (arith, a, b, c, d, g, i, l)

  -- the newest item is the one that was named
  pub named_leaves : (one two three three' all before : List X) (o : Option X) (x : X) → one ++ (two ++ three) ≡ all → two ≡ [] → all ≡ before ++ x ∷ [] → length one ≤ length before →
      three ≡ three' ++ option_to_list o → (0 < length three → IsSome o) → all ≡ (one ++ (two ++ three')) ++ x ∷ []
  named_leaves one two three three' all before None x e h f l p z = absurd (let n = z (newest_there one two three all before x e h f l) in cc)
  named_leaves one two three three' all before (Some y) x e h f l p z =
      let q = newest_leaves one two three three' all (Some y) e p in
      q ∙ ap (λ w. (one ++ (two ++ three')) ++ w ∷ []) (newest_same (one ++ (two ++ three')) before y x (sym q ∙ f))

module _ {K X : Type 0} (f : K → X) where
  -- the best leaves
  pub best_leaves : (ranked next : List K) (rest all : List X) (k : K) → map f ranked ++ rest ≡ all → IsPermutation ranked (k ∷ next) → IsPermutation all (f k ∷ (map f next ++ rest))
  best_leaves ranked next rest all k e h = subst (λ xs. IsPermutation xs (f k ∷ (map f next ++ rest))) e
      (IsPermutation-append (map f ranked) (f k ∷ map f next) rest rest (IsPermutation-map f ranked (k ∷ next) h) (IsPermutation-refl rest))

  -- the newest is ranked with the others
  pub joins : (ranked next : List K) (rest all : List X) (k : K) → all ≡ (map f ranked ++ rest) ++ f k ∷ [] → IsPermutation (k ∷ ranked) next → IsPermutation all (map f next ++ rest)
  joins ranked next rest all k e h = subst (λ xs. IsPermutation xs (map f next ++ rest)) (sym e)
      (IsPermutation-trans _ _ _ (IsPermutation-to_front (map f ranked ++ rest) (f k))
      (IsPermutation-append (f k ∷ map f ranked) (map f next) rest rest (IsPermutation-map f (k ∷ ranked) next h) (IsPermutation-refl rest)))

-- room means that it joined
pub joined : {A E : Type 0} (P : Type 0) (r : Result A E) → IsOk r → OnOk r P → P
joined P (Ok x) h p = p
joined P (Err x) h p = absurd (cc)

module _ {V : Type 0} (no_worse : V → V → Bool) where
  -- the top of a heap is the best of its messages
  pub top_is_best : {S : Type 0} (m : Ranked S ℕ V) (ms : List (Ranked S ℕ V)) → IsUpperBound (ranked_cmp (λ n. n.value) (λ n. n.rank) no_worse) m ms → All (IsNoWorseOn no_worse m.rank m.value) (map ranked_item ms)
  top_is_best m [] h = All-nil (IsNoWorseOn no_worse m.rank m.value)
  top_is_best m (n ∷ ms) h =
      let a : V × ℕ = (m.value, m.rank) in let b : V × ℕ = (n.value, n.rank) in
      All-cons (IsNoWorseOn no_worse m.rank m.value) (ranked_item n) (map ranked_item ms) (told no_worse a b (not_less (by_number no_worse a b) (by_number no_worse b a) h.0)) (top_is_best m ms h.1)

  pub best_alone : {S : Type 0} (m : Ranked S ℕ V) (ms : List (Ranked S ℕ V)) (rest : List (Item V)) → IsUpperBound (ranked_cmp (λ n. n.value) (λ n. n.rank) no_worse) m ms → rest ≡ [] →
      IsBestMessage no_worse (ranked_item m) (map ranked_item ms ++ rest)
  best_alone m ms rest h e = subst (λ (is : List (Item V)). All (IsNoWorseOn no_worse m.rank m.value) is) (sym (ap (λ is. map ranked_item ms ++ is) e ∙ append-nil (map ranked_item ms))) (top_is_best m ms h)

module _ {V : Type 0} where
  -- an item on the arc is in the second of three pieces, or in the third
  pub in_second : (b : ℕ) (one two three all : List (Item V)) (x y : Bool) → one ++ (two ++ three) ≡ all → x ≡ leb 1 (counted b one) → x ≡ false → y ≡ leb 1 (counted b two) → y ≡ true → y ≡ leb 1 (counted b all)
  in_second b one two three all x y e h f k t = in_other b one (two ++ three) all x y e h f (in_one b two three (two ++ three) y refl k t)

  pub in_third : (b : ℕ) (one two three all : List (Item V)) (x y z : Bool) → one ++ (two ++ three) ≡ all → x ≡ leb 1 (counted b one) → x ≡ false → y ≡ leb 1 (counted b two) → y ≡ false → z ≡ leb 1 (counted b three) → z ≡ leb 1 (counted b all)
  in_third b one two three all x y z e h f k t w = in_other b one (two ++ three) all x z e h f (in_other b two three (two ++ three) y z refl k t w)

pub dropped_none : {X : Type 0} (n : ℕ) (xs : List X) → xs ≡ [] → drop n xs ≡ []
dropped_none zero xs e = e
dropped_none (suc n) xs e = ap (drop (suc n)) e

-- best first, an item is newest that is not ranked
module _ {S V Z : Type 0} (cmp : Ranked S ℕ V → Ranked S ℕ V → Ordering) (o : QueueOrder) (ms : List (Ranked S ℕ V)) (room : ℕ) (front : Vec (Item V) Z) (taken : ℕ) (back : Vec (Item V) Z) (capacity : ℕ)
    (Q : IsItemQueue cmp o ms room front taken back capacity) (l : Line (Item V)) (i : Item V) (items : map ranked_item ms ++ (drop taken front.items ++ back.items) ≡ l.items) (ranked : length ms ≡ l.ranked)
    (order : o ≡ BestFirst) (w : IsNewest l i) where
  front_empty : drop taken front.items ≡ []
  front_empty = dropped_none taken front.items (Q.none_front order)

  ranked_before : length (map ranked_item ms) ≤ length w.0
  ranked_before = let m = length-map ms ranked_item in let n = w.2 in omega (arith, ranked, m, n)

  -- it is in the back list
  pub newest_back : 0 < length back.items
  newest_back = newest_there (map ranked_item ms) (drop taken front.items) back.items l.items w.0 i items front_empty w.1 ranked_before

  -- and has room among those ranked
  pub newest_fits : length ms < room
  newest_fits =
      let a = newest_back in let b = Q.taken_stood in let c = Q.waiting in let d = Q.ranked_room order in let e = ap length (Q.none_front order) in
      omega (arith, a, b, c, d, e)

  module _ (m : Ranked S ℕ V) (named : i ≡ ranked_item m) (ns : List (Ranked S ℕ V)) (back' : Vec (Item V) Z) (r : Option (Item V)) (joins_heap : IsPermutation (m ∷ ms) ns)
      (leaves : back.items ≡ back'.items ++ option_to_list r) (gives : 0 < length back.items → IsSome r) where
    -- then all are those that were
    pub newest_ranked : IsPermutation l.items (map ranked_item ns ++ (drop taken front.items ++ back'.items))
    newest_ranked = joins ranked_item ms ns (drop taken front.items ++ back'.items) l.items m
        (named_leaves (map ranked_item ms) (drop taken front.items) back.items back'.items l.items w.0 r i items front_empty w.1 ranked_before leaves gives ∙ ap (λ j. (map ranked_item ms ++ (drop taken front.items ++ back'.items)) ++ j ∷ []) named) joins_heap

    pub still_queue : (room' : ℕ) → room ≤ room' → vec_capacity back' ≡ vec_capacity back → KeepsHeap cmp ms ns → IsItemQueue cmp o ns room' front taken back' capacity
    still_queue room' f v h = record {
      taken_stood = Q.taken_stood;
      waiting = (let a = Q.waiting in let b = one_fewer r (gives newest_back) leaves in let c = length_permutation (m ∷ ms) ns joins_heap in omega (arith, a, b, c));
      front_room = Q.front_room;
      ranked_room = λ k. let a = Q.ranked_room k in omega (arith, a, f);
      back_room = let a = Q.back_room in omega (arith, a, v);
      none_ranked = λ k. absurd (let z : Arrival ≡ BestFirst = sym k ∙ order in cc);
      none_front = Q.none_front;
      heap = h Q.heap;
    }
      where
        one_fewer : (r : Option (Item V)) → IsSome r → back.items ≡ back'.items ++ option_to_list r → length back.items ≡ length back'.items + 1
        one_fewer None s e = absurd (cc)
        one_fewer (Some x) s e = let a = ap length e in let b = length-append back'.items (x ∷ []) in omega (arith, a, b)
