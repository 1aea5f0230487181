-- Lists that grow at their front: one more number, and reading.
use Rattle.std.proofs.Common.{◌≡◌, ℕ, zero, suc, ◌+◌, ◌-◌, ◌<◌, ◌≤◌, ◌⊎◌, inl, inr, Result, Ok, Err, List, [], ◌∷◌, ◌++◌, length, get_or, set, refl, ap, sym, ◌∙◌, subst, arith, get_or-set_same, get_or-set_other, length-set}
use Rattle.std.specs.Prelude.{OnOk}
use Rattle.path_factors.proofs.Words.{cases_eq, get_or_append_left, get_or_push, All-push, Item}
use Rattle.path_factors.specs.Chains.{ChainData, item_of, IsAfter, HasFrom, HasValue, AreChains, IsMore}

-- what is read from an item on is its value, or read from the next
pub from_next : (items : List Item) (i x : ℕ) → HasFrom items i x → ((item_of items i).value ≡ x) ⊎ HasFrom items (item_of items i).next x
from_next items i x (zero, j, is, some, value) = inl (ap (λ (k : ℕ). (item_of items k).value) is ∙ value)
from_next items i x (suc k, j, after, some, value) = inr (k, j, after.1, some, value)

pub from_none : (items : List Item) (i x : ℕ) → i ≡ 0 → HasFrom items i x → ⊥
from_none items i x none (zero, j, is, some, value) = omega (arith, none, is, some)
from_none items i x none (suc k, j, after, some, value) = let first = after.0 in omega (arith, none, first)

module _ (items : List Item) (falling : (i : ℕ) → 1 ≤ i → (item_of items i).next < i) (new : Item) where
  abbrev more : List Item
  more = items ++ new ∷ []

  same_item : (i : ℕ) → 1 ≤ i → i ≤ length items → item_of more i ≡ item_of items i
  same_item i some low = get_or_append_left items (new ∷ []) (record { value = 0; next = 0 }) (i - 1) (omega (arith, some, low))

  new_item : (i : ℕ) → i ≡ length items + 1 → item_of more i ≡ new
  new_item i is = get_or_push items new (record { value = 0; next = 0 }) (i - 1) (omega (arith, is))

  -- what is read from an item is read from it when there is one more
  pub from_more : (i x : ℕ) → i ≤ length items → HasFrom items i x → HasFrom more i x
  from_more i x low (k, j, after, some, value) =
      let r = go k i low after in
      (k, j, r.0, some, ap (λ (q : Item). q.value) (same_item j some r.1) ∙ value)
    where
      go : (k i : ℕ) → i ≤ length items → IsAfter items k i j → IsAfter more k i j × (j ≤ length items)
      go zero i low is = (is, omega (arith, low, is))
      go (suc k) i low after =
          let some = after.0 in
          let r = go k (item_of items i).next (omega (arith, falling i some, low)) after.1 in
          ((some, subst (λ (q : Item). IsAfter more k q.next j) (sym (same_item i some low)) r.0), r.1)

-- one more number in front of a list
module _ (c : ChainData) (are : AreChains c) (list value : ℕ) (low : list < length c.firsts) where
  abbrev new : Item
  new = record { value = value; next = get_or c.firsts list 0 }

  abbrev pushed : ChainData
  pushed = record { firsts = set c.firsts list (length c.items + 1); items = c.items ++ new ∷ [] }

  first_here : get_or pushed.firsts list 0 ≡ length c.items + 1
  first_here = get_or-set_same c.firsts list (length c.items + 1) 0 low

  pub pushed_has : HasValue pushed list value
  pushed_has = (
    0,
    length c.items + 1,
    first_here,
    omega arith,
    ap (λ (q : Item). q.value) (new_item c.items are.falling new (length c.items + 1) refl),
  )

  pushed_kept : (l x : ℕ) → HasValue c l x → HasValue pushed l x
  pushed_kept l x has = elim (cases_eq l list) [
    | inl is ↦
        let here : HasFrom c.items (get_or c.firsts list 0) x = subst (λ (k : ℕ). HasFrom c.items (get_or c.firsts k 0) x) is has in
        let h = from_more c.items are.falling new (get_or c.firsts list 0) x (are.firsts list) here in
        let i = length c.items + 1 in
        let next : (item_of pushed.items i).next ≡ get_or c.firsts list 0 = ap (λ (q : Item). q.next) (new_item c.items are.falling new i refl) in
        let after : IsAfter pushed.items (suc h.0) i h.1 =
        (omega arith, subst (λ (k : ℕ). IsAfter pushed.items h.0 k h.1) (sym next) h.2) in
        subst (λ (k : ℕ). HasFrom pushed.items k x) (sym (ap (λ (k : ℕ). get_or pushed.firsts k 0) is ∙ first_here)) (suc h.0, h.1, after, h.3, h.4)
    | inr other ↦
        subst (λ (k : ℕ). HasFrom pushed.items k x) (sym (get_or-set_other c.firsts list l (length c.items + 1) 0 other))
        (from_more c.items are.falling new (get_or c.firsts l 0) x (are.firsts l) has)
  ]

  pub pushed_more : (n : ℕ) → value < n → IsMore n c pushed
  pushed_more n small = record {
    lists = length-set c.firsts list (length c.items + 1);
    kept = pushed_kept;
    below = λ all. All-push (λ (i : Item). i.value < n) c.items new all small;
  }

pub more_none : (n : ℕ) (c : ChainData) → IsMore n c c
more_none n c = record { lists = refl; kept = λ l x has. has; below = λ all. all }

pub more_trans : (n : ℕ) (a b c : ChainData) → IsMore n a b → IsMore n b c → IsMore n a c
more_trans n a b c first second = record {
  lists = second.lists ∙ first.lists;
  kept = λ l x has. second.kept l x (first.kept l x has);
  below = λ all. second.below (first.below all);
}

-- what follows from what holds at `Ok`
pub on_ok : {T E P Q : Type 0} (r : Result T E) → OnOk r P → (P → Q) → OnOk r Q
on_ok (Ok x) holds next = next holds
on_ok (Err e) holds next = holds
