-- A batch fits, item by item.
use Rattle.std.proofs.Common.{◌≡◌, ℕ, zero, suc, ◌+◌, ◌<◌, ◌≤◌, Bool, true, false, leb, Option, Some, None, List, [], ◌∷◌, length, get_or, drop, map, inl, inr, refl, sym, ap, ◌∙◌, subst, arith, eq-eqb, ne_eqb}
use Rattle.std.specs.Prelude.{slice_get, IsTrue, ◌↔◌}
use Rattle.std.proofs.lemmas.Bool.{cases_eq, leb-true, le-leb, false≢true}
use Rattle.std.proofs.lemmas.Bool.Decides.{leb_tells}
use Rattle.std.proofs.lemmas.List.{drop_all, drop_more, length-map}
use Rattle.shard_part.proofs.Words.{Algebra, Item, item_arc, one_if, PartData, network_of, place_in, total, counted, is, part_weight, outs_weight, LocalInvariant}
use Rattle.shard_part.specs.Exchange.{Fits, FitsAlone, FitsBefore}
use Rattle.shard_part.proofs.Rings.{map_read}
use Rattle.shard_store.proofs.Totals.{none_of}

pub is_none : (n : ℕ) → n ≡ 0 → leb 1 n ≡ false
is_none n e = elim (leb_tells 1 n) [ inl t ↦ absurd (let l = t.1 in omega (arith, l, e)) | inr f ↦ f.0 ]

-- the items from an index on
pub drop_item : {X : Type 0} (xs : List X) (i : ℕ) (x : X) → slice_get xs i ≡ Some x → drop i xs ≡ x ∷ drop (i + 1) xs
drop_item {X = X} xs i x e = go xs i e ∙ ap (λ n. x ∷ drop n xs) (let z : suc i ≡ i + 1 = omega arith in z)
  where
    go : (xs : List X) (i : ℕ) → slice_get xs i ≡ Some x → drop i xs ≡ x ∷ drop (suc i) xs
    go [] zero e = absurd (let q : None ≡ Some x = e in cc)
    go [] (suc i) e = absurd (let q : None ≡ Some x = e in cc)
    go (y ∷ xs) zero e = let q : Some y ≡ Some x = e in let r : y ≡ x = cc in ap (λ z. z ∷ xs) r
    go (y ∷ xs) (suc i) e = go xs i e

pub drop_none : {X : Type 0} (xs : List X) → drop 0 xs ≡ xs
drop_none [] = refl
drop_none (x ∷ xs) = refl

-- an index within the list has an item
pub got_none : {X : Type 0} (xs : List X) (i n : ℕ) (o : Option X) → o ≡ slice_get xs i → o ≡ None → i < n → n ≡ length xs → ⊥
got_none {X = X} xs i n o g z l e = go xs i (sym g ∙ z) (omega (arith, l, e))
  where
    go : (xs : List X) (i : ℕ) → slice_get xs i ≡ None → i < length xs → ⊥
    go [] i q l = omega (arith, l)
    go (x ∷ xs) zero q l = let r : Some x ≡ None = q in cc
    go (x ∷ xs) (suc i) q l = go xs i q (omega (arith, l))

module _ {V : Type 0} where
  -- outboxes weighed by what does not depend on the shard
  abbrev pub outs_counted : ℕ → List (List (Item V)) → ℕ
  outs_counted b os = total (counted b) os

  pub outs_all : (b k : ℕ) (os : List (List (Item V))) → outs_weight (λ _ j. is b (item_arc j)) k os ≡ outs_counted b os
  outs_all b k [] = refl
  outs_all b k (o ∷ os) = let p = outs_all b (suc k) os in omega (arith, p)

  pub counted_in : {S : Type 0} (b : ℕ) (p : PartData S V) → part_weight (λ _ j. is b (item_arc j)) p ≡ counted b p.queue + outs_counted b p.outs
  counted_in b p = let o = outs_all b 0 p.outs in omega (arith, o)

module _ {S V : Type 0} (A : Algebra V) (p : PartData S V) where
  -- each item of a batch fits before the rest
  abbrev pub FitsEach : List (Item V) → Type 0
  FitsEach [] = Unit {0}
  FitsEach (i ∷ is') = FitsBefore A p i is' × FitsEach is'

  pub fits_each : (batch : List (Item V)) → Fits A p batch → FitsEach batch
  fits_each [] F = tt
  fits_each (i ∷ is') F =
      let a = F.apart (item_arc i) in let o = ap one_if (eq-eqb (item_arc i) (item_arc i) refl) in (
        (omega (arith, a, o), omega (arith, a, o), F.each.0),
        fits_each is' (record { apart = λ b. (let c = F.apart b in omega (arith, c)); each = F.each.1 }),
      )

  pub each_fits : ((b : ℕ) → part_weight (λ _ j. is b (item_arc j)) p ≤ 1) → (batch : List (Item V)) → FitsEach batch → Fits A p batch
  each_fits one [] F = record { apart = λ b. (let o = one b in omega (arith, o)); each = tt }
  each_fits one (i ∷ is') F = let R = each_fits one is' F.1 in record {
    apart = λ b. elim (cases_eq b (item_arc i)) [
      | inl e ↦ (let c = ap (λ k. counted k is') e ∙ F.0.0 in let w = ap (λ k. part_weight (λ _ j. is k (item_arc j)) p) e ∙ F.0.1 in
          let o = ap one_if (eq-eqb b (item_arc i) e) in omega (arith, c, w, o))
      | inr n ↦ (let c = R.apart b in let o = ap one_if (ne_eqb b (item_arc i) n) in omega (arith, c, o))
    ];
    each = (F.0.2, R.each);
  }

  -- one item is passed over
  pub each_next : (batch : List (Item V)) (i : ℕ) (x : Item V) → slice_get batch i ≡ Some x → FitsBefore A p x (drop (i + 1) batch) → FitsEach (drop (i + 1) batch) → FitsEach (drop i batch)
  each_next batch i x e f F = subst FitsEach (sym (drop_item batch i x e)) (f, F)

  pub each_rest : (batch : List (Item V)) (i : ℕ) (x : Item V) → slice_get batch i ≡ Some x → FitsEach (drop i batch) → FitsBefore A p x (drop (i + 1) batch) × FitsEach (drop (i + 1) batch)
  each_rest batch i x e F = let G = subst FitsEach (drop_item batch i x e) F in (G.0, G.1)

  pub each_done : (batch : List (Item V)) (i : ℕ) → length batch ≤ i → FitsEach (drop i batch)
  each_done batch i l = subst FitsEach (sym (drop_all i batch l)) tt

  -- what the tests tell
  pub before_twice : (i : Item V) (rest : List (Item V)) (a : ℕ) (x : Bool) → a ≡ item_arc i → x ≡ leb 1 (counted a rest) → x ≡ true → IsTrue false ↔ FitsBefore A p i rest
  before_twice i rest a x e h t = ((λ z. absurd (false≢true z)), (λ f. absurd (false≢true (sym (is_none (counted a rest) (ap (λ k. counted k rest) e ∙ f.0)) ∙ sym h ∙ t))))

  pub before_carried : (i : Item V) (rest : List (Item V)) (a : ℕ) (x : Bool) → a ≡ item_arc i → x ≡ leb 1 (part_weight (λ _ j. is a (item_arc j)) p) → x ≡ true → IsTrue false ↔ FitsBefore A p i rest
  before_carried i rest a x e h t = (
    (λ z. absurd (false≢true z)),
    (λ f. absurd (false≢true (sym (is_none (part_weight (λ _ j. is a (item_arc j)) p) (ap (λ k. part_weight (λ _ j. is k (item_arc j)) p) e ∙ f.1))
        ∙ sym h ∙ t))),
  )

  pub before_alone : (i : Item V) (rest : List (Item V)) (a : ℕ) (x y z : Bool) → a ≡ item_arc i → x ≡ leb 1 (counted a rest) → x ≡ false
      → y ≡ leb 1 (part_weight (λ _ j. is a (item_arc j)) p) → y ≡ false → (IsTrue z ↔ FitsAlone A p i) → IsTrue z ↔ FitsBefore A p i rest
  before_alone i rest a x y z e h f k g l = (
    (λ t. (
      ap (λ b. counted b rest) (sym e) ∙ none_of (counted a rest) (sym h ∙ f),
      ap (λ b. part_weight (λ _ j. is b (item_arc j)) p) (sym e)
          ∙ none_of (part_weight (λ _ j. is a (item_arc j)) p) (sym k ∙ g),
      l.0 t,
    )),
    (λ F. l.1 F.2),
  )

  -- a batch is gone through up to an index
  abbrev pub IsSame : List (Item V) → ℕ → Type 0
  IsSame batch i = (FitsEach (drop i batch) → FitsEach batch) × (FitsEach batch → FitsEach (drop i batch))

  pub same_start : (batch : List (Item V)) → IsSame batch 0
  same_start batch = (subst FitsEach (drop_none batch), subst FitsEach (sym (drop_none batch)))

  pub same_next : (batch : List (Item V)) (i : ℕ) (x : Item V) (b : Bool) → IsSame batch i → slice_get batch i ≡ Some x
      → (IsTrue b ↔ FitsBefore A p x (drop (i + 1) batch)) → b ≡ true → IsSame batch (i + 1)
  same_next batch i x b I e l t = ((λ F. I.0 (each_next batch i x e (l.0 t) F)), (λ F. (each_rest batch i x e (I.1 F)).1))

  pub same_bad : (batch : List (Item V)) (i : ℕ) (x : Item V) (b : Bool) → IsSame batch i → slice_get batch i ≡ Some x
      → (IsTrue b ↔ FitsBefore A p x (drop (i + 1) batch)) → b ≡ false → IsTrue false ↔ Fits A p batch
  same_bad batch i x b I e l f = ((λ z. absurd (false≢true z)), (λ F. absurd (false≢true (sym f ∙ l.1 (each_rest batch i x e (I.1 (fits_each batch F))).0))))

module _ {S V : Type 0} where
  -- of each arc the part holds one item at most
  pub fits_from : (A : Algebra V) (p : PartData S V) (batch : List (Item V)) → LocalInvariant (network_of p.setup) (place_in p.setup) p → FitsEach A p batch → Fits A p batch
  fits_from A p batch L F = each_fits A p (λ b. let o = L.once b in omega (arith, o)) batch F

  pub same_done : (A : Algebra V) (p : PartData S V) (batch : List (Item V)) (i : ℕ) → LocalInvariant (network_of p.setup) (place_in p.setup) p
      → IsSame A p batch i → length batch ≤ i → IsTrue true ↔ Fits A p batch
  same_done A p batch i L I l = ((λ _. fits_from A p batch L (I.0 (each_done A p batch i l))), (λ _. refl))

-- whether an item on an arc is in the queue or an outbox
module _ {S V : Type 0} (b : ℕ) (p : PartData S V) where
  -- the outbox at an index, as its ring
  out_at : {X : Type 0} (its : X → List (Item V)) (rs : List X) (k : ℕ) (x : X) → map its rs ≡ p.outs → k < length rs → x ≡ get_or rs k x → drop k p.outs ≡ its x ∷ drop (k + 1) p.outs
  out_at its rs k x e l h =
      let n : k < length p.outs = (let a = length-map rs its in let c = ap length e in omega (arith, a, c, l)) in
      drop_more p.outs k [] n ∙ ap (λ o. o ∷ drop (k + 1) p.outs) (ap (λ os. get_or os k []) (sym e) ∙ map_read its rs k [] x l h)

  pub carried_out : {X : Type 0} (its : X → List (Item V)) (rs : List X) (k : ℕ) (x : X) (y : Bool) → map its rs ≡ p.outs → k < length rs
      → x ≡ get_or rs k x → outs_counted b p.outs ≡ outs_counted b (drop k p.outs) → y ≡ leb 1 (counted b (drop 0 (its x))) → y ≡ true →
      true ≡ leb 1 (part_weight (λ _ j. is b (item_arc j)) p)
  carried_out its rs k x y e l h i q t =
      let a = leb-true 1 (counted b (drop 0 (its x))) (sym q ∙ t) in let d = ap (counted b) (drop_none (its x)) in let o = ap (outs_counted b) (out_at its rs k x e l h) in let c = counted_in b p in
      sym (le-leb 1 (part_weight (λ _ j. is b (item_arc j)) p) (omega (arith, a, d, o, c, i)))

  pub outs_next : {X : Type 0} (its : X → List (Item V)) (rs : List X) (k : ℕ) (x : X) (y : Bool) → map its rs ≡ p.outs → k < length rs
      → x ≡ get_or rs k x → outs_counted b p.outs ≡ outs_counted b (drop k p.outs) → y ≡ leb 1 (counted b (drop 0 (its x))) → y ≡ false →
      outs_counted b p.outs ≡ outs_counted b (drop (k + 1) p.outs)
  outs_next its rs k x y e l h i q f =
      let a = none_of (counted b (drop 0 (its x))) (sym q ∙ f) in let d = ap (counted b) (drop_none (its x)) in let o = ap (outs_counted b) (out_at its rs k x e l h) in omega (arith, a, d, o, i)

  pub carried_none : {X : Type 0} (its : X → List (Item V)) (rs : List X) (k : ℕ) → map its rs ≡ p.outs → length rs ≤ k → counted b p.queue ≡ 0
      → outs_counted b p.outs ≡ outs_counted b (drop k p.outs) → false ≡ leb 1 (part_weight (λ _ j. is b (item_arc j)) p)
  carried_none its rs k e l z i =
      let n : length p.outs ≤ k = (let a = length-map rs its in let c = ap length e in omega (arith, a, c, l)) in
      let d = ap (outs_counted b) (drop_all k p.outs n) in let c = counted_in b p in sym (is_none (part_weight (λ _ j. is b (item_arc j)) p) (omega (arith, z, i, d, c)))
