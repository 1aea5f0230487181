-- What parts have counted together, and the events that it counts.
use Rattle.std.proofs.Common.{◌≡◌, ℕ, ◌+◌, Bool, true, false, ◌||◌, leb, min, List, [], ◌∷◌, ◌++◌, refl, sym, ap, ◌∙◌, subst, arith, le-leb, leb-true}
use Rattle.std.proofs.lemmas.Bool.{leb-false}
use Rattle.station.proofs.Words.{TableId, Totals, Tally, PartData, All, total, is, top, tally_of, together, all_append, View, SeatData, IsViewOf, counts_of, AreHanded, StationData}
use Rattle.shard_part.specs.Readings.{tally_in}
use Rattle.shard_store.proofs.Totals.{total_append}
use Rattle.post_floor.proofs.Seats.{total_snoc}

-- a tally is full where a total is at the top: what was full before makes no difference
full_same : (a l m n o b : Bool) → (a ≡ true → l || m || n || o ≡ true) → (b ≡ true → l || m || n || o ≡ true) → (a || l || m || n || o || b) ≡ (l || m || n || o)
full_same true l m n o b h k = sym (h refl)
full_same false true m n o b h k = refl
full_same false false true n o b h k = refl
full_same false false false true o b h k = refl
full_same false false false false true b h k = refl
full_same false false false false false true h k = sym (k refl)
full_same false false false false false false h k = refl

one_of : (a b c d l m n o : Bool) → (a ≡ true → l ≡ true) → (b ≡ true → m ≡ true) → (c ≡ true → n ≡ true) → (d ≡ true → o ≡ true) → a || b || c || d ≡ true → l || m || n || o ≡ true
one_of a b c d true m n o h i j k q = refl
one_of a b c d false true n o h i j k q = refl
one_of a b c d false false true o h i j k q = refl
one_of a b c d false false false true h i j k q = refl
one_of true b c d false false false false h i j k q = h refl
one_of false true c d false false false false h i j k q = i refl
one_of false false true d false false false false h i j k q = j refl
one_of false false false true false false false false h i j k q = k refl
one_of false false false false false false false false h i j k q = q

module _ (t : ℕ) where
  reaches_both : (x y : ℕ) → leb t (min x t + min y t) ≡ leb t (x + y)
  reaches_both x y = go (leb t (x + y)) refl
    where
      go : (b : Bool) → leb t (x + y) ≡ b → leb t (min x t + min y t) ≡ b
      go true e = le-leb t (min x t + min y t) (let l = leb-true t (x + y) e in omega (arith, l))
      go false e = other (leb t (min x t + min y t)) refl
        where
          other : (b : Bool) → leb t (min x t + min y t) ≡ b → b ≡ false
          other false q = refl
          other true q = let l = leb-true t (min x t + min y t) q in let m = leb-false t (x + y) e in absurd (omega (arith, l, m))

  reaches_left : (x y : ℕ) → leb t x ≡ true → leb t (x + y) ≡ true
  reaches_left x y e = le-leb t (x + y) (let l = leb-true t x e in omega (arith, l))

  reaches_right : (x y : ℕ) → leb t (min y t) ≡ true → leb t (x + y) ≡ true
  reaches_right x y e = le-leb t (x + y) (let l = leb-true t (min y t) e in omega (arith, l))

  both : (x y z : ℕ) → z ≡ x + y → min (min x t + min y t) t ≡ min z t
  both x y z e = omega (arith, e)

module _ {S V : Type 0} where
  -- the tally of some counts and of a part's is that of all of them
  pub tally_more : (p : PartData S V) (v : View S V) (n m : Totals) → IsViewOf v p → m.sent ≡ n.sent + v.sent
      → m.delivered ≡ n.delivered + v.delivered → m.signalled ≡ n.signalled + v.signalled → m.accepted ≡ n.accepted + v.accepted
      → together (tally_in p) (tally_of n) ≡ tally_of m
  tally_more p v n m s a b c d =
      let l : (x y z k : ℕ) → k ≡ min y top → z ≡ x + y → leb top (min x top + k) ≡ leb top z = λ x y z k q e. ap (λ j. leb top (min x top + j)) q ∙ reaches_both top x y ∙ ap (leb top) (sym e) in
      let sum : (x y z k : ℕ) → k ≡ min y top → z ≡ x + y → min (min x top + k) top ≡ min z top = λ x y z k q e. ap (λ j. min (min x top + j) top) q ∙ both top x y z e in
      let l1 = l n.sent v.sent m.sent p.sent s.sent a in let l2 = l n.delivered v.delivered m.delivered p.delivered s.delivered b in
      let l3 = l n.signalled v.signalled m.signalled p.signalled s.signalled c in let l4 = l n.accepted v.accepted m.accepted p.accepted s.accepted d in
      let left : (x y z : ℕ) → z ≡ x + y → leb top x ≡ true → leb top z ≡ true = λ x y z e q. ap (leb top) e ∙ reaches_left top x y q in
      let right : (x y z k : ℕ) → k ≡ min y top → z ≡ x + y → leb top k ≡ true → leb top z ≡ true = λ x y z k q e r. ap (leb top) e ∙ reaches_right top x y (ap (leb top) (sym q) ∙ r) in
      let full : (leb top n.sent || leb top n.delivered || leb top n.signalled || leb top n.accepted) || leb top m.sent || leb top m.delivered || leb
      top m.signalled || leb top m.accepted || (leb top p.sent || leb top p.delivered || leb top p.signalled || leb top p.accepted)
      ≡ (leb top m.sent || leb top m.delivered || leb top m.signalled || leb top m.accepted) =
      full_same _ (leb top m.sent) (leb top m.delivered) (leb top m.signalled) (leb top m.accepted) _
      (one_of (leb top n.sent) (leb top n.delivered) (leb top n.signalled) (leb top n.accepted) (leb top m.sent) (leb top m.delivered) (leb top m.signalled) (leb top m.accepted)
      (left n.sent v.sent m.sent a) (left n.delivered v.delivered m.delivered b) (left n.signalled v.signalled m.signalled c) (left n.accepted v.accepted m.accepted d))
      (one_of (leb top p.sent) (leb top p.delivered) (leb top p.signalled) (leb top p.accepted) (leb top m.sent) (leb top m.delivered) (leb top m.signalled) (leb top m.accepted)
      (right n.sent v.sent m.sent p.sent s.sent a) (right n.delivered v.delivered m.delivered p.delivered s.delivered b)
      (right n.signalled v.signalled m.signalled p.signalled s.signalled c) (right n.accepted v.accepted m.accepted p.accepted s.accepted d)) in
      λ i. record {
        sent = sum n.sent v.sent m.sent p.sent s.sent a i;
        delivered = sum n.delivered v.delivered m.delivered p.delivered s.delivered b i;
        signalled = sum n.signalled v.signalled m.signalled p.signalled s.signalled c i;
        accepted = sum n.accepted v.accepted m.accepted p.accepted s.accepted d i;
        full = (ap (λ (x : Bool × Bool × Bool × Bool). (leb top n.sent || leb top n.delivered || leb top n.signalled || leb top n.accepted) || x.0 ||
            x.1 || x.2 || x.3 || (leb top p.sent || leb top p.delivered || leb top p.signalled || leb top p.accepted)) (λ j. (l1 j, l2 j, l3 j, l4 j))
            ∙ full) i;
      }

  pub handed_none : (id : TableId) (all : List (StationData S V)) → AreHanded id all all [] (tally_of (counts_of {S = S} {V = V} []))
  handed_none id all = record { own = tt; seen = tt; shards = λ j. omega arith; sums = λ f. omega arith; counted = refl }

  -- one more seat is handed over
  pub handed_more : (id : TableId) (all left rest : List (StationData S V)) (seats more : List (SeatData S V)) (s : StationData S V)
      (tally sum : Tally) → AreHanded id all left seats tally → left ≡ rest ++ s ∷ [] → more ≡ seats ++ s.seat ∷ []
      → s.seat.floor ≡ id → s.seat.knows.seen ≡ true → s.seat.shard ≡ s.part.shard → IsViewOf s.seat.knows s.part → sum ≡ together (tally_in s.part) tally → AreHanded id all rest more sum
  handed_more id all left rest seats more s tally sum h e m own seen same shows c = record {
    own = subst (All (λ d. d.floor ≡ id)) (sym m) (all_append (λ d. d.floor ≡ id) seats (s.seat ∷ []) h.own (own, tt));
    seen = subst (All (λ d. d.knows.seen ≡ true)) (sym m) (all_append (λ d. d.knows.seen ≡ true) seats (s.seat ∷ []) h.seen (seen, tt));
    shards = λ j.
        let a = h.shards j in
        let b : total (λ d. is j d.shard) more ≡ total (λ d. is j d.shard) seats + is j s.seat.shard = ap (total (λ d. is j d.shard)) m ∙ total_snoc (λ d. is j d.shard) seats s.seat in
        let f : StationData S V → ℕ = λ z. is j z.part.shard in
        let u : total f left ≡ total f rest + (f s + 0) = ap (total f) e ∙ total_append f rest (s ∷ []) in
        let k : is j s.seat.shard ≡ is j s.part.shard = ap (is j) same in
        omega (arith, a, b, u, k);
    sums = λ f.
        let a = h.sums f in
        let b : total (λ d. f d.knows) more ≡ total (λ d. f d.knows) seats + f s.seat.knows = ap (total (λ d. f d.knows)) m ∙ total_snoc (λ d. f d.knows) seats s.seat in
        let F : StationData S V → ℕ = λ z. f z.seat.knows in
        let u : total F left ≡ total F rest + (F s + 0) = ap (total F) e ∙ total_append F rest (s ∷ []) in
        omega (arith, a, b, u);
    counted = c ∙ ap (together (tally_in s.part)) h.counted ∙ tally_more s.part s.seat.knows (counts_of seats) (counts_of more) shows
        (ap (total (λ d. d.knows.sent)) m ∙ total_snoc (λ d. d.knows.sent) seats s.seat)
        (ap (total (λ d. d.knows.delivered)) m ∙ total_snoc (λ d. d.knows.delivered) seats s.seat)
        (ap (total (λ d. d.knows.signalled)) m ∙ total_snoc (λ d. d.knows.signalled) seats s.seat)
        (ap (total (λ d. d.knows.accepted)) m ∙ total_snoc (λ d. d.knows.accepted) seats s.seat);
  }
