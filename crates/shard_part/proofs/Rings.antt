-- An item is put into the queue or a ring, where it has room, or taken from the queue.
use Rattle.shard_part.proofs.Words.{◌≡◌, ◌≢◌, ◌⊎◌, ℕ, zero, suc, ◌<◌, Option, Some, None, List, [], ◌∷◌, ◌++◌, length, length-append, set, get_or, map, refl, sym, ap, ◌∙◌, subst, arith, eq-eqb, ne_eqb, length-set, get_or-set_same, IfSome, IfNone, cond-true, cond-false, length-map, map-set, Room, Line, Item, Algebra, item_arc, PartData, state_in, vertex_of, network_of, place_in, Channels, channels_of, All, is, route, GoesAtOnce, IsInTurn, LocalInvariant, Rows, AllOf, IsPermutation, QueueOrder, Arrival, BestFirst, IsBestMessage, Network, CoreState, All-permutation, IsPermutation-refl, total_permutation}
use Rattle.shard_part.specs.Moves.{RepInvariant, MaySend, put_item, IsPopped}
use Rattle.shard_part.proofs.Sound.{put_sound}
use Rattle.shard_part.proofs.RingsSuffice.{sound_fits, sound_out_fits}
use Rattle.shard_part.proofs.Showing.{is_self}
use Rattle.shard_part.proofs.Moves.{formed, rebuilt}
use Rattle.std.proofs.lemmas.List.Elements.{All-nil, All-cons}

pub map_read : {X Y : Type 0} (f : X → Y) (rs : List X) (k : ℕ) (d : Y) (x : X) → k < length rs → x ≡ get_or rs k x → get_or (map f rs) k d ≡ f x
map_read f [] k d x l e = absurd (omega (arith, l))
map_read f (r ∷ rs) zero d x l e = ap f (sym e)
map_read f (r ∷ rs) (suc k) d x l e = map_read f rs k d x (omega (arith, l)) e

pub map_kept : {X : Type 0} (f : X → ℕ) (rs : List X) (k : ℕ) (x new : X) → k < length rs → x ≡ get_or rs k x → f new ≡ f x → map f (set rs k new) ≡ map f rs
map_kept f [] k x new l e q = refl
map_kept f (r ∷ rs) zero x new l e q = ap (λ n. n ∷ map f rs) (q ∙ ap f e)
map_kept f (r ∷ rs) (suc k) x new l e q = ap (λ ys. f r ∷ ys) (map_kept f rs k x new (omega (arith, l)) e q)

all_to_std : {X : Type 0} (P : X → Type 0) (xs : List X) → All P xs → AllOf P xs
all_to_std P [] h = All-nil P
all_to_std P (x ∷ xs) h = All-cons P x xs h.0 (all_to_std P xs h.1)

all_from_std : {X : Type 0} (P : X → Type 0) (xs : List X) → AllOf P xs → All P xs
all_from_std P [] h = tt
all_from_std P (x ∷ xs) h = (h 0 x (omega arith), all_from_std P xs (λ k d l. h (suc k) d (omega (arith, l))))

-- whatever holds of each entry does in whatever order they stand
pub all_permuted : {X : Type 0} (P : X → Type 0) (xs ys : List X) → IsPermutation xs ys → All P xs → All P ys
all_permuted P xs ys q h = all_from_std P ys (All-permutation P xs ys q (all_to_std P xs h))

module _ {V : Type 0} where
  -- as the queue leaves it that gives the first
  pub first_leaves : (xs ys : List (Item V)) (o : Option (Item V)) → IfSome o (λ i. xs ≡ i ∷ ys) → IfSome o (λ i. IsPermutation xs (i ∷ ys))
  first_leaves xs ys None q = tt
  first_leaves xs ys (Some i) q = subst (IsPermutation xs) q (IsPermutation-refl xs)

  module _ (A : Algebra V) (N : Network) where
    pub best_turn : (o : QueueOrder) (d : CoreState V) (xs ys : List (Item V)) (i : Item V) → o ≡ BestFirst → GoesAtOnce A N d i ⊎ IsBestMessage A.no_worse i ys → IsInTurn A N o d xs i ys
    best_turn o d xs ys i e q = subst (λ u. IsInTurn A N u d xs i ys) (sym e) q

    pub turn_best : (o : QueueOrder) (d : CoreState V) (xs ys : List (Item V)) (i : Item V) → o ≡ BestFirst → IsInTurn A N o d xs i ys → GoesAtOnce A N d i ⊎ IsBestMessage A.no_worse i ys
    turn_best o d xs ys i e q = subst (λ u. IsInTurn A N u d xs i ys) e q

module _ {S V : Type 0} where
  -- the lists change, and the part stays sound
  pub with_channels : (p : PartData S V) (r : Rows V) (n : Room) (ns : List ℕ) (xs : List (Item V)) (os : List (List (Item V))) → RepInvariant p r n ns
      → length os ≡ length p.outs → LocalInvariant (network_of p.setup) (place_in p.setup) (record p { queue = xs; outs = os })
      → RepInvariant (record p { queue = xs; outs = os }) r n ns
  with_channels p r n ns xs os D l s = rebuilt p r n ns p.engagers r.engagers r.deficits p.busy r.busy p.told r.told xs os D refl refl refl refl l
      (record { labels = D.seen.labels; engagers = D.seen.engagers; busy = D.seen.busy; told = D.seen.told }) D.counts s

  module _ (A : Algebra V) where
    -- an item is put where it belongs
    put_well : (p : PartData S V) (r : Rows V) (n : Room) (ns : List ℕ) (i : Item V) (to : ℕ) (l : Channels V) → RepInvariant p r n ns → MaySend p i to
        → route (network_of p.setup) (place_in p.setup) p.shard i (channels_of p) ≡ l
        → LocalInvariant (network_of p.setup) (place_in p.setup) (record p { queue = l.queue; outs = l.outs })
    put_well p r n ns i to l D M e = subst (λ (k : Channels V). LocalInvariant (network_of p.setup) (place_in p.setup) (record p { queue = k.queue; outs = k.outs })) e
        (put_sound A (network_of p.setup) (place_in p.setup) (formed p p.shard D.planned) p i D.sound M.arc M.made M.clear)

    -- an item for the part itself, as the running method leaves it
    pub put_here_leaves : (p old : PartData S V) (r : Rows V) (n : Room) (ns : List ℕ) (i : Item V) (to : ℕ) (new : Line (Item V)) → p ≡ old
        → RepInvariant p r n ns → MaySend old i to → to ≡ p.shard → new.items ≡ p.queue ++ i ∷ [] → new.room ≡ n →
        (length p.queue < n.capacity) × RepInvariant (record p { queue = new.items }) r new.room ns × (record p { queue = new.items } ≡ put_item i old)
    put_here_leaves p old r n ns i to new e D may h w u =
        let M = subst (λ (q : PartData S V). MaySend q i to) (sym e) may in
        let routed : route (network_of p.setup) (place_in p.setup) p.shard i (channels_of p) ≡ record { queue = p.queue ++ i ∷ []; outs = p.outs } =
        cond-true _ _ _ (eq-eqb _ _ (sym M.shard ∙ h)) in
        let s = put_well p r n ns i to (record { queue = p.queue ++ i ∷ []; outs = p.outs }) D M routed in
        let f = sound_fits A (network_of p.setup) (place_in p.setup) (formed p p.shard D.planned) (record p { queue = p.queue ++ i ∷ [] }) s in (
          (let a = length-append p.queue (i ∷ []) in let q = D.roomy.queue in omega (arith, a, f, q)),
          subst (λ k. RepInvariant (record p { queue = new.items }) r k ns) (sym u)
              (subst (λ xs. RepInvariant (record p { queue = xs }) r n ns) (sym w) (with_channels p r n ns (p.queue ++ i ∷ []) p.outs D refl s)),
          ap (λ xs. record p { queue = xs }) w ∙ (λ k. record p { queue = (sym routed k).queue; outs = (sym routed k).outs }) ∙ ap (λ (q : PartData S V). put_item i q) e,
        )

    pub there_in : {X : Type 0} (its : X → List (Item V)) (rs : List X) (p old : PartData S V) (r : Rows V) (n : Room) (ns : List ℕ) (i : Item V)
        (to : ℕ) → p ≡ old → RepInvariant p r n ns → p.outs ≡ map its rs → to ≡ place_in old.setup (vertex_of (network_of old.setup) i)
        → to < length rs
    there_in its rs p old r n ns i to e D o t =
        let w : to < length p.outs = subst (λ k. k < length p.outs)
        (sym (t ∙ ap (λ (u : PartData S V). place_in u.setup (vertex_of (network_of u.setup) i)) (sym e)))
        (D.sound.wide (vertex_of (network_of p.setup) i)) in
        let q = ap length o in let l = length-map rs its in omega (arith, w, q, l)

    -- an item for another part
    pub put_there_leaves : {X : Type 0} (its : X → List (Item V)) (caps : X → ℕ) (rs : List X) (p old : PartData S V) (r : Rows V) (n : Room)
        (i : Item V) (to : ℕ) (x : X) → p ≡ old → RepInvariant p r n (map caps rs) → p.outs ≡ map its rs → MaySend old i to → to ≢ p.shard → x ≡ get_or rs to x →
        (length (its x) < caps x) × ((new : X) → its new ≡ its x ++ i ∷ [] → caps new ≡ caps x →
        RepInvariant (record p { outs = map its (set rs to new) }) r n (map caps (set rs to new)) × (record p { outs = map its (set rs to new) } ≡ put_item i old))
    put_there_leaves {X} its caps rs p old r n i to x e D o may ne read =
        let M = subst (λ (q : PartData S V). MaySend q i to) (sym e) may in
        let lt = there_in its rs p old r n (map caps rs) i to e D o may.shard in
        let out : to < length p.outs = (let q = ap length o in let l = length-map rs its in omega (arith, lt, q, l)) in
        let routed : route (network_of p.setup) (place_in p.setup) p.shard i (channels_of p) ≡ record { queue = p.queue; outs = set p.outs to (get_or p.outs to [] ++ i ∷ []) } =
        cond-false _ _ _ (ne_eqb _ _ (λ q. ne (M.shard ∙ q))) ∙ ap (λ k. record { queue = p.queue; outs = set p.outs k (get_or p.outs k [] ++ i ∷ []) }) (sym M.shard) in
        let s = put_well p r n (map caps rs) i to (record { queue = p.queue; outs = set p.outs to (get_or p.outs to [] ++ i ∷ []) }) D M routed in
        let f = sound_out_fits A (network_of p.setup) (place_in p.setup) (formed p p.shard D.planned) (record p { outs = set p.outs to (get_or p.outs to [] ++ i ∷ []) }) s to in
        let g = ap length (get_or-set_same p.outs to (get_or p.outs to [] ++ i ∷ []) [] out) in
        let q = D.roomy.outs to ne (let b = D.roomy.boxes in omega (arith, out, b)) in
        let a : get_or p.outs to [] ≡ its x = ap (λ ys. get_or ys to []) o ∙ map_read its rs to [] x lt read in
        let c : get_or (map caps rs) to 0 ≡ caps x = map_read caps rs to 0 x lt read in
        let l = ap (λ ys. length (ys ++ i ∷ [])) a in
        let la = length-append (its x) (i ∷ []) in (
          omega (arith, f, g, q, l, c, la),
          λ new kept cap.
              (let all : its new ≡ get_or p.outs to [] ++ i ∷ [] = kept ∙ ap (λ ys. ys ++ i ∷ []) (sym a) in
              let outs : map its (set rs to new) ≡ set p.outs to (get_or p.outs to [] ++ i ∷ []) = map-set its rs to new ∙ (λ k. set (sym o k) to (all k)) in
              let caps_kept : map caps (set rs to new) ≡ map caps rs = map_kept caps rs to x new lt read cap in (
                subst (λ (ys : List (List (Item V))). RepInvariant (record p { outs = ys }) r n (map caps (set rs to new))) (sym outs)
                    (subst (λ (ks : List ℕ). RepInvariant (record p { outs = set p.outs to (get_or p.outs to [] ++ i ∷ []) }) r n ks) (sym caps_kept)
                    (with_channels p r n (map caps rs) p.queue (set p.outs to (get_or p.outs to [] ++ i ∷ [])) D (length-set p.outs to (get_or p.outs to [] ++ i ∷ [])) s)),
                (λ k. record p { outs = outs k }) ∙ (λ k. record p { queue = (sym routed k).queue; outs = (sym routed k).outs }) ∙ ap (λ (q : PartData S V). put_item i q) e,
              )),
        )

  -- the items stand in another order
  pub permuted : (p : PartData S V) (r : Rows V) (n : Room) (ns : List ℕ) (xs : List (Item V)) → RepInvariant p r n ns → IsPermutation p.queue xs → RepInvariant (record p { queue = xs }) r n ns
  permuted p r n ns xs D q = with_channels p r n ns xs p.outs D refl (record {
    once = λ b. let o = D.sound.once b in let f = total_permutation (λ j. is b (item_arc j)) p.queue xs q in omega (arith, o, f);
    leads = D.sound.leads;
    here = all_permuted _ p.queue xs q D.sound.here;
    gone = D.sound.gone;
    wide = D.sound.wide;
  })

  -- an item goes
  pub item_leaves : (p : PartData S V) (r : Rows V) (n : Room) (ns : List ℕ) (i : Item V) (xs : List (Item V)) → RepInvariant p r n ns → IsPermutation p.queue (i ∷ xs) → RepInvariant (record p { queue = xs }) r n ns
  item_leaves p r n ns i xs D q = let E = (permuted p r n ns (i ∷ xs) D q).sound in
      with_channels p r n ns xs p.outs D refl (record { once = λ b. let o = E.once b in omega (arith, o); leads = E.leads; here = E.here.1; gone = E.gone; wide = E.wide })

  -- a queue gave an item, or had none
  pub pop_leaves : (p : PartData S V) (r : Rows V) (n : Room) (ns : List ℕ) (o : Option (Item V)) (new : Line (Item V)) → RepInvariant p r n ns
      → new.room ≡ n → IfSome o (λ i. IsPermutation p.queue (i ∷ new.items)) → IfNone o ((p.queue ≡ []) × (new.items ≡ [])) → RepInvariant (record p { queue = new.items }) r new.room ns
  pop_leaves p r n ns (Some i) new D e q z = subst (λ k. RepInvariant (record p { queue = new.items }) r k ns) (sym e) (item_leaves p r n ns i new.items D q)
  pop_leaves p r n ns None new D e q z = subst (λ k. RepInvariant (record p { queue = new.items }) r k ns) (sym e)
      (permuted p r n ns new.items D (subst (IsPermutation p.queue) (z.0 ∙ sym z.1) (IsPermutation-refl p.queue)))

  module _ (A : Algebra V) where
    pub popped : (p old : PartData S V) (r : Rows V) (n : Room) (ns : List ℕ) (i : Item V) (xs : List (Item V)) → p ≡ old → RepInvariant p r n ns
        → IsPermutation p.queue (i ∷ xs) → IsInTurn A (network_of p.setup) p.setup.order (state_in p) p.queue i xs → IsPopped A old (record p { queue = xs }) i
    popped p old r n ns i xs e D q f = let E = (permuted p r n ns (i ∷ xs) D q).sound in record {
      left = subst (λ (u : PartData S V). IsPermutation u.queue (i ∷ xs)) e q;
      in_turn = subst (λ (u : PartData S V). IsInTurn A (network_of u.setup) u.setup.order (state_in u) u.queue i xs) e f;
      same = ap (λ (u : PartData S V). record u { queue = xs }) e;
      arc = E.here.0.1;
      here = E.here.0.0;
      clear = (let o = E.once (item_arc i) in let one = is_self (item_arc i) in omega (arith, o, one));
    }

    -- the first of a queue in order of arrival
    pub first_popped : (p old : PartData S V) (r : Rows V) (n : Room) (ns : List ℕ) (new : Line (Item V)) (o : Option (Item V)) → p ≡ old
        → RepInvariant p r n ns → old.setup.order ≡ Arrival → IfSome o (λ i. p.queue ≡ i ∷ new.items) → IfSome o (λ i. IsPopped A old (record p { queue = new.items }) i)
    first_popped p old r n ns new None e D k q = tt
    first_popped p old r n ns new (Some i) e D k q = popped p old r n ns i new.items e D (subst (IsPermutation p.queue) q (IsPermutation-refl p.queue))
        (subst (λ u. IsInTurn A (network_of p.setup) u (state_in p) p.queue i new.items) (sym (ap (λ (u : PartData S V). u.setup.order) e ∙ k)) q)
