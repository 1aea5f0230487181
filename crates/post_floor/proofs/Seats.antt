-- Seats that are cut off and joined keep the rule.
use Rattle.post_floor.proofs.Words.{◌≡◌, ℕ, zero, suc, ◌+◌, ◌<◌, true, List, [], ◌∷◌, ◌++◌, map, set, get_or, refl, sym, ap, ◌∙◌, subst, inl, inr, arith, map_push, same_from_push, some, some-ne-none, get_elem?, Algebra, PartData, SetupData, network_of, place_in, total, is, All, part_weight, HoldsTables, core_of, OwnOutboxIsEmpty, total_append, all_append, all_parts, View, box_count, AreInOrder, Slot, flat, fill_claims, read_claims, CountsNone, MailboxInvariant, IsSeatOf, words_between, FloorInvariant}
use Rattle.std.proofs.lemmas.Bool.{or_cases}
use Rattle.atomic_table.specs.Table.{State, Splits, Joins}
use Rattle.atomic_table.proofs.Lists.{at_set, at_snoc}
use Rattle.post_floor.specs.Seats.{tail, first_alone, cut_left, cut_right, aside_left, aside_right, both, spent}
use Rattle.post_floor.proofs.Totals.{total_set}
use Rattle.post_floor.proofs.Parts.{flat_total, flat_each, flat_at}

pub total_snoc : {A : Type 0} (f : A → ℕ) (xs : List A) (y : A) → total f (xs ++ y ∷ []) ≡ total f xs + f y
total_snoc f xs y = omega (arith, total_append f xs (y ∷ []))

total_cut : {A : Type 0} (f : A → ℕ) (xs : List A) → total f (tail xs) + total f (first_alone xs) ≡ total f xs
total_cut f [] = refl
total_cut f (x ∷ xs) = omega arith

all_tail : {A : Type 0} (P : A → Type 0) (xs : List A) → All P xs → All P (tail xs)
all_tail P [] p = tt
all_tail P (x ∷ xs) p = p.1

all_first : {A : Type 0} (P : A → Type 0) (xs : List A) → All P xs → All P (first_alone xs)
all_first P [] p = tt
all_first P (x ∷ xs) p = (p.0, tt)

tail_at : {A : Type 0} (xs : List A) (i : ℕ) (x : A) → get_elem? (tail xs) i ≡ some x → get_elem? xs (suc i) ≡ some x
tail_at [] i x e = e
tail_at (y ∷ ys) i x e = e

first_at : {A : Type 0} (xs : List A) (i : ℕ) (x : A) → get_elem? (first_alone xs) i ≡ some x → get_elem? xs 0 ≡ some x
first_at [] i x e = e
first_at (y ∷ ys) zero x e = e
first_at (y ∷ ys) (suc i) x e = absurd (some-ne-none x (sym e))

none_left : {A : Type 0} (xs ys : List A) → xs ++ ys ≡ [] → xs ≡ []
none_left [] ys e = refl
none_left (x ∷ xs) ys e = absurd cc

none_right : {A : Type 0} (xs ys : List A) → xs ++ ys ≡ [] → ys ≡ []
none_right [] ys e = e
none_right (x ∷ xs) ys e = absurd cc

module _ {S V : Type 0} (meaning : S → Algebra V) (t : SetupData S) where
  abbrev St : Type 0
  St = State (Slot V) (View S V)

  -- one of the views had the view's parts and next slots
  abbrev WasThere : St → View S V → Type 0
  WasThere s v = (n : ℕ) (p : PartData S V) → IsSeatOf n v p
      → (id : ℕ) × (u : View S V) × (get_elem? s.views id ≡ some u) × IsSeatOf n u p × (u.next_fill ≡ v.next_fill) × (u.next_read ≡ v.next_read)

  -- the same parts, claims, counts and knowledge, in other seats
  pub record Reseats (s : St) (views' : List (View S V)) : Type 1 where
    pub all : (Q : PartData S V → Type 0) → All Q (flat s.views) → All Q (flat views')
    pub parts : (f : PartData S V → ℕ) → total (λ (v : View S V). total f v.parts) views' ≡ total (λ (v : View S V). total f v.parts) s.views
    pub fills : (j : ℕ) → total (fill_claims j) views' ≡ total (fill_claims j) s.views
    pub reads : (j : ℕ) → total (read_claims j) views' ≡ total (read_claims j) s.views
    pub sent : total (λ (v : View S V). v.sent) views' ≡ total (λ (v : View S V). v.sent) s.views
    pub delivered : total (λ (v : View S V). v.delivered) views' ≡ total (λ (v : View S V). v.delivered) s.views
    pub signalled : total (λ (v : View S V). v.signalled) views' ≡ total (λ (v : View S V). v.signalled) s.views
    pub accepted : total (λ (v : View S V). v.accepted) views' ≡ total (λ (v : View S V). v.accepted) s.views
    pub idle : ((id : ℕ) (v : View S V) → get_elem? s.views id ≡ some v → v.parts ≡ [] → CountsNone v) → (id : ℕ) (v : View S V) → get_elem? views' id ≡ some v → v.parts ≡ [] → CountsNone v
    pub seen : (D : Type 0) → ((id : ℕ) (v : View S V) → get_elem? s.views id ≡ some v → v.seen ≡ true → D) → (id : ℕ) (v : View S V) → get_elem? views' id ≡ some v → v.seen ≡ true → D
    pub were : (id : ℕ) (v : View S V) → get_elem? views' id ≡ some v → WasThere s v

  reseated : (s : St) (r : FloorInvariant meaning t s) (views' : List (View S V)) → Reseats s views' → FloorInvariant meaning t (record { words = s.words; homes = s.homes; views = views' })
  reseated s r views' c =
      let flat_same : (f : PartData S V → ℕ) → total f (flat views') ≡ total f (flat s.views) = λ f. flat_total f views' ∙ c.parts f ∙ sym (flat_total f s.views) in record {
        events = r.events;
        shown = record {
          same = c.all (λ (p : PartData S V). p.setup ≡ t) r.shown.same;
          shown = record {
            tables = c.all (HoldsTables (meaning t.diffusion.algebra) (network_of t) (place_in t) (core_of meaning t r.events)) r.shown.shown.tables;
            weighs = λ h. let q = flat_same (part_weight h) in omega (arith, r.shown.shown.weighs h, q);
            apart = λ j. let q = flat_same (λ (p : PartData S V). is j p.shard) in omega (arith, r.shown.shown.apart j, q);
          };
        };
        whole = λ j lt. flat_same (λ (p : PartData S V). is j p.shard) ∙ r.whole j lt;
        below = c.all (λ (p : PartData S V). p.shard < t.plan.shards) r.below;
        idle = c.idle r.idle;
        counts = record { sent = c.sent ∙ r.counts.sent; delivered = c.delivered ∙ r.counts.delivered; signalled = c.signalled ∙ r.counts.signalled; accepted = c.accepted ∙ r.counts.accepted };
        boxes = λ j jl. subst (λ (z : ℕ × ℕ). MailboxInvariant t j (get_or s.words j 0) (get_elem? s.homes j) z.0 z.1) (λ i. (sym (c.fills j) i, sym (c.reads j) i)) (r.boxes j jl);
        own = c.all (λ (p : PartData S V). OwnOutboxIsEmpty p) r.own;
        best = r.best;
        done = r.done;
        seen = c.seen (get_or s.words (box_count t.plan.shards) 0 ≡ 1) r.seen;
        wide = r.wide;
        roomy = r.roomy;
        ordered = λ i j v w p q at at' P Q ne. let x = c.were i v at t.plan.shards p P in let y = c.were j w at' t.plan.shards q Q in
            subst (λ (z : List ℕ × List ℕ). AreInOrder (words_between t.plan.shards s.words p.shard q.shard) (get_or z.0 p.shard 0) (get_or z.1 q.shard 0))
            (λ k. (y.5 k, x.4 k)) (r.ordered x.0 y.0 x.1 y.1 p q x.2 y.2 x.3 y.3 ne);
      }

  -- a view v is cut into l and w
  pub record Cuts (v l w : View S V) : Type 1 where
    pub all : (Q : PartData S V → Type 0) → All Q v.parts → All Q l.parts × All Q w.parts
    pub parts : (f : PartData S V → ℕ) → total f l.parts + total f w.parts ≡ total f v.parts
    pub fills : (j : ℕ) → fill_claims j l + fill_claims j w ≡ fill_claims j v
    pub reads : (j : ℕ) → read_claims j l + read_claims j w ≡ read_claims j v
    pub sent : l.sent + w.sent ≡ v.sent
    pub delivered : l.delivered + w.delivered ≡ v.delivered
    pub signalled : l.signalled + w.signalled ≡ v.signalled
    pub accepted : l.accepted + w.accepted ≡ v.accepted
    pub idle : (v.parts ≡ [] → CountsNone v) → (l.parts ≡ [] → CountsNone l) × (w.parts ≡ [] → CountsNone w)
    pub seen_left : l.seen ≡ v.seen
    pub seen_right : w.seen ≡ v.seen
    pub left : (n : ℕ) (p : PartData S V) → IsSeatOf n l p → IsSeatOf n v p × (v.next_fill ≡ l.next_fill) × (v.next_read ≡ l.next_read)
    pub right : (n : ℕ) (p : PartData S V) → IsSeatOf n w p → IsSeatOf n v p × (v.next_fill ≡ w.next_fill) × (v.next_read ≡ w.next_read)

  pub splits_as : (id : ℕ) (v l w : View S V) → Cuts v l w → Splits (FloorInvariant meaning t) id v l w
  splits_as id v l w c s r at =
      let views' : List (View S V) = set s.views id l ++ w ∷ [] in
      let sums : (f : View S V → ℕ) → f l + f w ≡ f v → total f views' ≡ total f s.views = λ f e. let p = total_snoc f (set s.views id l) w in
      omega (arith, p, total_set f s.views id v l at, e) in
      let where' : (Q : View S V → Type 0) → ((i : ℕ) (u : View S V) → get_elem? s.views i ≡ some u → Q u) → Q l → Q w → (i : ℕ) (u : View S V)
      → get_elem? views' i ≡ some u → Q u = λ Q old ql qw i u e.
      elim (at_snoc (set s.views id l) w u i e) [
        | inl e' ↦ elim (at_set s.views id i l u e') [ inl z ↦ subst Q z.1 ql | inr z ↦ old i u z.1 ]
        | inr z ↦ subst Q z qw
      ] in
      reseated s r views' (record {
        all = λ Q a. let cut = c.all Q (flat_at Q s.views id v a at) in flat_each Q views' (where' (λ (u : View S V). All Q u.parts) (λ i u e. flat_at Q s.views i u a e) cut.0 cut.1);
        parts = λ f. sums (λ (u : View S V). total f u.parts) (c.parts f);
        fills = λ j. sums (fill_claims j) (c.fills j);
        reads = λ j. sums (read_claims j) (c.reads j);
        sent = sums (λ (u : View S V). u.sent) c.sent;
        delivered = sums (λ (u : View S V). u.delivered) c.delivered;
        signalled = sums (λ (u : View S V). u.signalled) c.signalled;
        accepted = sums (λ (u : View S V). u.accepted) c.accepted;
        idle = λ old. let cut = c.idle (old id v at) in where' (λ (u : View S V). u.parts ≡ [] → CountsNone u) old cut.0 cut.1;
        seen = λ D old. where' (λ (u : View S V). u.seen ≡ true → D) old (λ e. old id v at (sym c.seen_left ∙ e)) (λ e. old id v at (sym c.seen_right ∙ e));
        were = where' (WasThere s) (λ i u a n p P. (i, u, a, P, refl, refl)) (λ n p P. let x = c.left n p P in (id, v, at, x.0, x.1, x.2)) (λ n p P. let x = c.right n p P in (id, v, at, x.0, x.1, x.2));
      })

  pub splits : (id : ℕ) (v : View S V) → v.sent ≡ total (λ p. p.sent) v.parts → v.fills ≡ [] → v.reads ≡ [] → v.delivered ≡ 0 → v.signalled ≡ 0
      → v.accepted ≡ 0 → Splits (FloorInvariant meaning t) id v (cut_left v) (cut_right v)
  splits id v sent fills reads none1 none2 none3 = splits_as id v (cut_left v) (cut_right v) (record {
    all = λ Q a. (all_tail Q v.parts a, all_first Q v.parts a);
    parts = λ f. total_cut f v.parts;
    fills = λ j. let z : fill_claims j v ≡ 0 = ap (total (is j)) fills in omega (arith, z);
    reads = λ j. let z : read_claims j v ≡ 0 = ap (total (is j)) reads in omega (arith, z);
    sent = total_cut (λ (p : PartData S V). p.sent) v.parts ∙ sym sent;
    delivered = omega (arith, none1);
    signalled = omega (arith, none2);
    accepted = omega (arith, none3);
    idle = λ _. (
      λ e. record { sent = ap (total (λ (p : PartData S V). p.sent)) e; delivered = none1; signalled = none2; accepted = none3 },
      λ e. record { sent = ap (total (λ (p : PartData S V). p.sent)) e; delivered = none1; signalled = none2; accepted = none3 },
    );
    seen_left = refl;
    seen_right = refl;
    left = λ n p P. (record { place = suc P.place; has = tail_at v.parts P.place p P.has; below = P.below; fills = P.fills; reads = P.reads }, refl, refl);
    right = λ n p P. (record { place = 0; has = first_at v.parts P.place p P.has; below = P.below; fills = P.fills; reads = P.reads }, refl, refl);
  })

  pub splits_aside : (id : ℕ) (v : View S V) → Splits (FloorInvariant meaning t) id v (aside_left v) (aside_right v)
  splits_aside id v = splits_as id v (aside_left v) (aside_right v) (record {
    all = λ Q a. (tt, a);
    parts = λ f. omega arith;
    fills = λ j. omega arith;
    reads = λ j. omega arith;
    sent = omega arith;
    delivered = omega arith;
    signalled = omega arith;
    accepted = omega arith;
    idle = λ old. (
      (λ e. record { sent = refl; delivered = refl; signalled = refl; accepted = refl }),
      λ e. let q = old e in
          record { sent = q.sent; delivered = q.delivered; signalled = q.signalled; accepted = q.accepted },
    );
    seen_left = refl;
    seen_right = refl;
    left = λ n p P. absurd (some-ne-none p (sym P.has));
    right = λ n p P. (record { place = P.place; has = P.has; below = P.below; fills = P.fills; reads = P.reads }, refl, refl);
  })

  pub joins : (id : ℕ) (v : View S V) (other : ℕ) (w : View S V) → Joins (FloorInvariant meaning t) id v other w (both v w) spent
  joins id v other w s r at ne at' =
      let b : View S V = both v w in let e : View S V = spent in let views1 : List (View S V) = set s.views id b in let views' : List (View S V) = set views1 other e in
      let was : get_elem? s.views other ≡ some w = elim (at_set s.views id other b w at') [ inl z ↦ absurd (ne z.0) | inr z ↦ z.1 ] in
      let sums : (f : View S V → ℕ) → f b ≡ f v + f w → f e ≡ 0 → total f views' ≡ total f s.views = λ f p q. let y = total_set f s.views id v b at in
      let z = total_set f views1 other w e at' in omega (arith, y, z, p, q) in
      let where' : (Q : View S V → Type 0) → ((i : ℕ) (u : View S V) → get_elem? s.views i ≡ some u → Q u) → Q b → Q e → (i : ℕ) (u : View S V)
      → get_elem? views' i ≡ some u → Q u = λ Q old qb qe i u a.
      elim (at_set views1 other i e u a) [
        | inl z ↦ subst Q z.1 qe
        | inr z ↦ elim (at_set s.views id i b u z.1) [ inl y ↦ subst Q y.1 qb | inr y ↦ old i u y.1 ]
      ] in
      reseated s r views' (record {
        all = λ Q a. flat_each Q views'
            (where' (λ (u : View S V). All Q u.parts) (λ i u e'. flat_at Q s.views i u a e')
            (all_append Q v.parts w.parts (flat_at Q s.views id v a at) (flat_at Q s.views other w a was)) tt);
        parts = λ f. sums (λ (u : View S V). total f u.parts) (total_append f v.parts w.parts) refl;
        fills = λ j. sums (fill_claims j) (total_append (is j) v.fills w.fills) refl;
        reads = λ j. sums (read_claims j) (total_append (is j) v.reads w.reads) refl;
        sent = sums (λ (u : View S V). u.sent) refl refl;
        delivered = sums (λ (u : View S V). u.delivered) refl refl;
        signalled = sums (λ (u : View S V). u.signalled) refl refl;
        accepted = sums (λ (u : View S V). u.accepted) refl refl;
        idle = λ old. where' (λ (u : View S V). u.parts ≡ [] → CountsNone u) old
            (λ q. let x = old id v at (none_left v.parts w.parts q) in let y = old other w was (none_right v.parts w.parts q) in record {
              sent = (omega (arith, x.sent, y.sent));
              delivered = (omega (arith, x.delivered, y.delivered));
              signalled = (omega (arith, x.signalled, y.signalled));
              accepted = (omega (arith, x.accepted, y.accepted));
            })
            (λ q. record { sent = refl; delivered = refl; signalled = refl; accepted = refl });
        seen = λ D old. where' (λ (u : View S V). u.seen ≡ true → D) old (λ q. elim (or_cases v.seen w.seen q) [ inl z ↦ old id v at z | inr z ↦ old other w was z ]) (λ z. absurd cc);
        were = where' (WasThere s) (λ i u a n p P. (i, u, a, P, refl, refl)) (λ n p P. absurd (omega (arith, P.fills, P.below)))
            (λ n p P. absurd (some-ne-none p (sym P.has)));
      })

-- the last of a list leaves
pub all_front : {A : Type 0} (P : A → Type 0) (xs ys : List A) (x : A) → ys ≡ xs ++ x ∷ [] → All P ys → All P xs × P x
all_front P xs ys x e p = let r = all_parts P xs (x ∷ []) (subst (All P) e p) in (r.0, r.1.0)

-- the last of the seats is that of the last part
pub last_seat : {X Y : Type 0} (f : X → Y) (ps qs : List X) (p : X) (ds es : List Y) (d : Y) → ps ≡ qs ++ p ∷ [] → ds ≡ map f ps → ds ≡ es ++ d ∷ [] → (es ≡ map f qs) × (d ≡ f p)
last_seat f ps qs p ds es d e m h = same_from_push es (map f qs) d (f p) (sym h ∙ m ∙ ap (map f) e ∙ map_push f qs p)
