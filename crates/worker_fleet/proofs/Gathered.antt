-- What the stations of a diffusion keep while they are dealt, moved, and put together.
use Rattle.std.proofs.Common.{zero, suc, ◌≡◌, ℕ, ◌<◌, ◌+◌, List, [], ◌∷◌, ◌++◌, length, get_or, refl, ap, subst, append_assoc, arith, inl, inr, Bool, true, false, if◌then◌else◌, nat_eq, nat_lt, Vec}
use Rattle.worker_fleet.proofs.Words.{All, common_steps, nil_from_length, StationData, Driven, Dealing, begins_at, following, dealt, share_of, of_group, gathered, Some_of}
use Rattle.std.proofs.lemmas.List.Elements.{All-nil, All-cons, All-head, All-tail, All-append}
use Rattle.batch_settings.specs.declared.dealing.Dealing.TheVariants.{Shards, Questions}

pub Some_of-left : {X : Type 0} (P : X → Type 0) (xs ys : List X) → Some_of P xs → Some_of P (xs ++ ys)
unfolding Some_of
Some_of-left P [] ys h = absurd h
Some_of-left P (x ∷ xs) ys (inl h) = inl h
Some_of-left P (x ∷ xs) ys (inr h) = inr (Some_of-left P xs ys h)

pub Some_of-right : {X : Type 0} (P : X → Type 0) (xs ys : List X) → Some_of P ys → Some_of P (xs ++ ys)
unfolding Some_of
Some_of-right P [] ys h = h
Some_of-right P (x ∷ xs) ys h = inr (Some_of-right P xs ys h)

below_following : (n at : ℕ) → 0 < n → following n at < n
below_following n at some = elim (nat_lt (at + 1) n) as (λ b. (nat_lt (at + 1) n ≡ b) → (if b then at + 1 else 0) < n) [
  | true ↦ λ e. grind (arith, common_steps)
  | false ↦ λ e. some
] refl

pub begins_below : (rule : Dealing) (n q : ℕ) → 0 < n → begins_at rule n q < n
begins_below Shards n q some = some
begins_below Questions n q some = omega (arith, some)

-- what is dealt holds what each thing does, and is some worker's
module _ {X : Type 0} where
  dealt_all : (P : ℕ × X → Type 0) (n w at group : ℕ) (xs : List X) → All (λ x. P (group, x)) xs → All P (dealt n w at group xs)
  unfolding dealt
  dealt_all P n w at group [] h = All-nil P
  dealt_all P n w at group (x ∷ xs) h =
      let more = dealt_all P n w (following n at) group xs (All-tail (λ x. P (group, x)) x xs h) in
      elim (nat_eq at w) as (λ b. All P (if b then (group, x) ∷ dealt n w (following n at) group xs else dealt n w (following n at) group xs)) [
        | true ↦ All-cons P (group, x) (dealt n w (following n at) group xs) (All-head (λ x. P (group, x)) x xs h) more
        | false ↦ more
      ]

  later : (P : ℕ × X → Type 0) (b : Bool) (p : ℕ × X) (rest : List (ℕ × X)) → Some_of P rest → Some_of P (if b then p ∷ rest else rest)
  unfolding Some_of
  later P true p rest h = inr h
  later P false p rest h = h

  dealt_some : (Q : X → Type 0) (n at group : ℕ) (xs : List X) → at < n → Some_of Q xs → (w : ℕ) × (w < n) × Some_of (λ p. (p.0 ≡ group) × Q p.1) (dealt n w at group xs)
  unfolding dealt Some_of
  dealt_some Q n at group [] low h = absurd h
  dealt_some Q n at group (x ∷ xs) low (inl h) =
      let same : nat_eq at at ≡ true = grind (arith, common_steps) in
      (at, low, rw same (inl (refl, h)))
  dealt_some Q n at group (x ∷ xs) low (inr h) =
      let found = dealt_some Q n (following n at) group xs (below_following n at (omega arith)) h in
      (found.0, found.1, later (λ p. (p.0 ≡ group) × Q p.1) (nat_eq at found.0) (group, x) (dealt n found.0 (following n at) group xs) found.2)

  module _ {Z : Type 0} where
    pub share_all : (P : ℕ × X → Type 0) (rule : Dealing) (n w first : ℕ) (groups : List (Vec X Z))
        → ((q : ℕ) (d : Vec X Z) → q < length groups → All (λ x. P (first + q, x)) (get_or groups q d).items) → All P (share_of rule n w first groups)
    unfolding share_of
    share_all P rule n w first [] h = All-nil P
    share_all P rule n w first (g ∷ gs) h =
        All-append P (dealt n w (begins_at rule n first) first g.items) (share_of rule n w (suc first) gs)
        (dealt_all P n w (begins_at rule n first) first g.items (let e : first + 0 ≡ first = omega arith in rw e at (h 0 g (omega arith))))
        (share_all P rule n w (suc first) gs (λ q d low. let e : first + suc q ≡ suc first + q = omega arith in rw e at (h (suc q) d (omega arith))))

    pub share_some : (Q : X → Type 0) (rule : Dealing) (n first : ℕ) (groups : List (Vec X Z)) (q : ℕ) (d : Vec X Z) → 0 < n → q < length groups → Some_of Q (get_or groups q d).items
        → (w : ℕ) × (w < n) × Some_of (λ p. (p.0 ≡ first + q) × Q p.1) (share_of rule n w first groups)
    unfolding share_of
    share_some Q rule n first [] q d some low h = absurd (omega arith)
    share_some Q rule n first (g ∷ gs) zero d some low h =
        let found = dealt_some Q n (begins_at rule n first) first g.items (begins_below rule n first some) h in
        let e : first + 0 ≡ first = omega arith in
        rw e (found.0, found.1, Some_of-left (λ p. (p.0 ≡ first) × Q p.1) (dealt n found.0 (begins_at rule n first) first g.items) (share_of rule n found.0 (suc first) gs) found.2)
    share_some Q rule n first (g ∷ gs) (suc q) d some low h =
        let found = share_some Q rule n (suc first) gs q d some (omega arith) h in
        let e : first + suc q ≡ suc first + q = omega arith in
        rw e (found.0, found.1, Some_of-right (λ p. (p.0 ≡ suc first + q) × Q p.1) (dealt n found.0 (begins_at rule n first) first g.items) (share_of rule n found.0 (suc first) gs) found.2)

-- what was put together
module _ {X : Type 0} where
  group_all : (P : ℕ × X → Type 0) (q : ℕ) (ps : List (ℕ × X)) → All P ps → All (λ x. P (q, x)) (of_group q ps)
  unfolding of_group
  group_all P q [] h = All-nil (λ x. P (q, x))
  group_all P q (p ∷ ps) h =
      let more = group_all P q ps (All-tail P p ps h) in
      elim (nat_eq p.0 q) as (λ b. (nat_eq p.0 q ≡ b) → All (λ x. P (q, x)) (if b then p.1 ∷ of_group q ps else of_group q ps)) [
        | true ↦ λ e. let same : p.0 ≡ q = grind (arith, common_steps) in All-cons (λ x. P (q, x)) p.1 (of_group q ps) (subst (λ i. P (i, p.1)) same (All-head P p ps h)) more
        | false ↦ λ e. more
      ] refl

  group_some : (Q : X → Type 0) (q : ℕ) (ps : List (ℕ × X)) → Some_of (λ p. (p.0 ≡ q) × Q p.1) ps → Some_of Q (of_group q ps)
  unfolding of_group Some_of
  group_some Q q [] h = absurd h
  group_some Q q (p ∷ ps) (inl h) = let same : nat_eq p.0 q ≡ true = let e = h.0 in grind (arith, common_steps) in rw same (inl h.1)
  group_some Q q (p ∷ ps) (inr h) = go (nat_eq p.0 q) (group_some Q q ps h)
    where
      go : (b : Bool) → Some_of Q (of_group q ps) → Some_of Q (if b then p.1 ∷ of_group q ps else of_group q ps)
      go true h = inr h
      go false h = h

module _ {A V : Type 0} where
  pub gathered_all : (P : ℕ × StationData A V → Type 0) (q : ℕ) (rs : List (Driven A V)) → All (λ r. All P r.stations.items) rs → All (λ s. P (q, s)) (gathered q rs)
  unfolding gathered
  gathered_all P q [] h = All-nil (λ s. P (q, s))
  gathered_all P q (r ∷ rs) h = All-append (λ s. P (q, s)) (of_group q r.stations.items) (gathered q rs)
      (group_all P q r.stations.items (All-head (λ r. All P r.stations.items) r rs h))
      (gathered_all P q rs (All-tail (λ r. All P r.stations.items) r rs h))

  pub gathered_some : (Q : StationData A V → Type 0) (q : ℕ) (rs : List (Driven A V)) (w : ℕ) (d : Driven A V) → w < length rs
      → Some_of (λ p. (p.0 ≡ q) × Q p.1) (get_or rs w d).stations.items → Some_of Q (gathered q rs)
  unfolding gathered
  gathered_some Q q [] w d low h = absurd (omega arith)
  gathered_some Q q (r ∷ rs) zero d low h = Some_of-left Q (of_group q r.stations.items) (gathered q rs) (group_some Q q r.stations.items h)
  gathered_some Q q (r ∷ rs) (suc w) d low h = Some_of-right Q (of_group q r.stations.items) (gathered q rs) (gathered_some Q q rs w d (omega arith) h)

  pub gathered_more : (q : ℕ) (r : Driven A V) (all rest : List (Driven A V)) (before after : List (StationData A V)) → all ≡ r ∷ rest → after ≡ before ++ of_group q r.stations.items
      → after ++ gathered q rest ≡ before ++ gathered q all
  unfolding gathered
  gathered_more q r all rest before after e put = rw (e, put) (append_assoc before (of_group q r.stations.items) (gathered q rest))

  pub gathered_none : (q : ℕ) (rest : List (Driven A V)) → length rest ≡ 0 → gathered q rest ≡ []
  unfolding gathered
  gathered_none q rest e = ap (gathered q) (nil_from_length rest e)
