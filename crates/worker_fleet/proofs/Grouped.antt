-- What a group comes to, from what each worker did with its share.
use Rattle.worker_fleet.proofs.Words.{◌≡◌, ℕ, ◌<◌, ◌+◌, ◌∙◌, Bool, List, [], ◌∷◌, length, get_or, arith, true, Vec, All, Algebra, FloorData, StationData, Driven, Ended, Dealing, share_of, Drives, GroupFault, NextOn, IsOnItsFloor, StationHasEnded}
use Rattle.std.proofs.lemmas.Option.{slice_get_within}
use Rattle.worker_fleet.specs.Groups.{gathered, Some_of, HasShard, IsDone}
use Rattle.worker_fleet.specs.Stops.{IsFirstStop, IsStop}
use Rattle.worker_fleet.proofs.Carried.{MovesEach-some, MovesEach-all, IsOnItsFloor-next}
use Rattle.worker_fleet.proofs.Gathered.{share_all, share_some, gathered_all, gathered_some}

-- an element of a list that has one
pub one_of : {X : Type 0} (xs : List X) → 0 < length xs → X
one_of [] h = absurd (omega (arith, h))
one_of (x ∷ xs) h = x

module _ {A V Z : Type 0} (meaning : A → Algebra V) (floors : List (FloorData A)) (budget limit workers : ℕ) (answers : ℕ → ℕ → Bool → Type 0)
    (shares : List (Vec (ℕ × StationData A V) Z)) (rs : List (Driven A V)) (some : Vec (ℕ × StationData A V) Z) (count : length rs ≡ length shares)
    (each : (k : ℕ) (s : Vec (ℕ × StationData A V) Z) (r : Driven A V) → k < length shares → Drives meaning floors budget limit answers k (get_or shares k s).items (get_or rs k r)) where
  did : (k : ℕ) (r : Driven A V) → k < length rs → Drives meaning floors budget limit answers k (get_or shares k some).items (get_or rs k r)
  did k r low = each k some r (omega (arith, count, low))

  all_ended : All (λ r. r.outcome ≡ Ended) rs → All (λ r. All StationHasEnded r.stations.items) rs
  all_ended h = λ k r low. (did k r low).ended.0 (h k r low)

  module _ (placed : All (λ s. All (IsOnItsFloor floors) s.items) shares) where
    all_placed : All (λ r. All (IsOnItsFloor floors) r.stations.items) rs
    all_placed = λ k r low. let w = did k r low in
        MovesEach-all (NextOn meaning floors budget) (IsOnItsFloor floors) (λ a b n h. IsOnItsFloor-next meaning floors budget a b h n) w.counts _ _ w.moved (placed k some (omega (arith, count, low)))

    pub all_within : All (λ r. All (λ p. p.0 < length floors) r.stations.items) rs
    all_within = λ k r low j p below. let h = all_placed k r low j p below in slice_get_within floors _ h.floor h.is_floor

    pub all_done : All (λ r. r.outcome ≡ Ended) rs → (q : ℕ) → All (IsDone floors q) (gathered q rs)
    all_done h q = gathered_all (λ p. IsOnItsFloor floors p × (p.1.ended ≡ true)) q rs (λ k r low j p below. (all_placed k r low j p below, all_ended h k r low j p below))

  pub is_stop : {W : Type 0} (rule : Dealing) (diffusions : List (Vec (StationData A V) W))
      → ((w : ℕ) (d : Vec (ℕ × StationData A V) Z) → w < workers → (get_or shares w d).items ≡ share_of rule workers w 0 diffusions)
      → length shares ≡ workers
      → (fault : GroupFault) → IsFirstStop rs fault → IsStop meaning floors rule budget limit workers answers diffusions fault
  is_stop rule diffusions dealt all fault first = record {
    all = rs;
    count = count ∙ all;
    drove = λ w d low. rw (dealt w some low) at (each w some d (omega (arith, low, all)));
    first = first;
  }

  pub none_lost : {W : Type 0} (rule : Dealing) (diffusions : List (Vec (StationData A V) W))
      → ((w : ℕ) (d : Vec (ℕ × StationData A V) Z) → w < workers → (get_or shares w d).items ≡ share_of rule workers w 0 diffusions)
      → length shares ≡ workers → 0 < workers
      → (q k : ℕ) (d : Vec (StationData A V) W) → q < length diffusions → HasShard k (get_or diffusions q d).items → HasShard k (gathered q rs)
  none_lost rule diffusions dealt all working q k d low h =
      let found = share_some (λ s. s.part.shard ≡ k) rule workers 0 diffusions q d working low h in
      let zero_more : 0 + q ≡ q = omega arith in
      let inside : found.0 < length rs = omega (arith, found.1, all, count) in
      let here : Some_of (λ (p : ℕ × StationData A V). (p.0 ≡ q) × (p.1.part.shard ≡ k)) (get_or shares found.0 some).items = rw (dealt found.0 some found.1) (rw zero_more at found.2) in
      let r = one_of rs (omega (arith, inside)) in
      let w = did found.0 r inside in
      gathered_some (λ s. s.part.shard ≡ k) q rs found.0 r inside
      (MovesEach-some (NextOn meaning floors budget) (λ (p : ℕ × StationData A V). (p.0 ≡ q) × (p.1.part.shard ≡ k)) (λ a b n h. (n.place ∙ h.0, n.turned.shard ∙ h.1)) w.counts _ _ w.moved here)

-- what is dealt are the diffusions' own stations
pub shares_placed : {A V Z W : Type 0} (floors : List (FloorData A)) (rule : Dealing) (workers : ℕ) (shares : List (Vec (ℕ × StationData A V) Z)) (diffusions : List (Vec (StationData A V) W))
    → ((w : ℕ) (d : Vec (ℕ × StationData A V) Z) → w < workers → (get_or shares w d).items ≡ share_of rule workers w 0 diffusions) → length shares ≡ workers
    → ((q : ℕ) (d : Vec (StationData A V) W) → q < length diffusions → All (λ s. IsOnItsFloor floors (q, s)) (get_or diffusions q d).items) → All (λ s. All (IsOnItsFloor floors) s.items) shares
shares_placed floors rule workers shares diffusions dealt all own = λ w d low. rw (dealt w d (omega (arith, all, low)))
    (share_all (IsOnItsFloor floors) rule workers w 0 diffusions (λ q e below. let zero_more : 0 + q ≡ q = omega arith in rw zero_more (own q e below)))
