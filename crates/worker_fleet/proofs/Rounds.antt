-- Stations that take turns round and round, in the order of their list.
use Rattle.worker_fleet.proofs.Words.{◌≡◌, ◌≢◌, inl, inr, ℕ, ◌+◌, ◌<◌, ◌≤◌, List, length, get_or, set, ap, ◌∙◌, arith, true, false, sum, AllWithin, HoldsAt, cases_eq, cases_lt, common_steps, StationData, MovesEach}
use Rattle.worker_fleet.specs.Turns.{StationHasEnded, StationIsOpen, IsNextOpen, TookTurns}
use Rattle.worker_fleet.proofs.Moved.{zeros, zeros-at, more_at, more-here, more-there, MovesEach-none, MovesEach-read, MovesEach-length, sum-zeros, sum-more}

-- in this round the stations before the place `at` have had their turn, as far as they had not
-- ended
pub record InRound {A V : Type 0} (round at : ℕ) (counts : List ℕ) (stations : List (ℕ × StationData A V)) : Type 0 where
  pub most : (i : ℕ) → get_or counts i 0 ≤ round + 1
  pub later : (i : ℕ) → at ≤ i → get_or counts i 0 ≤ round
  pub least : (j : ℕ) → j < length stations → HoldsAt StationIsOpen stations j → round ≤ get_or counts j 0
  pub earlier : (j : ℕ) → j < length stations → j < at → HoldsAt StationIsOpen stations j → round + 1 ≤ get_or counts j 0

pub InRound-first : {A V : Type 0} (stations : List (ℕ × StationData A V)) → InRound 0 0 (zeros stations) stations
InRound-first stations = record {
  most = λ i. omega (arith, zeros-at stations i);
  later = λ i h. omega (arith, zeros-at stations i);
  least = λ j h o. omega arith;
  earlier = λ j h low o. absurd (omega (arith, low));
}

pub InRound-took_turns : {A V : Type 0} (round at : ℕ) (counts : List ℕ) (stations : List (ℕ × StationData A V)) → InRound round at counts stations → TookTurns counts stations
InRound-took_turns round at counts stations r = record {
  fair = λ i j low o. omega (arith, r.most i, r.least j low o);
  in_order = λ i j before low o. elim (cases_lt j at) as (λ _. get_or counts j 0 ≤ get_or counts i 0) [
    | inl is ↦ omega (arith, r.most j, r.earlier i low (omega (arith, before, is)) o)
    | inr is ↦ omega (arith, r.later j (omega (arith, is)), r.least i low o)
  ];
}

-- a station that has ended is not open
not_both : {A V : Type 0} (xs : List (ℕ × StationData A V)) (k low high : ℕ) (d : ℕ × StationData A V) → low ≤ k → k < high → AllWithin StationHasEnded xs low high → HoldsAt StationIsOpen xs k → ⊥
not_both xs k low high d above below e o =
    let a : (get_or xs k d).1.ended ≡ false = o d in
    let b : (get_or xs k d).1.ended ≡ true = e k d above below in
    cc

module _ {A V : Type 0} (round at k : ℕ) (counts : List ℕ) (stations : List (ℕ × StationData A V)) (z : ℕ × StationData A V)
    (long : length counts ≡ length stations) (was : InRound round at counts stations) (inside : k < length stations) where
  here : get_or (more_at counts k) k 0 ≡ get_or counts k 0 + 1
  here = more-here counts k (omega (arith, long, inside))

  still_open : (j : ℕ) → j ≢ k → HoldsAt StationIsOpen (set stations k z) j → HoldsAt StationIsOpen stations j
  still_open j ne o = λ d. let same : get_or (set stations k z) j d ≡ get_or stations j d = grind (arith, common_steps) in rw same at (o d)

  shorter : (j : ℕ) → j < length (set stations k z) → j < length stations
  shorter j low = let same : length (set stations k z) ≡ length stations = grind (arith, common_steps) in omega (arith, same, low)

  at_most : (n i : ℕ) → (i ≡ k → get_or counts k 0 + 1 ≤ n) → (i ≢ k → get_or counts i 0 ≤ n) → get_or (more_at counts k) i 0 ≤ n
  at_most n i same other = elim (cases_eq i k) as (λ _. get_or (more_at counts k) i 0 ≤ n) [
    | inl e ↦ rw e (omega (arith, here, same e))
    | inr ne ↦ omega (arith, more-there counts k i ne, other ne)
  ]

  at_least : (n j : ℕ) → (j ≡ k → n ≤ get_or counts k 0 + 1) → (j ≢ k → n ≤ get_or counts j 0) → n ≤ get_or (more_at counts k) j 0
  at_least n j same other = elim (cases_eq j k) as (λ _. n ≤ get_or (more_at counts k) j 0) [
    | inl e ↦ rw e (omega (arith, here, same e))
    | inr ne ↦ omega (arith, more-there counts k j ne, other ne)
  ]

  module _ (open_here : HoldsAt StationIsOpen stations k) where
    -- the next is in the same round
    same_round : at ≤ k → AllWithin StationHasEnded stations at k → InRound round (k + 1) (more_at counts k) (set stations k z)
    same_round on ended = record {
      most = λ i. at_most (round + 1) i (λ e. omega (arith, was.later k on)) (λ ne. was.most i);
      later = λ i high. at_most round i (λ e. absurd (omega (arith, e, high))) (λ ne. was.later i (omega (arith, on, high)));
      least = λ j low o. at_least round j (λ e. omega (arith, was.least k inside open_here)) (λ ne. was.least j (shorter j low) (still_open j ne o));
      earlier = λ j low before o. at_least (round + 1) j (λ e. omega (arith, was.least k inside open_here))
          (λ ne. elim (cases_lt j at) as (λ _. round + 1 ≤ get_or counts j 0) [
            | inl is ↦ was.earlier j (shorter j low) is (still_open j ne o)
            | inr is ↦ absurd (not_both stations j at k z (omega (arith, is)) (omega (arith, before, ne)) ended (still_open j ne o))
          ]);
    }

    -- the next begins another
    next_round : k < at → AllWithin StationHasEnded stations at (length stations) → AllWithin StationHasEnded stations 0 k → InRound (round + 1) (k + 1) (more_at counts k) (set stations k z)
    next_round back ended ended_before = record {
      most = λ i. at_most (round + 1 + 1) i (λ e. omega (arith, was.most k)) (λ ne. omega (arith, was.most i));
      later = λ i high. at_most (round + 1) i (λ e. absurd (omega (arith, e, high))) (λ ne. was.most i);
      least = λ j low o. at_least (round + 1) j (λ e. omega (arith, was.earlier k inside back open_here))
          (λ ne. elim (cases_lt j at) as (λ _. round + 1 ≤ get_or counts j 0) [
            | inl is ↦ was.earlier j (shorter j low) is (still_open j ne o)
            | inr is ↦ absurd (not_both stations j at (length stations) z (omega (arith, is)) (shorter j low) ended (still_open j ne o))
          ]);
      earlier = λ j low before o. at_least (round + 1 + 1) j (λ e. omega (arith, was.earlier k inside back open_here))
          (λ ne. absurd (not_both stations j 0 k z (omega arith) (omega (arith, before, ne)) ended_before (still_open j ne o)));
    }

-- some round goes on
abbrev pub GoesRound : {A V : Type 0} → (at : ℕ) (counts : List ℕ) (stations : List (ℕ × StationData A V)) → Type 0
GoesRound at counts stations = (round : ℕ) × InRound round at counts stations

pub GoesRound-next : {A V : Type 0} (at k : ℕ) (counts : List ℕ) (stations : List (ℕ × StationData A V)) (z : ℕ × StationData A V) → length counts ≡ length stations
    → GoesRound at counts stations → IsNextOpen stations at k → GoesRound (k + 1) (more_at counts k) (set stations k z)
GoesRound-next at k counts stations z long was next = elim next.nearest [
  | inl on ↦ (was.0, same_round was.0 at k counts stations z long was.1 next.inside next.here on.0 on.1)
  | inr back ↦ (was.0 + 1, next_round was.0 at k counts stations z long was.1 next.inside next.here back.0 back.1 back.2)
]

-- xs was moved to ys by n steps together, round and round up to the place `at`
abbrev pub MovedRound : {A V : Type 0} → (ℕ × StationData A V → ℕ × StationData A V → Type 0) → (n at : ℕ) → (xs ys : List (ℕ × StationData A V)) → Type 0
MovedRound S n at xs ys = (counts : List ℕ) × MovesEach S counts xs ys × (sum counts ≡ n) × GoesRound at counts ys

pub MovedRound-none : {A V : Type 0} (S : ℕ × StationData A V → ℕ × StationData A V → Type 0) (xs : List (ℕ × StationData A V)) → MovedRound S 0 0 xs xs
MovedRound-none S xs = (zeros xs, MovesEach-none S xs, sum-zeros xs, (0, InRound-first xs))

pub MovedRound-more : {A V : Type 0} (S : ℕ × StationData A V → ℕ × StationData A V → Type 0) (n at : ℕ) (xs ys : List (ℕ × StationData A V)) (k : ℕ) (y z : ℕ × StationData A V)
    → IsNextOpen ys at k → y ≡ get_or ys k y → S y z → MovedRound S n at xs ys → MovedRound S (n + 1) (k + 1) xs (set ys k z)
MovedRound-more S n at xs ys k y z next is s m =
    let len = (MovesEach-length S m.0 xs ys m.1).1 in
    let inside : k < length m.0 = omega (arith, len, next.inside) in
    (more_at m.0 k, MovesEach-read S m.0 xs ys k y z next.inside is s m.1, sum-more m.0 k inside ∙ ap (λ i. i + 1) m.2, GoesRound-next at k m.0 ys z len m.3 next)

pub MovedRound-took_turns : {A V : Type 0} (S : ℕ × StationData A V → ℕ × StationData A V → Type 0) (n at : ℕ) (xs ys : List (ℕ × StationData A V)) (m : MovedRound S n at xs ys) → TookTurns m.0 ys
MovedRound-took_turns S n at xs ys m = InRound-took_turns m.3.0 at m.0 ys m.3.1
