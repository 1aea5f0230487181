-- What a worker's stations keep while they are moved, beside the places of their floors.
use Rattle.std.proofs.Common.{◌≡◌, List, ◌∷◌, subst, ℕ, [], inl, inr, Fits, w64, set, length-set, ◌+◌, ◌≤◌, ◌<◌, length, get_or, arith, true, false}
use Rattle.worker_fleet.proofs.Words.{All, HoldsAt, All-head, All-tail, All-cons, Some_of, Steps, still, then, MovesEach, Algebra, FloorData, StationData, NextOn, IsOnItsFloor, StationHasEnded, StationIsOpen}
use Rattle.worker_fleet.proofs.Moved.{MovesEach-by}

module _ {X : Type 0} (P : X → Type 0) (xs ys : List X) (x : X) (e : xs ≡ x ∷ ys) (h : All P xs) where
  pub All-first : P x
  All-first = All-head P x ys (subst (λ l. All P l) e h)

  pub All-rest : All P ys
  All-rest = All-tail P x ys (subst (λ l. All P l) e h)

module _ {X : Type 0} (S : X → X → Type 0) (P : X → Type 0) (keep : (p q : X) → S p q → P p → P q) where
  Steps-keeps : (n : ℕ) (x y : X) → Steps S n x y → P x → P y
  Steps-keeps _ x y still h = h
  Steps-keeps _ x z (then {n = n} {y = y} r s) h = keep y z s (Steps-keeps n x y r h)

  pub MovesEach-some : (ns : List ℕ) (xs ys : List X) → MovesEach S ns xs ys → Some_of P xs → Some_of P ys
  unfolding Some_of
  MovesEach-some ns xs ys m = MovesEach-by S (λ ns xs ys. Some_of P xs → Some_of P ys) (λ h. h)
      (λ n x y ns xs ys s r h. elim h [ inl here ↦ inl (Steps-keeps n x y s here) | inr there ↦ inr (r there) ]) ns xs ys m

  pub MovesEach-all : (ns : List ℕ) (xs ys : List X) → MovesEach S ns xs ys → All P xs → All P ys
  MovesEach-all ns xs ys m = MovesEach-by S (λ ns xs ys. All P xs → All P ys) (λ h. h)
      (λ n x y ns xs ys s r h. All-cons P y ys (Steps-keeps n x y s (All-head P x xs h)) (r (All-tail P x xs h))) ns xs ys m

pub IsOnItsFloor-next : {A V : Type 0} (meaning : A → Algebra V) (floors : List (FloorData A)) (budget : ℕ) (p q : ℕ × StationData A V)
    → IsOnItsFloor floors p → NextOn meaning floors budget p q → IsOnItsFloor floors q
IsOnItsFloor-next meaning floors budget p q h n = record { floor = n.floor; is_floor = rw n.place n.is_floor; own = n.turned.own }

pub open_not_ended : {A V : Type 0} (xs : List (ℕ × StationData A V)) (k : ℕ) → k < length xs → HoldsAt StationIsOpen xs k → All StationHasEnded xs → ⊥
open_not_ended [] k low o e = omega arith
open_not_ended (x ∷ xs) k low o e =
    let a : (get_or (x ∷ xs) k x).1.ended ≡ false = o x in
    let b : (get_or (x ∷ xs) k x).1.ended ≡ true = e k x low in
    cc

pub set_place : {X : Type 0} (xs : List X) (k : ℕ) (v : X) → k < length xs → k + 1 ≤ length (set xs k v)
set_place xs k v low = omega (arith, length-set xs k v)

pub fits_next : (k n : ℕ) → k < n → n < 18446744073709551616 → Fits w64 (k + 1)
fits_next k n low small = omega arith
