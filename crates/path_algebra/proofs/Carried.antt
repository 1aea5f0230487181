-- Numbers carry the values of Shortest, Hops and Within.
use Rattle.path_algebra.proofs.Words.{◌≡◌, ℕ, ◌/◌, ◌≤◌, ◌^◌, Bool, true, false, refl, sym, subst, arith, Option, Some, None, le-leb, leb-true, AlgebraName, within, held_sums, IsBestLabel, counted, CarryHops, CarryHopsWithin}
use Rattle.std.proofs.lemmas.Bool.Decides.{nat_tests}
use Rattle.std.specs.Prelude.{IsSome, nat_le, if◌then◌else◌}
use Rattle.path_algebra.specs.Carried.{carried_value, IsCarried}
use Rattle.path_algebra.proofs.CountedLaws.{number_fits, source_is_zero, sums_carry_hops, within_carries_hops}

-- sums held at 2^63: each best number carries a value
pub held_carried : (name : AlgebraName) (cost : ℕ → ℕ) → IsCarried (held_sums name cost) cost
held_carried name cost g sources k roads inside fit = record {
  labels = one;
  sources_are_zero = carries.sources_are_zero;
  hops = λ v x best some. ((carries.best v x).0 best).1;
  steps = λ u v x y best_u best_v some. carries.steps u v x y best_u best_v;
  parents = λ number v y u best some known. carries.parents number v y u best known;
}
  where
    carries : CarryHops (held_sums name cost) g cost k sources
    carries = sums_carry_hops g roads sources inside cost k fit name

    one : (v : ℕ) (number : Option ℕ) → IsBestLabel (counted cost k) g sources v number →
        IsBestLabel (held_sums name cost) g sources v (carried_value (held_sums name cost) k number)
    one v None none = (carries.unreached v).0 none
    one v (Some x) best =
        let below = number_fits g roads sources inside cost k fit name v x best in
        let t : nat_le (x / 2 ^ k) (2 ^ 63) ≡ true = le-leb (x / 2 ^ k) (2 ^ 63) (omega (arith, below)) in
        let e : carried_value (held_sums name cost) k (Some x) ≡ Some (x / 2 ^ k) = rw t refl in
        subst (λ (l : Option ℕ). IsBestLabel (held_sums name cost) g sources v l) (sym e) ((carries.best v x).0 best).0

-- a value up to the limit is not above it
fits : (limit c : ℕ) → IsSome (if nat_le c limit then Some c else None) → c ≤ limit
fits limit c some = elim (nat_le c limit) as (λ b. nat_le c limit ≡ b → IsSome (if b then Some c else None) → c ≤ limit)
    [ true ↦ (λ t h. leb-true c limit t) | false ↦ (λ t h. absurd (cc)) ] refl some

-- sums up to a limit: a best number above it carries no value
pub within_carried : (limit : ℕ) → IsCarried (within limit) (λ w. w)
within_carried limit g sources k roads inside fit = record {
  labels = one;
  sources_are_zero = source_is_zero g roads sources inside (λ w. w) k fit;
  hops = λ v x best some. ((carries.best v x (fits limit (x / 2 ^ k) some)).0 best).1;
  steps = λ u v x y best_u best_v some. carries.steps u v x y best_u best_v (fits limit (y / 2 ^ k) some);
  parents = λ number v y u best some known. carries.parents number v y u best (fits limit (y / 2 ^ k) some) known;
}
  where
    carries : CarryHopsWithin limit g k sources
    carries = within_carries_hops g sources limit roads inside k fit

    one : (v : ℕ) (number : Option ℕ) → IsBestLabel (counted (λ w. w) k) g sources v number →
        IsBestLabel (within limit) g sources v (carried_value (within limit) k number)
    one v None none = carries.unreached v none
    one v (Some x) best = both (nat_le (x / 2 ^ k) limit) refl
      where
        both : (b : Bool) → nat_le (x / 2 ^ k) limit ≡ b →
            IsBestLabel (within limit) g sources v (if b then Some (x / 2 ^ k) else None)
        both true t = ((carries.best v x (leb-true (x / 2 ^ k) limit t)).0 best).0
        both false t = carries.beyond v x best (grind (arith, nat_tests))
