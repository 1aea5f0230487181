-- A number or none, kept as one number: 2^32 - 1 stands for none.
use Rattle.std.specs.Prelude.{◌≡◌, ℕ, Bool, true, false, cond, eqb, refl, Option, Some, None}
use Rattle.std.proofs.Common.{sym}
use Rattle.std.proofs.lemmas.Bool.{eqb-true}

-- the number that is kept, or none
abbrev pub slot_number : ℕ → Option ℕ
slot_number n = cond (eqb n 4294967295) None (Some n)

-- the number that is kept for a number or none
abbrev pub kept_as : Option ℕ → ℕ
kept_as None = 4294967295
kept_as (Some n) = n

kept_by : (n : ℕ) (b : Bool) → eqb n 4294967295 ≡ b → kept_as (cond b None (Some n)) ≡ n
kept_by n true e = sym (eqb-true n 4294967295 e)
kept_by n false e = refl

-- nothing is lost
pub kept_again : (n : ℕ) → kept_as (slot_number n) ≡ n
kept_again n = kept_by n (eqb n 4294967295) refl
