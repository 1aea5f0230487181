-- What a status means of the graph of a handle, as it is passed on.
use Rattle.std.proofs.Common.{◌≡◌, ℕ, inl, inr, List, [], ◌∷◌, Option, Some, sym, subst, of_z, to_z, w32}
use Rattle.diffuse_c.proofs.Words.{ℤ, pos, GraphData, IsOneOf, Shared}
use Rattle.diffuse_c.specs.Holding.{OfGraph}

-- these statuses are read as they were written
abbrev pub AreReadAsWritten : List ℕ → Type 0
AreReadAsWritten [] = Unit {0}
AreReadAsWritten (n ∷ ns) = (to_z w32 (of_z w32 (pos n)) ≡ pos n) × AreReadAsWritten ns

read_as_written : (ns : List ℕ) (status : ℤ) → AreReadAsWritten ns → IsOneOf ns status → to_z w32 (of_z w32 status) ≡ status
read_as_written [] status all one = absurd one
read_as_written (n ∷ ns) status all (inl e) = subst (λ (m : ℤ). to_z w32 (of_z w32 m) ≡ m) (sym e) all.0
read_as_written (n ∷ ns) status all (inr rest) = read_as_written ns status all.1 rest

-- what the status means of the graph is so of the one that the handle has
pub passed_on : (shared : Option Shared) (g : Shared) (ns : List ℕ) (P : GraphData → ℤ → Type 0) (status : ℤ) → shared ≡ Some g →
    AreReadAsWritten ns → IsOneOf ns status → P g.roads status → OfGraph shared (λ h. P h (to_z w32 (of_z w32 status)))
passed_on shared g ns P status is all one h =
    subst (λ (r : Option Shared). OfGraph r (λ h. P h (to_z w32 (of_z w32 status)))) (sym is)
    (subst (P g.roads) (sym (read_as_written ns status all one)) h)
