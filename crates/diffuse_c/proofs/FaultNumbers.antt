-- A reader that never fails reports the fault of its text, or that there was no memory, if the text
-- is not too long.
use Rattle.std.proofs.Common.{◌≡◌, ◌≢◌, ℕ, ◌≤◌, ◌⊎◌, inl, inr, List, length, refl, arith, Result, Ok, Err, Option, Some}
use Rattle.std.specs.Prelude.{IfErr}
use Rattle.road_graph.specs.GraphData.{GraphData}
use Rattle.text_lines.specs.declared.faults.ReadFault.{ReadFault}
use Rattle.text_lines.specs.Reads.{IsNumberFrom, IsReadNumber, IsTooLong, ReadsFault, RunsOutUnbroken, TellsFailure}
use Rattle.text_lines.specs.Rules.{text_read}
use Rattle.graph_text.specs.GraphFiles.{gr_rules}
use Rattle.diffuse_c.specs.Texts.{IsReadFaultOf, RunsOutWithin}

cases_number : (n : ℕ) → IsNumberFrom 10 19 n → (n ≡ 1 → ⊥) → (n ≡ 2 → ⊥) → (n ≡ 3) ⊎ ((10 ≤ n) × (n ≤ 19))
cases_number n (inl low) sound short = grind (arith, low, sound, short)
cases_number n (inr own) sound short = inr own

-- the fault is the text's first one if its number is not 1, 2 or 3, and it is neither 1 nor 2
fault_of : (bytes : List ℕ) (f : ReadFault) → (2 ≤ f.number → f.number ≢ 3 → text_read gr_rules bytes ≡ Err f) → (f.number ≡ 1 → ⊥) → (f.number ≡ 2 → ⊥) → IsNumberFrom 10 19 f.number → IsReadFaultOf bytes f
fault_of bytes f first sound short numbered = elim (cases_number f.number numbered sound short) [
  | inl memory ↦ inl memory
  | inr own ↦ inr (own, first (omega (arith, own.0)) (λ e. omega (arith, own.0, e)))
]

pub fault_told : (bytes : List ℕ) (r : Result GraphData ReadFault) → length bytes ≤ 4294967296 → ReadsFault gr_rules (Some bytes) r → TellsFailure 0 0 r → IsTooLong (Some bytes) r → IsReadNumber 10 19 r → IfErr r (λ f. IsReadFaultOf bytes f)
fault_told bytes (Ok g) fits first told long numbered = tt
fault_told bytes (Err f) fits first told long numbered = fault_of bytes f first (λ e. told e refl) (λ e. omega (arith, fits, long e)) numbered

pub ran_out : (bytes : List ℕ) (r : Result GraphData ReadFault) (rest : Option (List ℕ)) → RunsOutUnbroken gr_rules (Some bytes) rest r → IfErr r (λ f. f.number ≡ 3 → RunsOutWithin bytes)
ran_out bytes (Ok g) rest after = tt
ran_out bytes (Err f) rest after = λ e. record { rest = rest; after = after e }
