-- How bytes are cut into lines.
use Rattle.std.specs.Prelude.{◌≡◌, ◌==◌, ◌-◌, ℕ, List, [], ◌∷◌, ◌++◌, length, map, take, All, Bool, false, slice_index}
use Rattle.std.specs.Str.Lines.{strip_carriage_return}
use Rattle.text_lines.specs.declared.line_cutter.LineCutter.{LineCutter}
use Rattle.text_lines.specs.Lines.{fields, has_bytes, is_line_end}
use Rattle.text_lines.specs.Scans.{Scan, Shows, scan_of}
use Rattle.text_lines.specs.Words.{held_word}

-- whether the last byte is a CR
abbrev pub ends_in_return : List ℕ → Bool
ends_in_return line = slice_index line (length line - 1) == 13

-- these are the bytes since the last line's end: whether there are any, whether a CR is pending,
-- and the scan of them
pub record Holds (told_of : List (List ℕ) → Type 0) (any late : Bool) (scan : Scan) (present : List ℕ) : Type 0 where
  pub begun : any ≡ has_bytes present
  pub pending : late ≡ ends_in_return present
  pub shown : Shows told_of scan (strip_carriage_return present)
  pub whole : All (λ b. is_line_end b ≡ false) present

-- the same, for what a cutter keeps
abbrev pub IsPresent : {T : Type 0} → (T → List (List ℕ) → Type 0) → LineCutter T → List ℕ → Type 0
IsPresent so_far s present = Holds (so_far s.taker) s.begun s.pending (scan_of s.scanner) present

-- this is the line that has ended: its first six fields are kept, and the taker was given all of
-- them
pub record IsLine {T : Type 0} (so_far : T → List (List ℕ) → Type 0) (s : LineCutter T) (line : List ℕ) : Type 0 where
  pub shown : (scan_of s.scanner).0 ≡ take 6 (map held_word (fields line))
  pub told : so_far s.taker (fields line)

-- these bytes end the present line
pub record EndsLine {T : Type 0} (so_far : T → List (List ℕ) → Type 0) (old new : LineCutter T) (bytes : List ℕ) : Type 0 where
  pub prefix : List ℕ
  pub ends : bytes ≡ prefix ++ 10 ∷ []
  pub within : (present : List ℕ) → IsPresent so_far old present → All (λ b. is_line_end b ≡ false) (present ++ prefix)
  pub line : (present : List ℕ) → IsPresent so_far old present → IsLine so_far new (strip_carriage_return (present ++ prefix))

-- all of these bytes continue the present line
pub record StaysInLine {T : Type 0} (so_far : T → List (List ℕ) → Type 0) (old new : LineCutter T) (bytes : List ℕ) (taken : ℕ) : Type 0 where
  pub all : taken ≡ length bytes
  pub present : (present : List ℕ) → IsPresent so_far old present → IsPresent so_far new (present ++ bytes)
