-- What is said of faults by their numbers.
use Rattle.std.specs.Prelude.{◌≡◌, ◌≢◌, ℕ, ◌⊎◌, List, [], ◌∷◌, ◌++◌, Result, All, Any, Contains, codes, decimal, flat_map, map}
use Rattle.batch_inputs.specs.declared.faults.RunFault.{RunFault}
use Rattle.text_lines.specs.Streams.{Output}
use Rattle.fault_reports.specs.declared.rows.FaultRow.{FaultRow}
use Rattle.fault_reports.specs.Reports.{EndsAs, IsUsage, Reaches, ReportsFault, run_fault}

-- the lines of a row: what the fault says, an example, and what it usually comes from
abbrev pub row_text : FaultRow → List ℕ
row_text row =
    codes "fault " ++ decimal row.number ++ codes ": " ++ row.meaning.now
    ++ 10 ∷ codes "  example: " ++ row.example.now
    ++ 10 ∷ codes "  cause: " ++ row.cause.now ++ 10 ∷ []

-- the faults by their numbers, in order, each with what it says
abbrev pub meanings : List (ℕ × List ℕ)
meanings =
    (1, codes "an input could not be opened or read")
    ∷ (2, codes "an input exceeds 4294967296 bytes, and no line within them has a fault")
    ∷ (3, codes "memory, or the start of a worker, was refused")
    ∷ (10, codes "no problem line before this line, or none at all")
    ∷ (11, codes "a second problem line")
    ∷ (12, codes "a problem line with wrong fields or words")
    ∷ (13, codes "a line that this file does not have")
    ∷ (14, codes "a wrong number of fields")
    ∷ (15, codes "not a number")
    ∷ (16, codes "a number that is too large")
    ∷ (17, codes "no such vertex")
    ∷ (18, codes "more lines than the problem line announces")
    ∷ (19, codes "fewer lines than the problem line announces")
    ∷ (20, codes "a place that an earlier line of an order has")
    ∷ (30, codes "answers that do not begin with a header")
    ∷ (31, codes "a header with wrong fields or words, or an algebra that is not here")
    ∷ (32, codes "a line of answers where it does not belong")
    ∷ (33, codes "a wrong number of fields in a line of answers")
    ∷ (34, codes "not a number, in answers")
    ∷ (35, codes "a number that is too large, in answers")
    ∷ (36, codes "answers that end before the last one is complete")
    ∷ (40, codes "a worker reached its limit of turns")
    ∷ (41, codes "a gate stopped a worker")
    ∷ (42, codes "the output could not be written")
    ∷ (43, codes "options that do not go with the algebra: `--limit` or `--factors`")
    ∷ (44, codes "a graph that is too dense to factor, so it has no order")
    ∷ []

-- a table with one row for each fault, in the order of their numbers, which says what the fault
-- means
abbrev pub IsFaultTable : List FaultRow → Type 0
IsFaultTable table = map (λ row. (row.number, row.meaning.now)) table ≡ meanings

-- a row of this table, with this number
abbrev pub IsRowOf : List FaultRow → ℕ → FaultRow → Type 0
IsRowOf table number row = (row.number ≡ number) × Contains table row

-- no row of this table has this number
abbrev pub HasNoRow : List FaultRow → ℕ → Type 0
HasNoRow table number = All (λ row. row.number ≢ number) table

-- the rows of a table that are asked for: those of these numbers, in this order, and without a
-- number all
abbrev pub AreAskedFor : List FaultRow → List ℕ → List FaultRow → Type 0
AreAskedFor table [] rows = rows ≡ table
AreAskedFor table (number ∷ numbers) rows = (map (λ row. row.number) rows ≡ number ∷ numbers) × All (Contains table) rows

-- the rows that were asked for reached the output, with status 0; or they could not be written,
-- which is reported as fault 42
pub record AreShown {W E : Type 0} (table : List FaultRow) (numbers : List ℕ) (out out_after : Output W) (errors errors_after : Output E) (result : ℕ) : Type 0 where
  pub rows : List FaultRow
  pub asked : AreAskedFor table numbers rows
  pub outcome : Result (Unit {0}) RunFault
  pub reaches : Reaches (flat_map row_text rows) out out_after outcome
  pub ends : EndsAs (λ _. 0) errors errors_after outcome result

-- the rows of these numbers were shown; or one of them has no row, which is wrong usage; or memory
-- was refused
abbrev pub Explains : {W E : Type 0} → List FaultRow → List ℕ → Output W → Output W → Output E → Output E → ℕ → Type 0
Explains table numbers out out_after errors errors_after result =
    AreShown table numbers out out_after errors errors_after result
    ⊎ ((Any (HasNoRow table) numbers × IsUsage out out_after errors errors_after result)
    ⊎ ((out_after ≡ out) × ReportsFault (run_fault 3) errors errors_after result))
