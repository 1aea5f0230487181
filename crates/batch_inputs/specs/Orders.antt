-- How a run read an order of elimination, between two moments of its input, if there is one.
use Rattle.std.specs.Prelude.{◌≡◌, ◌≢◌, ℕ, ◌+◌, ◌≤◌, ◌↔◌, ◌⊎◌, List, Option, None, Some, Result, Ok, Err, IfSome}
use Rattle.std.specs.Option.{IsSomeAnd}
use Rattle.std.specs.Io.KnownBytes.{IsAtEnd}
use Rattle.road_graph.specs.GraphData.{GraphData}
use Rattle.text_lines.specs.Reads.{BreaksNone, RunsOutAfter}
use Rattle.text_lines.specs.Rules.{text_read}
use Rattle.text_lines.specs.Streams.{Input}
use Rattle.road_files.specs.Asked.{Asked}
use Rattle.order_files.specs.OrderFiles.{order_rules}
use Rattle.batch_inputs.specs.declared.faults.File.{File}
use Rattle.batch_inputs.specs.declared.faults.File.TheVariants.{Order, NoFile}
use Rattle.batch_inputs.specs.declared.faults.RunFault.{RunFault}
use Rattle.batch_inputs.specs.Spelled.{IsReadAs}
use Rattle.batch_inputs.specs.InputFaults.{IsTextFault}

-- the inputs are these, or that of an order
abbrev pub IsOrderedFile : (File → Type 0) → File → Type 0
IsOrderedFile inputs file = inputs file ⊎ (file ≡ Order)

-- a fault of this file lies in the run itself
abbrev pub IsRunFile : File → Type 0
IsRunFile file = file ≡ NoFile

-- an order of n vertices was read to its end
pub record HasReadOrder {O : Type 0} (n : ℕ) (order order_after : Input O) : Type 0 where
  -- the input spells one
  pub spells : (list : List ℕ) × IsReadAs (order_rules n) order.left list
  -- no read failed
  pub sound : order_after.failures ≡ order.failures
  pub end : IsAtEnd order_after.left
  -- at most 2 ^ 32 + 1 reads were asked for
  pub asked : order_after.asked ≤ order.asked + 4294967297

-- reading an order of n vertices ended with this fault
pub record HasOrderFault {O : Type 0} (n : ℕ) (order order_after : Input O) (f : RunFault) : Type 0 where
  pub file : f.file ≡ Order
  -- it is its first one
  pub first : IsTextFault f → IfSome order.left (λ b. text_read (order_rules n) b ≡ Err (record { number = f.number; line = f.line }))
  -- 1 is reported exactly if a read failed
  pub failed : (f.number ≡ 1) ↔ (order_after.failures ≢ order.failures)
  -- 3 is reported only of bytes that fit, after those of all reads but the last, which break no
  -- rule
  pub memory : f.number ≡ 3 → RunsOutAfter (BreaksNone (order_rules n)) order.left order_after.left
  -- at most 2 ^ 32 + 1 reads were asked for
  pub asked : order_after.asked ≤ order.asked + 4294967297

-- so it was if there is such an input
abbrev pub HasReadOrderIf : {O : Type 0} → ℕ → (order order_after : Option (Input O)) → Type 0
HasReadOrderIf n None after = after ≡ None
HasReadOrderIf n (Some order) None = ⊥
HasReadOrderIf n (Some order) (Some after) = HasReadOrder n order after

-- there is one, and it has this fault
abbrev pub HasOrderFaultIn : {O : Type 0} → ℕ → (order order_after : Option (Input O)) → RunFault → Type 0
HasOrderFaultIn n None after f = ⊥
HasOrderFaultIn n (Some order) None f = ⊥
HasOrderFaultIn n (Some order) (Some after) f = HasOrderFault n order after f

-- an input spells this order of n vertices; what is so of the order without one is `Without`
abbrev pub SpellsOrder : {O : Type 0} → (Without : Option (List ℕ) → Type 0) → ℕ → Option (Input O) → Option (List ℕ) → Type 0
SpellsOrder Without n None order = Without order
SpellsOrder Without n (Some input) order = IsSomeAnd order (IsReadAs (order_rules n) input.left)

-- P holds of the number of vertices of a graph that was read, with questions over it
abbrev pub OfVertices : (GraphData → Asked → Type 0) → (ℕ → Type 0) → Type 0
OfVertices IsRead P = (g : GraphData) × (asked : Asked) × IsRead g asked × P g.vertices

-- An order was read, if there is one, after a graph and questions that are read from these inputs,
-- and before what has faults of those files. Of these inputs `HasRead` says what a run with an
-- outcome did to them. A fault of these inputs or of the settings leaves the order as it is; a
-- fault of the order is reported after they were read without one; a later fault comes after the
-- order was read too.
abbrev pub HasReadOrdered : {O : Type 0} → (IsRead : GraphData → Asked → Type 0) → (inputs later : File → Type 0) → (HasRead : Result (Unit {0}) RunFault → Type 0) → (order order_after : Option (Input O)) → Result (Unit {0}) RunFault → Type 0
HasReadOrdered IsRead inputs later HasRead order order_after (Ok _) = HasRead (Ok tt) × OfVertices IsRead (λ n. HasReadOrderIf n order order_after)
HasReadOrdered IsRead inputs later HasRead order order_after (Err f) =
    (HasRead (Err f) × (inputs f.file ⊎ (f.number ≡ 43)) × (order_after ≡ order))
    ⊎ ((HasRead (Ok tt) × OfVertices IsRead (λ n. HasOrderFaultIn n order order_after f))
    ⊎ (HasRead (Err f) × later f.file × (f.number ≢ 43) × OfVertices IsRead (λ n. HasReadOrderIf n order order_after)))
