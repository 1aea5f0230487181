-- What the command `order` does.
use Rattle.std.specs.Prelude.{◌≡◌, ℕ, ◌⊎◌, [], ◌∷◌, length, Some, Result, Ok, Err}
use Rattle.road_graph.specs.GraphData.{GraphData}
use Rattle.text_lines.specs.declared.faults.ReadFault.{ReadFault}
use Rattle.text_lines.specs.Reads.{ReadsText}
use Rattle.text_lines.specs.Streams.{Input, Output}
use Rattle.graph_text.specs.GraphFiles.{gr_rules}
use Rattle.order_files.specs.WrittenOrders.{places_text}
use Rattle.elimination_order.specs.Bounds.{IsTooDense}
use Rattle.elimination_order.specs.Found.{IsFoundOn}
use Rattle.elimination_order.specs.declared.counts.Counts.{Counts}
use Rattle.elimination_order.specs.declared.care.Care.TheVariants.{Careful}
use Rattle.elimination_order.specs.declared.ordered.FoundOrder.{FoundOrder}
use Rattle.batch_inputs.specs.declared.faults.File.TheVariants.{Graph}
use Rattle.batch_inputs.specs.declared.faults.RunFault.{RunFault}
use Rattle.command_args.specs.declared.parsed.OrderArgs.{OrderArgs}
use Rattle.fault_reports.specs.Reports.{EndsAs, Reaches, run_fault}
use Rattle.command_files.specs.declared.files.FileSystem.{Ghosts}
use Rattle.command_files.specs.declared.opened_input.OpenedInput.{OpenedInput}
use Rattle.command_files.specs.declared.refusal.Refusal.TheVariants.{Fault}
use Rattle.program.specs.Commands.{IsRefused}
use Rattle.command_files.specs.Moments.{Moment}
use Rattle.command_files.specs.Opening.{AreOpened, IsMissing, inputs_ordered}

-- by these counts of its elimination the graph has too many links or triangles, or took too long
abbrev pub IsTooDenseFor : GraphData → Counts → Type 0
IsTooDenseFor g counts = IsTooDense g.vertices (length g.arcs) counts

-- nothing was written: the graph was given up by some counts, or memory was refused
abbrev pub HasNoOrder : {W : Type 0} → (GivesUp : Counts → Type 0) → Output W → Output W → Result (Unit {0}) RunFault → Type 0
HasNoOrder GivesUp out out_after (Ok _) = ⊥
HasNoOrder GivesUp out out_after (Err f) = (out_after ≡ out) × (((f ≡ run_fault 44) × (counts : Counts) × GivesUp counts) ⊎ (f ≡ run_fault 3))

-- the output has the places of the vertices in an order that was found on this graph with care, or a
-- write of them failed; or nothing was written
abbrev pub WritesPlaces : {W : Type 0} → (GivesUp : Counts → Type 0) → GraphData → Output W → Output W → Result (Unit {0}) RunFault → Type 0
WritesPlaces GivesUp g out out_after outcome =
    ((found : FoundOrder) × IsFoundOn g (Some Careful) found × Reaches (places_text found.order.places.items) out out_after outcome)
    ⊎ HasNoOrder GivesUp out out_after outcome

-- the vertices of a graph that was read were ordered; a fault of the graph is that of the command
abbrev pub OrdersRead : {W : Type 0} → Result GraphData ReadFault → Output W → Output W → Result (Unit {0}) RunFault → Type 0
OrdersRead (Ok g) out out_after outcome = WritesPlaces (IsTooDenseFor g) g out out_after outcome
OrdersRead (Err f) out out_after outcome = (outcome ≡ Err (record { number = f.number; file = Graph; line = f.line })) × (out_after ≡ out)

-- a graph was read, and its vertices were ordered
abbrev pub RanOrder : {G W : Type 0} → Input G → Input G → Output W → Output W → Result (Unit {0}) RunFault → Type 0
RanOrder roads roads_after out out_after outcome =
    (graph : Result GraphData ReadFault) × ReadsText roads roads_after gr_rules (λ g. g) 10 19 graph × OrdersRead graph out out_after outcome

-- the graph was opened, and then it was ordered
pub record OrdersOpened {P F I N W E : Type 0} (G : Ghosts P F I N) (args : OrderArgs) (old new : Moment P W E) (result : ℕ) : Type 0 where
  pub roads : Input (OpenedInput F I)
  pub roads_after : Input (OpenedInput F I)
  pub input : AreOpened G.opens (inputs_ordered args) (roads ∷ []) old.files new.files
  pub outcome : Result (Unit {0}) RunFault
  pub ran : RanOrder roads roads_after old.out new.out outcome
  pub ends : EndsAs (λ _. 0) old.errors new.errors outcome result

-- `order` with these arguments
abbrev pub DoesOrder : {P F I N W E : Type 0} → Ghosts P F I N → OrderArgs → Moment P W E → Moment P W E → ℕ → Type 0
DoesOrder G args old new result =
    IsRefused (λ files refusal. (f : RunFault) × (refusal ≡ Fault f) × IsMissing G.opens (inputs_ordered args) old.files files f) old new result
    ⊎ OrdersOpened G args old new result
