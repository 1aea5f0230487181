-- The state of the parser of an order, in the terms of the rules.
use Rattle.std.specs.Prelude.{◌≡◌, ℕ, List, length, slice_index, Bool, Result, Ok, Err, IfOk}
use Rattle.text_lines.specs.declared.faults.LineFault.{LineFault}
use Rattle.text_lines.specs.declared.faults.ReadFault.{ReadFault}
use Rattle.text_lines.specs.Takes.{Breaks, GivesBy}
use Rattle.text_lines.specs.Meaning.{Meaning}
use Rattle.elimination_order.specs.declared.order.Order.{Order}
use Rattle.order_files.specs.declared.order_parser.OrderParser.{OrderParser}
use Rattle.order_files.specs.OrderFiles.{vertex_placed, order_rules}

-- the parser has noted these places
pub record HasNoted (s : OrderParser) (places : List ℕ) : Type 0 where
  pub count : length places ≡ s.order.count
  pub placed : (i : ℕ) → slice_index s.order.vertices.items i ≡ vertex_placed places i

-- the rule gives the places that the parser has noted then, or is broken as the fault says
abbrev pub Takes : {A : Type 0} → Result (List ℕ) ℕ → OrderParser → Result A LineFault → Type 0
Takes rule s (Ok x) = (places : List ℕ) × (rule ≡ Ok places) × HasNoted s places
Takes rule s (Err e) = Breaks rule e

-- the lines from a line number on give this
abbrev pub GivesOrder : Bool → OrderParser → ℕ → List (List ℕ) → Result Order ReadFault → Type 0
GivesOrder cut s at ls r = (places : List ℕ) → HasNoted s places →
    GivesBy (order_rules s.vertices) places (λ order. order.vertices.items) cut at ls r × IfOk r (λ order. length order.vertices.items ≡ s.vertices)

-- no field is kept before its line ends
abbrev pub order_meaning : Meaning OrderParser Order
order_meaning = record { gives = GivesOrder; so_far = λ _ _. Unit {0} }
