-- What the inputs of a batch spell.
use Rattle.std.specs.Prelude.{◌≡◌, ℕ, List, Option, None, Ok, IfSome}
use Rattle.road_graph.specs.GraphData.{GraphData}
use Rattle.text_lines.specs.Rules.{Rules, text_read}
use Rattle.road_files.specs.Asked.{Asked}
use Rattle.graph_text.specs.GraphFiles.{gr_rules}
use Rattle.road_files.specs.QuestionFiles.{question_rules}
use Rattle.road_files.specs.BundleFiles.{bundle_rules}

-- the value is what the input spells; and it is what some text spells, also if the input does not
-- show its bytes
pub record IsReadAs {S V : Type 0} (rules : Rules S V) (input : Option (List ℕ)) (value : V) : Type 0 where
  pub told : IfSome input (λ b. text_read rules b ≡ Ok value)
  pub some_text : (b : List ℕ) × (text_read rules b ≡ Ok value)

-- two inputs spell this graph, and these questions over it
pub record IsPairOf (graph questions : Option (List ℕ)) (g : GraphData) (asked : Asked) : Type 0 where
  pub graph_is : IsReadAs gr_rules graph g
  pub questions_are : IsReadAs (question_rules g.vertices None) questions asked

-- an input spells this graph and these questions over it
abbrev pub IsBundleOf : Option (List ℕ) → GraphData → Asked → Type 0
IsBundleOf input g asked = IsReadAs bundle_rules input (g, asked)
