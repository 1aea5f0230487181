-- The state of the parser of a bundle, in the terms of the rules.
use Rattle.std.specs.Prelude.{ℕ, ⊤, if◌then◌else◌, List, Result, Bool, IfOk}
use Rattle.road_graph.specs.GraphData.{GraphData}
use Rattle.text_lines.specs.declared.faults.ReadFault.{ReadFault}
use Rattle.text_lines.specs.Takes.{GivesBy}
use Rattle.text_lines.specs.Meaning.{Meaning}
use Rattle.text_lines.specs.Words.{Word}
use Rattle.graph_text.specs.GraphTakes.{roads_so_far, taken_of}
use Rattle.road_files.specs.declared.questions.Questions.{Questions}
use Rattle.road_files.specs.declared.bundle_part.BundlePart.{BundlePart}
use Rattle.road_files.specs.declared.bundle_part.BundlePart.TheVariants as parts
use Rattle.road_files.specs.Asked.{AreQuestionsOf}
use Rattle.road_files.specs.QuestionTakes.{ListSoFar, sources_given, questions_begun}
use Rattle.road_files.specs.BundleFiles.{BundleSoFar, InGraph, InQuestions, begins_questions, first_question_line, graph_part_line, question_part_line, bundle_with, bundle_rules}

-- what was read so far, in the part that is being read
abbrev pub bundle_so_far : BundlePart → BundleSoFar
bundle_so_far (parts.Graph g) = InGraph (taken_of g)
bundle_so_far (parts.Questions p) = InQuestions (roads_so_far p.roads) (questions_begun p.questions)

-- the rule for a line, applied to what is kept of it
abbrev pub kept_line : BundlePart → List Word → Result BundleSoFar ℕ
kept_line (parts.Graph g) ws = if begins_questions ws then first_question_line (taken_of g) ws else graph_part_line (taken_of g) ws
kept_line (parts.Questions p) ws = question_part_line (roads_so_far p.roads) (questions_begun p.questions) ws p.questions.list.is_list p.questions.list.count (sources_given p.questions.list)

-- these are the fields of the present line so far, in the part that keeps them
abbrev pub PartSoFar : BundlePart → List (List ℕ) → Type 0
PartSoFar (parts.Graph g) fs = ⊤
PartSoFar (parts.Questions p) fs = ListSoFar p.questions.list fs

-- the lines from a line number on give this, where `roads` is the data of a graph
abbrev pub GivesBundle : {G : Type 0} → (G → GraphData) → Bool → BundlePart → ℕ → List (List ℕ) → Result (G × Questions) ReadFault → Type 0
GivesBundle roads cut p at ls r = GivesBy bundle_rules (bundle_so_far p) (bundle_with roads) cut at ls r × IfOk r (λ b. AreQuestionsOf (roads b.0).vertices b.1)

-- the fields of a line are kept before it ends, in the part that keeps them
abbrev pub bundle_meaning : {S G : Type 0} → (S → BundlePart) → (G → GraphData) → Meaning S (G × Questions)
bundle_meaning part roads = record { gives = λ cut s at ls r. GivesBundle roads cut (part s) at ls r; so_far = λ s fs. PartSoFar (part s) fs }
