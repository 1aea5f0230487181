-- A bundle's line, as its parser takes it.
use Rattle.road_files.proofs.Words.{◌≡◌, ℕ, ◌<◌, List, [], ◌∷◌, map, Bool, false, Option, None, Ok, Err, refl, sym, ap, ◌∙◌, lit<, codes, subst, GraphData, ReadFault, Slot, fields, ◌>>=◌, value_of_lines, word_in, ShowsLine, Word, word_of, word_at, Keeps, keeps, short_word, RoadsSoFar, gr_line, Questions, AreQuestionsOf, question_line, question_line_of, sources_given, questions_begun, InGraph, InQuestions, begins_questions, bundle_line, bundle_with, bundle_rules}
use Rattle.std.specs.Option.{IfSome}
use Rattle.text_lines.specs.ShortLines.{HasShortFields}
use Rattle.graph_text.specs.declared.graph_parser.GraphParser.{GraphParser}
use Rattle.graph_text.specs.GraphTakes.{roads_so_far, taken_of}
use Rattle.graph_text.proofs.RuleLaws.{few, line_held}
use Rattle.road_files.specs.declared.bundle_part.BundlePart.{BundlePart}
use Rattle.road_files.specs.declared.bundle_part.BundlePart.TheVariants as parts
use Rattle.road_files.specs.BundleTakes.{bundle_so_far, kept_line, PartSoFar, GivesBundle}
use Rattle.road_files.proofs.HeldQuestionLines.{problem_held}
use Rattle.road_files.proofs.QuestionParserLaws.{list_rule}

module _ (kept ws : List Word) (k : Keeps kept ws) where
  begins_held : begins_questions kept ≡ begins_questions ws
  unfolding begins_questions
  begins_held = rw (
    k.more 1 (lit< tt),
    k.word 0 (lit< tt),
    k.word 1 (lit< tt),
    short_word (word_at 0 ws).text (codes "p") (lit< tt),
    short_word (word_at 1 ws).text (codes "aux") (lit< tt),
  ) refl

  graph_held : (s : Option RoadsSoFar) → IfSome s (λ r. r.vertices < 18446744073709551616) → bundle_line (InGraph s) kept ≡ bundle_line (InGraph s) ws
  graph_held s small = rw (begins_held, problem_held kept ws k None None, line_held kept ws k s small) refl

-- the rule of the line is that of what is kept
pub kept_rule : (p : BundlePart) (slots : List Slot) (l : List ℕ) → ShowsLine slots l → PartSoFar p (fields l) →
    bundle_line (bundle_so_far p) (map word_of (fields l)) ≡ kept_line p (map word_in slots)
kept_rule (parts.Graph g) slots l shown h =
    sym (graph_held (map word_in slots) (map word_of (fields l)) (keeps (map word_in slots) (fields l) shown) (taken_of g) (few g.taken))
kept_rule (parts.Questions p) slots l shown h =
    let list = p.questions.list in
    let same : question_line p.roads.vertices None (questions_begun p.questions) (map word_of (fields l)) ≡ question_line_of p.roads.vertices None
    (questions_begun p.questions) (map word_in slots) list.is_list list.count (sources_given list) =
    subst (λ n. question_line n None (questions_begun p.questions) (map word_of (fields l)) ≡ question_line_of n None (questions_begun p.questions)
    (map word_in slots) list.is_list list.count (sources_given list)) p.same
    (list_rule list None (questions_begun p.questions) slots l shown h) in
    ap (λ r. r >>= λ q. Ok (InQuestions (roads_so_far p.roads) q)) same

-- a line of the letter `a` and three numbers does not end the graph part
begins_none : (letter : ℕ) (one two three : List ℕ) → letter ≡ 97 → begins_questions (map word_of ((letter ∷ []) ∷ one ∷ two ∷ three ∷ [])) ≡ false
unfolding begins_questions
begins_none letter one two three is = rw is refl

-- the rule of such a line in the graph part
pub short_rule : (p : BundlePart) (g new : GraphParser) (l : List ℕ) (letter tail head weight : ℕ) → bundle_so_far p ≡ InGraph (taken_of g) → letter ≡ 97 → HasShortFields l letter tail head weight
    → gr_line (taken_of g) (map word_of (fields l)) ≡ Ok (taken_of new) → bundle_line (bundle_so_far p) (map word_of (fields l)) ≡ Ok (InGraph (taken_of new))
short_rule p g new l letter tail head weight was a h taken =
    let none : begins_questions (map word_of (fields l)) ≡ false = ap (λ fs. begins_questions (map word_of fs)) h.is ∙ begins_none letter h.one h.two h.three a in
    ap (λ b. bundle_line b (map word_of (fields l))) was ∙ rw (none, taken) refl

-- what a new parser gives is the text's by the rules
module _ {G : Type 0} (roads : G → GraphData) (p : BundlePart) (start : bundle_so_far p ≡ InGraph None) where
  pub by_value : (cut : Bool) (ls : List (List ℕ)) (b : G × Questions) → GivesBundle roads cut p 1 ls (Ok b) → value_of_lines cut bundle_rules 1 (InGraph None) ls ≡ Ok (bundle_with roads b)
  by_value cut ls b h = subst (λ o. value_of_lines cut bundle_rules 1 o ls ≡ Ok (bundle_with roads b)) start h.0

  pub by_fault : (cut : Bool) (ls : List (List ℕ)) (f : ReadFault) → GivesBundle roads cut p 1 ls (Err f) → value_of_lines cut bundle_rules 1 (InGraph None) ls ≡ Err f
  by_fault cut ls f h = subst (λ o. value_of_lines cut bundle_rules 1 o ls ≡ Err f) start h.0

  pub by_fit : (cut : Bool) (ls : List (List ℕ)) (b : G × Questions) → GivesBundle roads cut p 1 ls (Ok b) → AreQuestionsOf (roads b.0).vertices b.1
  by_fit cut ls b h = h.1
