-- A graph and then questions that are written are read again as a bundle.
use Rattle.road_files.proofs.Words.{◌≡◌, ◌≢◌, ℕ, ◌+◌, ◌*◌, ◌≤◌, List, [], ◌∷◌, ◌++◌, length, map, false, Option, Some, None, Ok, refl, sym, ap, ◌∙◌, arith, length-append, AllByRecursion, le-ltb, ◌>>=◌, text_value, text_read, text_of, spelled, AreLines, word_of, Kind, Multi, Questions, Asked, asked_of, AreQuestionsOf, AskedSoFar, question_rules, InGraph, InQuestions, begins_questions, bundle_rules, bundle_end, problem_words, question_words, question_lines, questions_text}
use Rattle.std.proofs.lemmas.Grind.{flat_map-append}
use Rattle.road_graph.specs.declared.RoadArc.{RoadArc}
use Rattle.road_graph.specs.GraphData.{GraphData, IsGraph}
use Rattle.graph_text.specs.GraphFiles.{RoadsSoFar, gr_line, gr_rules}
use Rattle.graph_text.specs.WrittenGraphs.{arc_words, graph_lines, gr_text}
use Rattle.text_lines.proofs.RoundTrip.{after, after_append, first_step, value_again, read_again}
use Rattle.graph_text.proofs.WrittenGraphs.{graph_after, graph_are_lines, graph_length}
use Rattle.road_files.proofs.QuestionLaws.{questions_of, problem_step, questions_after, questions_are_lines, problem_is_line, short_text}

-- the lines do not end the graph part
abbrev StaysInGraph : List (List (List ℕ)) → Type 0
StaysInGraph ls = AllByRecursion (λ l. begins_questions (map word_of l) ≡ false) ls

arcs_stay : (arcs : List RoadArc) → StaysInGraph (map arc_words arcs)
unfolding begins_questions
arcs_stay [] = tt
arcs_stay (a ∷ arcs) = (refl, arcs_stay arcs)

graph_stays : (g : GraphData) → StaysInGraph (graph_lines g)
unfolding begins_questions
graph_stays g = (refl, arcs_stay g.arcs)

graph_step : (s t : Option RoadsSoFar) (l : List (List ℕ)) → begins_questions (map word_of l) ≡ false → gr_line s (map word_of l) ≡ Ok t → bundle_rules.line (InGraph s) l ≡ Ok (InGraph t)
graph_step s t l b e = rw (b, e) refl

graph_part : (s t : Option RoadsSoFar) (ls : List (List (List ℕ))) → StaysInGraph ls → after gr_rules s ls ≡ Ok t → after bundle_rules (InGraph s) ls ≡ Ok (InGraph t)
graph_part s t [] stays e = let same : s ≡ t = cc in ap (λ u. Ok (InGraph u)) same
graph_part s t (l ∷ ls) stays e =
    let p = first_step gr_rules s t l ls (gr_rules.line s l) refl e in
    ap (λ r. r >>= λ u. after bundle_rules u ls) (graph_step s p.0 l stays.0 p.1) ∙ graph_part p.0 t ls stays.1 p.2

question_part : (roads : RoadsSoFar) (s t : Option AskedSoFar) (ls : List (List (List ℕ))) → after (question_rules roads.vertices None) s ls ≡ Ok t →
    after bundle_rules (InQuestions roads s) ls ≡ Ok (InQuestions roads t)
question_part roads s t [] e = let same : s ≡ t = cc in ap (λ u. Ok (InQuestions roads u)) same
question_part roads s t (l ∷ ls) e =
    let p = first_step (question_rules roads.vertices None) s t l ls ((question_rules roads.vertices None).line s l) refl e in
    ap (λ r. (r >>= λ u. Ok (InQuestions roads u)) >>= λ u. after bundle_rules u ls) p.1 ∙ question_part roads p.0 t ls p.2

-- the problem line of the question part
turn : (roads : RoadsSoFar) (kind : Kind) (k : ℕ) → length roads.arcs ≡ roads.announced → k ≤ 1048576
    → bundle_rules.line (InGraph (Some roads)) (problem_words kind k) ≡ Ok (InQuestions roads (Some (record { kind = kind; announced = k; questions = [] })))
unfolding begins_questions
turn roads kind k complete small = rw (le-ltb (length roads.arcs) roads.announced (omega arith), problem_step None kind k refl small) refl

both_lines : (ls more : List (List (List ℕ))) → AreLines ls → AreLines more → AreLines (ls ++ more)
both_lines [] more h k = k
both_lines (l ∷ ls) more h k = (h.0, both_lines ls more h.1 k)

texts_together : (g : GraphData) (a : Asked) → text_of (graph_lines g ++ question_lines a) ≡ gr_text g ++ questions_text a
unfolding gr_text questions_text
texts_together g a = flat_map-append spelled (graph_lines g) (question_lines a)

module _ (g : GraphData) (q : Questions) (h : IsGraph g) (fit : AreQuestionsOf g.vertices q) where
  roads : RoadsSoFar
  roads = record { vertices = g.vertices; announced = length g.arcs; arcs = g.arcs }

  asked : AskedSoFar
  asked = record { kind = (asked_of q).kind; announced = length (asked_of q).questions; questions = (asked_of q).questions }

  read : after bundle_rules (InGraph None) (graph_lines g ++ question_lines (asked_of q)) ≡ Ok (InQuestions roads (Some asked))
  unfolding roads asked
  read =
      after_append bundle_rules (InGraph None) (InGraph (Some roads)) (graph_lines g) (question_lines (asked_of q)) (graph_part None (Some roads) (graph_lines g) (graph_stays g) (graph_after g h))
      ∙ ap (λ r. r >>= λ u. after bundle_rules u (map question_words (asked_of q).questions)) (turn roads (asked_of q).kind (length (asked_of q).questions) refl fit.few)
      ∙ question_part roads (Some (record { kind = (asked_of q).kind; announced = length (asked_of q).questions; questions = [] })) (Some asked) (map question_words (asked_of q).questions)
      (questions_after g.vertices None (asked_of q).kind (length (asked_of q).questions) [] (asked_of q).questions h.few_vertices (omega arith) (questions_of g.vertices q fit.within))

  ended : bundle_end (InQuestions roads (Some asked)) ≡ Ok (g, asked_of q)
  unfolding roads asked
  ended = rw (le-ltb (length (asked_of q).questions) (length (asked_of q).questions) (omega arith)) refl

  -- the text of both, as a whole, has both as its value
  value_of_bundle : text_value bundle_rules (gr_text g ++ questions_text (asked_of q)) ≡ Ok (g, asked_of q)
  value_of_bundle =
      let all : AreLines (graph_lines g ++ question_lines (asked_of q)) =
      both_lines (graph_lines g) (question_lines (asked_of q)) (graph_are_lines g h) (
        problem_is_line (asked_of q).kind (length (asked_of q).questions) fit.few,
        questions_are_lines g.vertices (asked_of q).kind (asked_of q).questions h.few_vertices
            (questions_of g.vertices q fit.within),
      ) in
      ap (text_value bundle_rules) (sym (texts_together g (asked_of q))) ∙ value_again bundle_rules _ (g, asked_of q) (graph_lines g ++ question_lines (asked_of q)) all read ended

-- the same where the text is not too long
pub bundle_again : (g : GraphData) (q : Questions) → IsGraph g → AreQuestionsOf g.vertices q → length (gr_text g ++ questions_text (asked_of q)) ≤ 4294967296 →
    text_read bundle_rules (gr_text g ++ questions_text (asked_of q)) ≡ Ok (g, asked_of q)
bundle_again g q h fit few = read_again bundle_rules (g, asked_of q) (gr_text g ++ questions_text (asked_of q)) few (value_of_bundle g q h fit)

-- which only lists of sources can make it
pub short_bundle : (g : GraphData) (q : Questions) → IsGraph g → AreQuestionsOf g.vertices q → (asked_of q).kind ≢ Multi → length (gr_text g ++ questions_text (asked_of q)) ≤ 4294967296
short_bundle g q h fit other =
    let graph : length (gr_text g) ≤ 31 * 134217728 + 24 = graph_length g h in
    let questions : length (questions_text (asked_of q)) ≤ 20 * 1048576 + 21 = short_text g.vertices q h.few_vertices other fit in
    let both : length (gr_text g ++ questions_text (asked_of q)) ≡ length (gr_text g) + length (questions_text (asked_of q)) = length-append (gr_text g) (questions_text (asked_of q)) in
    omega arith
