-- Questions and bundles have faults of the numbers 10 to 19 alone, as graphs do.
use Rattle.road_files.proofs.Words.{ℕ, List, ◌∷◌, [], length, drop, map, Bool, Option, Some, None, Result, arith, Word, word_of, vertex_in, Kind, Question}
use Rattle.graph_text.proofs.RuleLaws.{IsRoad, fine, wrong, step, test, either, number, vertex, graph_line, whole}
use Rattle.road_files.specs.QuestionFiles.{AskedSoFar, may_be, accepted, question_problem, asked_before, begins_list, vertices_in, source_of_line, pair_of_line, sources_of_line, one_question, question_line, question_line_of, question_end, question_rules}
use Rattle.road_files.specs.BundleFiles.{BundleSoFar, InGraph, InQuestions, bundle_line, bundle_end}

kind : (only k : Option Kind) → IsRoad (accepted only k)
kind only None = wrong 12 (omega arith) (omega arith)
kind only (Some k) = either (may_be only k) _ _ (fine k) (wrong 12 (omega arith) (omega arith))

asked : (s : Option AskedSoFar) → IsRoad (asked_before s)
asked None = wrong 10 (omega arith) (omega arith)
asked (Some s) = fine s

begins : (only : Option Kind) (s : Option AskedSoFar) (ws : List Word) → IsRoad (question_problem only s ws)
unfolding question_problem
begins only s ws = search (arith, step, test, kind, number, fine) depth 40

vertices : (n : ℕ) (ws : List Word) → IsRoad (vertices_in n ws)
vertices n [] = fine []
vertices n (w ∷ ws) = step (vertex_in n w.number) _ (vertex n w.number) λ v. step (vertices_in n ws) _ (vertices n ws) λ vs. fine (v ∷ vs)

source : (n : ℕ) (ws : List Word) → IsRoad (source_of_line n ws)
unfolding source_of_line
source n ws = search (arith, step, test, vertex, fine) depth 40

pair : (n : ℕ) (ws : List Word) → IsRoad (pair_of_line n ws)
unfolding pair_of_line
pair n ws = search (arith, step, test, vertex, fine) depth 40

sources : (count : ℕ) (vs : Result (List ℕ) ℕ) → IsRoad vs → IsRoad (sources_of_line count vs)
unfolding sources_of_line
sources count vs h = search (arith, step, test, h, fine) depth 40

question : (k : Kind) (s : Option AskedSoFar) (q : Result Question ℕ) → IsRoad q → IsRoad (one_question k s q)
question k s q h = search (arith, step, test, asked, h, fine) depth 40

-- a line of questions
pub questions_line : (n : ℕ) (only : Option Kind) (s : Option AskedSoFar) (ws : List Word) (in_list : Bool) (count : ℕ) (vs : Result (List ℕ) ℕ) → IsRoad vs →
    IsRoad (question_line_of n only s ws in_list count vs)
unfolding question_line_of
questions_line n only s ws in_list count vs h = search (arith, either, begins, question, source, pair, sources, h, fine, wrong) depth 40

pub line_of_questions : (n : ℕ) (only : Option Kind) (s : Option AskedSoFar) (fs : List (List ℕ)) → IsRoad ((question_rules n only).line s fs)
line_of_questions n only s fs = let ws = map word_of fs in questions_line n only s ws (begins_list ws) (length ws) (vertices_in n (drop 1 ws)) (vertices n (drop 1 ws))

-- their end
pub questions_end : (s : Option AskedSoFar) → IsRoad (question_end s)
questions_end s = search (arith, step, test, asked, fine) depth 40

-- a line of a bundle
pub bundles_line : (s : BundleSoFar) (ws : List Word) → IsRoad (bundle_line s ws)
bundles_line (InGraph s) ws = search (step, either, whole, begins, graph_line, fine) depth 40
bundles_line (InQuestions r s) ws = let read = question_line r.vertices None s ws in step read _
    (questions_line r.vertices None s ws (begins_list ws) (length ws) (vertices_in r.vertices (drop 1 ws)) (vertices r.vertices (drop 1 ws))) (λ q. fine (InQuestions r q))

-- its end
pub bundles_end : (s : BundleSoFar) → IsRoad (bundle_end s)
bundles_end (InGraph s) = search (arith, step, whole, wrong) depth 40
bundles_end (InQuestions r s) = search (step, questions_end, fine) depth 40
