-- The rules of numbers, vertices and graph lines: what is kept of a line is enough for them, and
-- their faults have the numbers 10 to 19.
use Rattle.std.proofs.Common.{◌≡◌, ℕ, ◌<◌, min, Option, Some, None, option_map, refl, arith, List, take, map, sym, lit<, codes, if◌then◌else◌, ◌≤◌, Bool, Result, Ok, Err}
use Rattle.graph_text.proofs.Words.{common_steps, Word, word_of, word_at, held_word, ◌>>=◌, unless, vertex_in, up_to, GraphBuilder, roads_so_far}
use Rattle.std.specs.Option.{IfSome}
use Rattle.text_lines.proofs.WordLaws.{Keeps, keeps, short_word, first_byte, number_held}
use Rattle.text_lines.proofs.ParserLaws.{IsOwn, own_then, own_unless, own_if, own_up_to}
use Rattle.graph_text.specs.GraphFiles.{RoadsSoFar, one_arc, gr_arc, gr_problem, gr_line, roads_before, gr_whole, gr_rules}

-- what is kept of a number is enough for a vertex
pub vertex_held : (n : ℕ) (o : Option ℕ) → n < 18446744073709551616 → vertex_in n (option_map (λ v. min v 18446744073709551616) o) ≡ vertex_in n o
vertex_held n None h = refl
vertex_held n (Some v) h = grind (arith, common_steps)

-- what is kept of a line is enough for the rules of a graph file
module _ (kept ws : List Word) (k : Keeps kept ws) where
  arc_held : (r : RoadsSoFar) → r.vertices < 18446744073709551616 → one_arc r kept ≡ one_arc r ws
  unfolding one_arc
  arc_held r small = rw (
    k.count 4 (lit< tt),
    k.word 1 (lit< tt),
    k.word 2 (lit< tt),
    k.word 3 (lit< tt),
    vertex_held r.vertices (word_at 1 ws).number small,
    vertex_held r.vertices (word_at 2 ws).number small,
    number_held 15 16 4294967295 (word_at 3 ws).number (lit< tt),
  ) refl

  problem_held : (s : Option RoadsSoFar) → gr_problem s kept ≡ gr_problem s ws
  unfolding gr_problem
  problem_held s = rw (
    k.count 4 (lit< tt),
    k.word 1 (lit< tt),
    k.word 2 (lit< tt),
    k.word 3 (lit< tt),
    short_word (word_at 1 ws).text (codes "sp") (lit< tt),
    number_held 15 16 33554432 (word_at 2 ws).number (lit< tt),
    number_held 15 16 134217728 (word_at 3 ws).number (lit< tt),
  ) refl

  gr_arc_held : (s : Option RoadsSoFar) → IfSome s (λ r. r.vertices < 18446744073709551616) → gr_arc s kept ≡ gr_arc s ws
  gr_arc_held None small = refl
  gr_arc_held (Some r) small = rw (arc_held r small) refl

  pub line_held : (s : Option RoadsSoFar) → IfSome s (λ r. r.vertices < 18446744073709551616) → gr_line s kept ≡ gr_line s ws
  unfolding gr_line
  line_held s small = rw (
    k.count 0 (lit< tt),
    k.word 0 (lit< tt),
    problem_held s,
    gr_arc_held s small,
    short_word (word_at 0 ws).text (codes "p") (lit< tt),
    short_word (word_at 0 ws).text (codes "a") (lit< tt),
    first_byte (word_at 0 ws).text,
  ) refl

-- the rule gives the same of the words and of what is kept of the fields
pub gr_line_kept : (s : Option RoadsSoFar) (kept : List Word) (fs : List (List ℕ)) → IfSome s (λ r. r.vertices < 18446744073709551616) → kept ≡ take 6 (map held_word fs) →
    gr_line s (map word_of fs) ≡ gr_line s kept
gr_line_kept s kept fs h e = sym (line_held kept (map word_of fs) (keeps kept fs e) s h)

-- the vertices of a graph that is read are few
pub few : (o : Option GraphBuilder) → IfSome (option_map roads_so_far o) (λ r. r.vertices < 18446744073709551616)
few None = tt
few (Some t) = omega (arith, t.graph.few_vertices)

-- no fault, or one of the numbers 10 to 19
abbrev pub IsRoad : {A : Type 0} → Result A ℕ → Type 0
IsRoad r = IsOwn 10 19 r

pub fine : {A : Type 0} (x : A) → IsRoad (Ok x)
fine x = record { own = tt }

pub wrong : {A : Type 0} (k : ℕ) → 10 ≤ k → k ≤ 19 → IsRoad {A = A} (Err k)
wrong k l g = record { own = (l, g) }

pub step : {A B : Type 0} (r : Result A ℕ) (f : A → Result B ℕ) → IsRoad r → ((x : A) → IsRoad (f x)) → IsRoad (r >>= f)
step r f h more = own_then 10 19 r f h more

pub test : {B : Type 0} (b : Bool) (k : ℕ) (f : Unit {0} → Result B ℕ) → 10 ≤ k → k ≤ 19 → IsRoad (f tt) → IsRoad (unless b k >>= f)
test b k f l g more = own_unless 10 19 b k f l g more

pub either : {A : Type 0} (b : Bool) (x y : Result A ℕ) → IsRoad x → IsRoad y → IsRoad (if b then x else y)
either b x y p q = own_if 10 19 b x y p q

pub number : (limit : ℕ) (o : Option ℕ) → IsRoad (up_to limit o)
number limit o = own_up_to 10 19 15 16 limit o (omega arith, omega arith) (omega arith, omega arith)

pub vertex : (n : ℕ) (o : Option ℕ) → IsRoad (vertex_in n o)
vertex n None = wrong 15 (omega arith) (omega arith)
vertex n (Some v) = either _ _ _ (wrong 17 (omega arith) (omega arith)) (fine v)

before : (s : Option RoadsSoFar) → IsRoad (roads_before s)
before None = wrong 10 (omega arith) (omega arith)
before (Some s) = fine s

problem : (s : Option RoadsSoFar) (ws : List Word) → IsRoad (gr_problem s ws)
unfolding gr_problem
problem s ws = search (arith, step, test, number, fine) depth 40

arc : (r : RoadsSoFar) (ws : List Word) → IsRoad (one_arc r ws)
unfolding one_arc
arc r ws = search (arith, step, test, number, vertex, fine) depth 40

-- a line of a graph
pub graph_line : (s : Option RoadsSoFar) (ws : List Word) → IsRoad (gr_line s ws)
unfolding gr_line
graph_line s ws = search (arith, step, either, before, problem, arc, fine, wrong) depth 40

pub whole : (s : Option RoadsSoFar) → IsRoad (gr_whole s)
whole s = search (arith, step, test, before, fine) depth 40

-- its end
pub graph_end : (s : Option RoadsSoFar) → IsRoad (gr_rules.end s)
graph_end s = search (step, whole, fine) depth 40
