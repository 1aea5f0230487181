-- Files of an order of the vertices 1 to n: line v has the place of vertex v, counted from 0.
use Rattle.std.specs.Prelude.{ℕ, ◌+◌, ◌-◌, ◌==◌, not, List, [], ◌∷◌, ◌++◌, length, map, slice_index, if◌then◌else◌, nat_lt, Result, Ok}
use Rattle.std.specs.List.{range_with_len}
use Rattle.text_lines.specs.Rules.{◌>>=◌, unless, Rules}
use Rattle.text_lines.specs.Words.{Word, word_of, word_at}
use Rattle.graph_text.specs.Numbers.{up_to}

-- the first vertex that has this place, if these are the places of vertex v and those after it;
-- 0 if none has it
abbrev pub placed_from : ℕ → List ℕ → ℕ → ℕ
placed_from v [] place = 0
placed_from v (p ∷ ps) place = if p == place then v else placed_from (v + 1) ps place

-- the first vertex that has this place, 0 if none has it
abbrev pub vertex_placed : List ℕ → ℕ → ℕ
vertex_placed places place = placed_from 1 places place

-- the vertices in the order of their places
abbrev pub order_of : ℕ → List ℕ → List ℕ
order_of n places = map (vertex_placed places) (range_with_len 0 n)

-- the next vertex has this place: no vertex before it has
unfoldable pub place_taken : List ℕ → ℕ → Result (List ℕ) ℕ
place_taken places place = do
  _ ← unless (vertex_placed places place == 0) 20
  Ok (places ++ place ∷ [])

-- a line: blank, a comment, or the place of the next vertex, if there is one
unfoldable pub order_line : ℕ → List ℕ → List Word → Result (List ℕ) ℕ
order_line n places ws =
    if length ws == 0 then Ok places
    else if slice_index (word_at 0 ws).text 0 == 99 then Ok places
    else (unless (not (length places == n)) 18 >>= λ _.
    unless (length ws == 1) 14 >>= λ _.
    up_to (n - 1) (word_at 0 ws).number >>= λ place.
    place_taken places place)

-- the end: each vertex has its place
abbrev pub order_end : ℕ → List ℕ → Result (List ℕ) ℕ
order_end n places = do
  _ ← unless (not (nat_lt (length places) n)) 19
  Ok (order_of n places)

-- the rules of a file of an order of n vertices: it gives the vertices in the order of their places
abbrev pub order_rules : ℕ → Rules (List ℕ) (List ℕ)
order_rules n = record { start = []; line = λ places fs. order_line n places (map word_of fs); end = order_end n }
