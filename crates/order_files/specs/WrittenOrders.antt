-- The one written spelling of an order: the place of each vertex, one a line.
use Rattle.std.specs.Prelude.{ℕ, List, [], ◌∷◌, map, decimal}
use Rattle.text_lines.specs.Texts.{text_of}

-- the line of a place
abbrev pub place_words : ℕ → List (List ℕ)
place_words place = decimal place ∷ []

-- the text of places
abbrev pub places_text : List ℕ → List ℕ
places_text places = text_of (map place_words places)
