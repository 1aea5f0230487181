-- A text in memory.
use Rattle.std.specs.Prelude.{ℕ, List, [], Some}
use Rattle.text_lines.specs.Streams.{Output}

-- an output that has taken this text: it holds nothing back, and no write failed
abbrev pub in_memory : List ℕ → Output (List ℕ)
in_memory text = record { state = text; written = Some text; held = []; failures = 0 }
