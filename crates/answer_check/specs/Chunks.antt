-- Chunks of answers.
use Rattle.std.specs.Prelude.{ℕ, ◌+◌, ◌*◌, min}
use Rattle.answer_check.specs.declared.chunks.Chunks.{Chunks}

-- where chunk k begins, and the one before it ends
abbrev pub chunk_start : Chunks → ℕ → ℕ
chunk_start r k = min (r.start + k * r.each) r.end
