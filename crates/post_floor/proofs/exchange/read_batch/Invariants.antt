use Rattle.std.proofs.Common.{[], ◌∷◌}
use Rattle.post_floor.proofs.exchange.read_batch.Given as goal

abbrev pub ghosts-read_word : goal.ghosts-read_word
ghosts-read_word g a = record { parts = a.part.now ∷ [] }
