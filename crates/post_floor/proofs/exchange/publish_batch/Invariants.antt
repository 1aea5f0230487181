use Rattle.std.proofs.Common.{[], ◌∷◌}
use Rattle.post_floor.proofs.exchange.publish_batch.Given as goal

abbrev pub ghosts-publish_word : goal.ghosts-publish_word
ghosts-publish_word g a = record { parts = a.part.now ∷ [] }
