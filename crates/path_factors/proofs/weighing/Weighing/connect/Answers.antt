use Rattle.path_factors.proofs.Words.{inl, inr, refl}
use Rattle.path_factors.proofs.weighing.Weighing.connect.Goals as goal

pub improve-requires-clause-leaving : goal.improve-requires-clause-leaving
improve-requires-clause-leaving g c κs within = c.requires.there c.args.x (inl refl)

pub improve-requires-then-y-x-clause-entering : goal.improve-requires-then-y-x-clause-entering
improve-requires-then-y-x-clause-entering g c κs within = c.requires.there c.args.y (inr refl)
