use Rattle.path_factors.proofs.weighing.Weighing.open.Goals as goal

pub invariant_of-result : goal.invariant_of-result
invariant_of-result g c = c.requires.links
