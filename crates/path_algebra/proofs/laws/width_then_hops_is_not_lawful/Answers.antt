use Rattle.path_algebra.proofs.WidthThenHops.{not_lawful}
use Rattle.path_algebra.proofs.laws.width_then_hops_is_not_lawful.Goals as goal

pub returns : goal.returns
returns c = not_lawful
