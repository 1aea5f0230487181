use Rattle.scholten_core.proofs.Words.{well_formed, network}
use Rattle.scholten_core.proofs.Busy.{goes_on}
use Rattle.scholten_core.proofs.laws.a_run_is_never_stuck.Goals as goal

pub returns : goal.returns
returns g c = λ r s R S es. goes_on (g.A.PathAlgebra.meaning c.args.algebra) (network r s) c.laws_hold.ensures.lawful (well_formed r s R S.0) es
