use Rattle.std.proofs.Common.{sym}
use Rattle.path_factors.proofs.Packing.{row_between}
use Rattle.path_factors.proofs.heads.row_between.Goals as goal

pub returns : goal.returns
returns c = sym (row_between c.args.starts.now c.args.places.now c.args.i c.requires.inside)
