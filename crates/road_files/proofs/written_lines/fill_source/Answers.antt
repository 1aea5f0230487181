use Rattle.road_files.proofs.Words.{arith, common_steps, spelled}
use Rattle.road_files.proofs.written_lines.fill_source.Goals as goal

pub returns : goal.returns
unfolding spelled
returns c = grind (arith, common_steps)
