use Rattle.std.proofs.Common.{arith}
use Rattle.text_lines.proofs.ListLaws.{list_then, list_fell}
use Rattle.road_files.proofs.writing.write_list.Goals as goal

pub returns : goal.returns
returns g c = grind (arith, list_then, list_fell)

pub returns-in_err-write_bytes : goal.returns-in_err-write_bytes
returns-in_err-write_bytes g c = grind (arith, list_then, list_fell)
