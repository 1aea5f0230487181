use Rattle.std.specs.Prelude.{false}
use Rattle.std.specs.List.{All}
use Rattle.std.proofs.Common.{take}
use Rattle.command_files.proofs.creating.is_among.Given as goal

abbrev pub invariant-loop-other : goal.invariant-loop-other
invariant-loop-other g l = All (λ other. g.P.FileSystem.tells_same l.files l.path other.now false) (take l.other-index l.others)
