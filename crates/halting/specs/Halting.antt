-- Which searches may give up.
use Rattle.std.specs.Prelude.{⊤}
use Rattle.halting.specs.declared.halt.Halt.{Halt}
use Rattle.halting.specs.declared.halt.Halt.TheVariants.{Never, After, Stopped}

-- a search with it may give up before it has found its answer
abbrev pub CanHalt : Halt → Type 0
CanHalt Never = ⊥
CanHalt (After left) = ⊤
CanHalt (Stopped stop left) = ⊤
