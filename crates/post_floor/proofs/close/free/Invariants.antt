use Rattle.std.proofs.Common.{◌≡◌, ℕ, ◌<◌, false, get_or}
use Rattle.std.specs.Mem.Slots.{slots_filled, slots_len}
use Rattle.std.specs.Mem.Slots.Ownership.{Filled}
use Rattle.post_floor.proofs.close.free.Given as goal

abbrev pub invariant-loop-index : goal.invariant-loop-index
invariant-loop-index g l =
    Filled (slots_filled l.closed.slots) l.index (slots_len l.closed.slots)
    × ((k : ℕ) → k < l.index → get_or (slots_filled l.closed.slots) k false ≡ false) × (slots_len l.closed.slots ≡ slots_len l.fn.closed.slots)
