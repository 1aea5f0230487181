-- What a handle owns may go to another thread.
use Rattle.diffuse_c.proofs.Words.{Option, Some, None, lone, RawPtr, RattleType, Shared, Stop, Numbering}
use mir.Raw.{raw}
use base.Fraction.{full_share}
use base.Shift.{Keyless}
use denote.RawPtr.{Ptr, block_ptr, null_ptr, lies_at}
use denote.Param.Send.{IsSend, owning_send, part_keyless, sendable}
use Rattle.std.proofs.Crossing.{crosses, frees}
use Rattle.path_algebra.specs.declared.algebra.PathAlgebra.{Ghosts}
use Rattle.answer_lists.specs.contracts.kept.Kept as kept
use Rattle.route_tree.specs.contracts.pair_searcher.PairSearcher as pairs
use Rattle.tree_search.specs.contracts.searcher.TreeSearcher as trees
use Rattle.halting.specs.contracts.stop.Stop as stop
use Rattle.arc_numbers.specs.contracts.numbers.ArcNumbers as numbers
use Rattle.answer_lists.specs.contracts.shared_graph.SharedGraph as shared
use Rattle.diffuse_c.specs.Holding.{held_at, owner_of, owner_row, the_heap}
use Rattle.diffuse_c.specs.contracts.held.Held.{the_row, the_type}

lies : (R : RattleType) → IsSend R → (p : Ptr) (x : R.Denot) → Keyless (lies_at R full_share p x)
lies R s (block_ptr b o) x = part_keyless R s full_share x b o
lies R s null_ptr x = tt

pairs_send : (A V : RattleType) (h : Ghosts A.Denot V.Denot) → IsSend A → IsSend V → IsSend (pairs.the_row A V h)
pairs_send A V h a v = search (sendable, crosses) depth 60 fits 100000

trees_send : (A V : RattleType) (h : Ghosts A.Denot V.Denot) → IsSend A → IsSend V → IsSend (trees.the_row A V h)
trees_send A V h a v = search (sendable, crosses) depth 60 fits 100000

searching : IsSend kept.the_row
searching = search (sendable, crosses, pairs_send, trees_send) depth 60 fits 100000

sharing : IsSend shared.the_row
sharing = search (sendable, crosses, searching) depth 60 fits 100000

stopping : IsSend stop.the_row
stopping = search (sendable, crosses) depth 60 fits 100000

numbering : IsSend numbers.the_row
numbering = search (sendable, crosses) depth 60 fits 100000

inside : IsSend owner_row
inside = search (sendable, crosses, sharing, stopping, numbering) depth 60 fits 100000

keyless : (p : Ptr) (x : Option Shared) (y : Option Stop) (n : Option Numbering) → Keyless (held_at p x y n)
keyless p None y n = tt
keyless p (Some g) y n = (lies owner_row inside p (owner_of g y n), frees.frees the_heap (raw (lone owner_row.mir)) p)

pub send : IsSend the_row
send = let ps : IsSend RawPtr = search sendable in owning_send the_type (ps, tt) (λ d. keyless d.at d.shared d.stop d.numbers) (λ k x w. tt)
