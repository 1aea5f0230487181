use Rattle.std.proofs.Common.{◌≡◌, vec_len}
use Rattle.post_floor.proofs.Words.{All, View, AreJoined}
use Rattle.post_floor.proofs.close.join_all.Given as goal

abbrev pub invariant-loop-seat : goal.invariant-loop-seat
invariant-loop-seat g l = (l.all.table_id ≡ l.table.table_id) × All (λ d. d.floor ≡ l.table.table_id) l.seats.items
    × ((w : View g.row.A.Denot g.row.A-Value.Denot) → AreJoined w l.all.me.0 l.seats.items → AreJoined w l.fn.all.me.0 l.fn.seats.items)

abbrev pub decreases-loop-seat : goal.decreases-loop-seat
decreases-loop-seat g l = vec_len l.seats
