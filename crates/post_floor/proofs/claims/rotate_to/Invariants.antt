use Rattle.post_floor.proofs.Words.{◌≡◌, ◌<◌, ◌≤◌, length, map, SetupData, total, is, View, before, AreOpen}
use Rattle.std.specs.Prelude.{ℕ}
use Rattle.post_floor.proofs.claims.rotate_to.Given as goal

abbrev pub invariant-loop-claims : goal.invariant-loop-claims
invariant-loop-claims g l = record {
  keys : map (λ x. x.0) l.pass.me.1 ≡ l.claims.items;
  count : length l.claims.items ≡ length l.initial.claims.items;
  capacity : l.claims.capacity ≡ l.initial.claims.capacity;
  room : length l.claims.items ≤ l.claims.capacity;
  table : l.pass.table_id ≡ l.initial.pass.table_id;
  id : l.pass.id ≡ l.initial.pass.id;
  view : l.pass.me.0 ≡ l.initial.pass.me.0;
  claim : 0 < total (is l.word) l.claims.items;
  open_still : (t : SetupData g.row.A.Denot) (s : ℕ) (v : View g.row.A.Denot g.row.A-Value.Denot) → AreOpen t s v l.initial.pass.me.1 l.initial.claims.items → AreOpen t s v l.pass.me.1 l.claims.items;
}

abbrev pub decreases-loop-claims : goal.decreases-loop-claims
decreases-loop-claims g l = before l.word l.claims.items
