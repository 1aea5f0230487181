use Rattle.tree_search.proofs.Words.{◌≡◌, length, drop, AreNoted}
use Rattle.tree_search.proofs.table.put_back.Given as goal

abbrev pub invariant-loop-v : goal.invariant-loop-v
invariant-loop-v g l = record {
  count : length l.marks ≡ length l.fn.marks;
  settled_count : length l.settled.items ≡ length l.fn.marks;
  left : AreNoted (length l.fn.marks) (drop l.v-index l.list) l.marks l.settled.items;
}
