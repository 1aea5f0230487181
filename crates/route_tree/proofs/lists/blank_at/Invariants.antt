use Rattle.route_tree.proofs.Words.{◌≡◌, length, drop, IsBlankBut}
use Rattle.route_tree.proofs.lists.blank_at.Given as goal

abbrev pub invariant-loop-v : goal.invariant-loop-v
invariant-loop-v g l = record {
  count : length l.list.items ≡ length l.fn.list.items;
  left : IsBlankBut l.blank (drop l.v-index l.found) l.list.items;
}
