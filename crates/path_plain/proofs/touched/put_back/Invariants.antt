use Rattle.path_plain.proofs.Words.{◌≡◌, length, drop, AreNoted}
use Rattle.path_plain.proofs.touched.put_back.Given as goal

abbrev pub invariant-loop-v : goal.invariant-loop-v
invariant-loop-v g l = record {
  count : length l.labels ≡ length l.fn.labels;
  marks : length l.settled.items ≡ length l.fn.labels;
  left : AreNoted (length l.fn.labels) (drop l.v-index l.list) l.labels l.settled.items;
}
