use Rattle.answer_lists.proofs.Words.{◌≡◌, length, take, drop, map, hops_at}
use Rattle.answer_lists.proofs.near_lists.write_hops.Given as goal

abbrev pub invariant-loop-i : goal.invariant-loop-i
invariant-loop-i g l = record {
  long : length l.hops ≡ length l.initial.hops;
  list : take l.i l.hops ≡ map (hops_at l.found.tree) (take l.i l.found.reached);
  rest : drop (length l.found.reached) l.hops ≡ drop (length l.found.reached) l.initial.hops;
}
