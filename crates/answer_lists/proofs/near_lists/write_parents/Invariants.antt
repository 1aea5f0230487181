use Rattle.answer_lists.proofs.Words.{◌≡◌, length, take, drop, map, parent_at}
use Rattle.answer_lists.proofs.near_lists.write_parents.Given as goal

abbrev pub invariant-loop-i : goal.invariant-loop-i
invariant-loop-i g l = record {
  long : length l.parents ≡ length l.initial.parents;
  list : take l.i l.parents ≡ map (parent_at l.found.tree) (take l.i l.found.reached);
  rest : drop (length l.found.reached) l.parents ≡ drop (length l.found.reached) l.initial.parents;
}
