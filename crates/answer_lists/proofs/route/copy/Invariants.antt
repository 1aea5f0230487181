use Rattle.std.proofs.Common.{◌≡◌, length, take, drop}
use Rattle.answer_lists.proofs.route.copy.Given as goal

abbrev pub invariant-loop-i : goal.invariant-loop-i
invariant-loop-i l = record {
  long : length l.room ≡ length l.initial.room;
  list : take l.i l.room ≡ take l.i l.list;
  rest : drop (length l.list) l.room ≡ drop (length l.list) l.initial.room;
}
