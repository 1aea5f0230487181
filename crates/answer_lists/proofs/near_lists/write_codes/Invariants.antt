use Rattle.answer_lists.proofs.Words.{◌≡◌, length, take, drop, map, code_at}
use Rattle.answer_lists.proofs.near_lists.write_codes.Given as goal

abbrev pub invariant-loop-i : goal.invariant-loop-i
invariant-loop-i g l = record {
  long : length l.codes ≡ length l.initial.codes;
  list : take l.i l.codes ≡ map (code_at (g.A.PathAlgebra.meaning l.algebra) l.found.labels) (take l.i l.found.reached);
  rest : drop (length l.found.reached) l.codes ≡ drop (length l.found.reached) l.initial.codes;
}
