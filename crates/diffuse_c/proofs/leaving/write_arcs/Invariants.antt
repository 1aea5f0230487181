use Rattle.std.proofs.Common.{◌≡◌, length, take, drop}
use Rattle.diffuse_c.proofs.Words.{map, arc_out_of}
use Rattle.diffuse_c.proofs.leaving.write_arcs.Given as goal

abbrev pub invariant-loop-i : goal.invariant-loop-i
invariant-loop-i l = record {
  long : length l.arcs ≡ length l.initial.arcs;
  list : take l.i l.arcs ≡ map (arc_out_of l.v) (take l.i l.roads);
  rest : drop (length l.roads) l.arcs ≡ drop (length l.roads) l.initial.arcs;
}
