use Rattle.path_factors.proofs.Words.{◌≡◌, ◌++◌, take, row_of, marked}
use Rattle.path_factors.specs.Packing.{AreFields, links_of}
use Rattle.path_factors.proofs.packed.PackedRows.push_marked.Given as goal

abbrev pub invariant-loop-j : goal.invariant-loop-j
invariant-loop-j g l = record {
  fields : AreFields l.places.items l.leaving.items l.entering.items;
  rise : links_of l.places.items l.leaving.items ≡ links_of l.initial.places.items l.initial.leaving.items ++ marked (take l.j (row_of l.whole.leaving l.v)) l.marks;
  fall : links_of l.places.items l.entering.items ≡ links_of l.initial.places.items l.initial.entering.items ++ marked (take l.j (row_of l.whole.entering l.v)) l.marks;
}
