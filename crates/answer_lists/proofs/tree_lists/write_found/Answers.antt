use Rattle.answer_lists.proofs.Words.{◌+◌, arith, refl, IsVertexLine, line_of}
use Rattle.answer_lists.proofs.Filling.{none_written, next_written, all_written}
use Rattle.answer_lists.proofs.tree_lists.write_found.Goals as goal

pub loop-i-init : goal.loop-i-init
loop-i-init g c =
    let l = c.args.lists.now in record {
      same = (refl, refl, refl);
      written = none_written (g.A.PathAlgebra.meaning c.args.algebra) c.args.graph.now c.args.sources.now l.codes.now l.hops.now l.parents.now c.requires.places;
    }

pub loop-i-preserved : goal.loop-i-preserved
loop-i-preserved g c =
    let A = g.A.PathAlgebra.meaning c.args.algebra in let i = c.loop-i.i in let l = c.loop-i.lists in
    let line : IsVertexLine A c.args.graph.now c.args.sources.now (i + 1) (line_of c.code_for.result c.hops_for.result c.parent_for.result) =
    rw (c.code_for.ensures, c.value.ensures, c.hops_for.ensures, c.hops.ensures, c.parent_for.ensures, c.parent.ensures)
    (c.requires.found.lines (i + 1) (omega arith, omega (arith, c.loop-i-test.true, c.vertices-i-end.ensures.count))) in
    record {
      same = c.loop-i.invariant.same;
      written = rw (c.put.ensures, c.put-in-loop-i.ensures, c.put-in-loop-i-2.ensures)
          (next_written A c.args.graph.now c.args.sources.now l.codes.now l.hops.now l.parents.now i c.loop-i.invariant.written
          (omega (arith, c.loop-i-test.true, c.vertices-i-end.ensures.count)) c.code_for.result c.hops_for.result c.parent_for.result line);
    }

pub returns-clause-tree : goal.returns-clause-tree
returns-clause-tree g c =
    let l = c.loop-i.lists in
    all_written (g.A.PathAlgebra.meaning c.args.algebra) c.args.graph.now c.args.sources.now l.codes.now l.hops.now l.parents.now c.loop-i.i c.loop-i.invariant.written
    (omega (arith, c.loop-i-test.false, c.vertices-i-end.ensures.count))
