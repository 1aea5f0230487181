use Rattle.std.proofs.Common.{arith, refl}
use Rattle.answer_lists.proofs.Filling.{none_written, next_written, all_written}
use Rattle.answer_lists.proofs.tree_lists.write_lists.Goals as goal

pub loop-i-init : goal.loop-i-init
loop-i-init g c =
    let l = c.args.lists.now in record {
      same = (refl, refl, refl);
      written = none_written (g.A.PathAlgebra.meaning c.args.algebra) c.args.graph.now c.args.sources.now l.codes.now l.hops.now l.parents.now c.requires.places;
    }

pub loop-i-preserved : goal.loop-i-preserved
loop-i-preserved g c =
    let (code, near, parent) = c.numbers_of-code.result in let l = c.loop-i.lists in record {
      same = c.loop-i.invariant.same;
      written = rw (c.put.ensures, c.put-in-loop-i.ensures, c.put-in-loop-i-2.ensures)
          (next_written (g.A.PathAlgebra.meaning c.args.algebra) c.args.graph.now c.args.sources.now l.codes.now l.hops.now l.parents.now c.loop-i.i c.loop-i.invariant.written
          (omega (arith, c.loop-i-test.true, c.vertices-i-end.ensures.count)) code near parent c.numbers_of-code.ensures);
    }

pub returns-clause-tree : goal.returns-clause-tree
returns-clause-tree g c =
    let l = c.loop-i.lists in
    all_written (g.A.PathAlgebra.meaning c.args.algebra) c.args.graph.now c.args.sources.now l.codes.now l.hops.now l.parents.now c.loop-i.i c.loop-i.invariant.written
    (omega (arith, c.loop-i-test.false, c.vertices-i-end.ensures.count))
